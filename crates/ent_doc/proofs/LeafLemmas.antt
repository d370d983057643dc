-- What a leaf gives, whatever stands behind it.
use Rattle.std.proofs.lemmas.List.{nil_from_length}
use Rattle.std.proofs.Common.{length, ◌≡◌, ◌≢◌, ◌∙◌, ℕ, suc, List, [], ◌∷◌, refl, sym, ap, Result, Ok, Err, Option}
use Rattle.xt_spec.specs.Content.{Content, text_content, pi_content}
use Rattle.xt_spec.specs.Markup.{IsPiOf}
use Rattle.xt_spec.specs.LineEnds.{lines_read}
use Rattle.xt_spec.specs.Reading.{document}
use Rattle.xt_spec.specs.Text.{HasTextValue}
use Rattle.xt_spec.specs.Tree.{Items, leaf, text_item, comment_item, pi_item}
use Rattle.bk_spec.specs.Node.{Origin, owned, Nodes, text_node, pi_node}
use Rattle.bk_spec.specs.Fault.{Fault}
use Rattle.bk_spec.specs.DocumentNodes.{Context, and_then, with_room, nodes_of}
use Rattle.bk_info.specs.Address.{Address}
use Rattle.bk_info.specs.declared.node.Node.{Node}
use Rattle.bk_info.specs.declared.node.Node.TheVariants as code
use Rattle.bk_info.specs.Nodes.{node_in}
use Rattle.ent_doc.specs.Steps.{Fails, prepended, Gives, GivesFault}
use Rattle.ent_doc.proofs.FaultLemmas.{fails_as}
use Rattle.bk_info.proofs.Theorems.{text_is, pi_is}

-- a text of no bytes
pub is_void : (value : List ℕ) (n : ℕ) → n ≡ length value → n ≡ 0 → value ≡ []
is_void value n size none = nil_from_length value (sym size ∙ none)

pub is_not_void : (value : List ℕ) (n : ℕ) → n ≡ length value → n ≢ 0 → value ≢ []
is_not_void value n size some none = some (size ∙ ap (λ (l : List ℕ). length l) none)

-- no nodes
pub none_prepended : (others : Result Nodes Fault) → prepended [] others ≡ others
none_prepended (Ok nodes) = refl
none_prepended (Err fault) = refl

-- one node
pub one_prepended : (node : Node) (made : Nodes → Nodes) (others : Result Nodes Fault) → ((rest : Nodes) → node_in node rest ≡ made rest) → and_then (λ (rest : Nodes). Ok (made rest)) others ≡ prepended (node ∷ []) others
one_prepended node made (Ok nodes) is = ap (λ (n : Nodes). Ok n) (sym (is nodes))
one_prepended node made (Err fault) is = refl

text_room : (file : List ℕ) (context : Context) (n : ℕ) (value : List ℕ) (others : Content) → value ≢ []
    → nodes_of file context n (text_content value others) ≡ with_room file n (and_then (λ (rest : Nodes). Ok (text_node value (owned file document) rest)) (nodes_of file context (suc n) others))
text_room file context n [] others some = absurd (some refl)
text_room file context n (b ∷ value) others some = refl

pub text_gives : (file text : List ℕ) (context : Context) (rest : Items) (n m : ℕ) (value : List ℕ) (address : Address) → address.origin ≡ owned file document → ((other : List ℕ) → HasTextValue text other → other ≡ value) → value ≢ [] → m ≡ suc n
    → ((others : Result Nodes Fault) → with_room file n others ≡ others) → Gives file context (leaf text_item text rest) rest n m (code.Text value address ∷ [])
text_gives file text context rest n m value address own exact some more room content (other, others, has, gives, is) =
    let read : content ≡ text_content value others = is ∙ ap (λ (v : List ℕ). text_content v others) (exact other has) in
    let made : (r : Nodes) → node_in (code.Text value address) r ≡ text_node value (owned file document) r = λ r. text_is value address r ∙ ap (λ (o : Origin). text_node value o r) own in (
      others,
      gives,
      ap (nodes_of file context n) read ∙ text_room file context n value others some ∙ room _ ∙ one_prepended (code.Text value address) (λ r. text_node value (owned file document) r) (nodes_of file context (suc n) others) made
          ∙ ap (λ (k : ℕ). prepended (code.Text value address ∷ []) (nodes_of file context k others)) (sym more),
    )

-- a text with an empty value
pub void_gives : (file text : List ℕ) (context : Context) (rest : Items) (n : ℕ) (value : List ℕ) → ((other : List ℕ) → HasTextValue text other → other ≡ value) → value ≡ []
    → Gives file context (leaf text_item text rest) rest n n []
void_gives file text context rest n value exact none content (other, others, has, gives, is) =
    (others, gives, ap (nodes_of file context n) (is ∙ ap (λ (v : List ℕ). text_content v others) (exact other has ∙ none)) ∙ sym (none_prepended (nodes_of file context n others)))

pub text_fails : (file text : List ℕ) (context : Context) (rest : Items) (n : ℕ) (value : List ℕ) (fault : Option Fault) → ((other : List ℕ) → HasTextValue text other → other ≡ value) → value ≢ []
    → ((others : Result Nodes Fault) → Fails (with_room file n others) fault) → GivesFault file context (leaf text_item text rest) n fault
text_fails file text context rest n value fault exact some room content (other, others, has, gives, is) =
    fails_as _ _ fault (ap (nodes_of file context n) (is ∙ ap (λ (v : List ℕ). text_content v others) (exact other has)) ∙ text_room file context n value others some) (room _)

pub comment_fails : (file text : List ℕ) (context : Context) (rest : Items) (n : ℕ) (fault : Option Fault)
    → ((others : Result Nodes Fault) → Fails (with_room file n others) fault) → GivesFault file context (leaf comment_item text rest) n fault
comment_fails file text context rest n fault room content (inner, others, is_comment, gives, is) =
    fails_as _ _ fault (ap (nodes_of file context n) is) (room _)

pub pi_gives : (file text : List ℕ) (context : Context) (rest : Items) (n m : ℕ) (target value : List ℕ) (address : Address) → address.origin ≡ owned file document
    → ((t i : List ℕ) → IsPiOf text t i → (t ≡ target) × (lines_read i ≡ value)) → m ≡ suc n
    → ((others : Result Nodes Fault) → with_room file n others ≡ others) → Gives file context (leaf pi_item text rest) rest n m (code.Pi target value address ∷ [])
pi_gives file text context rest n m target value address own exact more room content (t, i, others, is_pi, gives, is) =
    let same = exact t i is_pi in
    let read : content ≡ pi_content target value others = is ∙ ap (λ (x : List ℕ). pi_content x (lines_read i) others) same.0 ∙ ap (λ (v : List ℕ). pi_content target v others) same.1 in
    let made : (r : Nodes) → node_in (code.Pi target value address) r ≡ pi_node target value (owned file document) r = λ r. pi_is target value address r ∙ ap (λ (o : Origin). pi_node target value o r) own in (
      others,
      gives,
      ap (nodes_of file context n) read ∙ room _ ∙ one_prepended (code.Pi target value address) (λ r. pi_node target value (owned file document) r) (nodes_of file context (suc n) others) made
          ∙ ap (λ (k : ℕ). prepended (code.Pi target value address ∷ []) (nodes_of file context k others)) (sym more),
    )

pub pi_fails : (file text : List ℕ) (context : Context) (rest : Items) (n : ℕ) (fault : Option Fault)
    → ((others : Result Nodes Fault) → Fails (with_room file n others) fault) → GivesFault file context (leaf pi_item text rest) n fault
pi_fails file text context rest n fault room content (t, i, others, is_pi, gives, is) =
    fails_as _ _ fault (ap (nodes_of file context n) is) (room _)
