-- The paths of the items that give nodes.
use Rattle.std.proofs.Common.{◌≡◌, ◌≢◌, ◌∙◌, ◌+◌, ℕ, suc, List, [], ◌∷◌, ◌++◌, refl, sym, ap, subst, arith, inl, inr, append_assoc, append-nil, Option, Bool, true, false, not, if◌then◌else◌}
use Rattle.std.proofs.lemmas.Bool.{cases_Bool}
use Rattle.xt_spec.specs.Content.{HasContent}
use Rattle.xt_spec.specs.Text.{HasTextValue, is_void}
use Rattle.xt_spec.specs.Tree.{Items, element, leaf, text_item, comment_item, pi_item, before, Item}
use Rattle.xt_tree.specs.declared.source.Src.{Src}
use Rattle.xt_lex.specs.declared.token.Span.{Span}
use Rattle.xt_tree.specs.declared.source.Src.TheVariants as src
use Rattle.xt_tree.specs.Meaning.{item_of, items_in}
use Rattle.xt_tree.proofs.Theorems.{reference_is, gap_is}
use Rattle.xt_value.proofs.Theorems.{void_is_empty}
use Rattle.bk_spec.specs.DocumentNodes.{Context}
use Rattle.bk_spec.specs.NodePaths.{path_below, node_paths}
use Rattle.bk_info.specs.Address.{Address}
use Rattle.bk_info.specs.declared.node.Node.{Node}
use Rattle.bk_info.specs.declared.node.Node.TheVariants as code
use Rattle.bk_info.specs.Paths.{paths_of, paths_in}
use Rattle.bk_info.proofs.Theorems.{text_paths, comment_paths, pi_paths, paths_in-append}
use Rattle.ent_doc.specs.Steps.{Gives, HavePaths, HasPaths}

-- ---- leaves

-- the paths behind a leaf that gives a node, and behind one that gives none
counted : (gives : Bool) (path : List ℕ) (others : List (List ℕ)) → gives ≡ true → (if gives then path ∷ others else others) ≡ path ∷ others
counted gives path others is = rw is refl

passed : (gives : Bool) (path : List ℕ) (others : List (List ℕ)) → gives ≡ false → (if gives then path ∷ others else others) ≡ others
passed gives path others is = rw is refl

-- one node with its path
one_path : (node : Node) (address path : List ℕ) (others : List (List ℕ)) → paths_of node ≡ address ∷ [] → address ≡ path → path ∷ others ≡ paths_in (node ∷ []) ++ others
one_path node address path others is same = rw is (ap (λ (p : List ℕ). p ∷ others) (sym same))

pub void_paths : (text : List ℕ) (value : List ℕ) (outer : List ℕ) (index : ℕ) (rest : Items) → ((other : List ℕ) → HasTextValue text other → other ≡ value) → value ≡ [] → HasPaths outer index (leaf text_item text rest) rest (suc index) []
void_paths text value outer index rest exact none content (other, others, has, gives, is) =
    let void : is_void text ≡ true = (void_is_empty text other has).1 (exact other has ∙ none) in
    passed (not (is_void text)) (path_below outer index) (node_paths outer (suc index) rest) (ap not void)

some_not_void : (text other : List ℕ) → HasTextValue text other → other ≢ [] → is_void text ≡ false
some_not_void text other has some = elim (cases_Bool (is_void text)) [
  | inl e ↦ absurd (some ((void_is_empty text other has).0 e))
  | inr e ↦ e
]

pub text_has_path : (text value : List ℕ) (address : Address) (outer : List ℕ) (index : ℕ) (rest : Items) → ((other : List ℕ) → HasTextValue text other → other ≡ value) → value ≢ [] → address.path ≡ path_below outer index
    → HasPaths outer index (leaf text_item text rest) rest (suc index) (code.Text value address ∷ [])
text_has_path text value address outer index rest exact some same content (other, others, has, gives, is) =
    let full : is_void text ≡ false = some_not_void text other has (λ none. some (sym (exact other has) ∙ none)) in
    counted (not (is_void text)) (path_below outer index) (node_paths outer (suc index) rest) (ap not full)
    ∙ one_path (code.Text value address) address.path (path_below outer index) (node_paths outer (suc index) rest) (text_paths value address) same

pub comment_has_path : (text value : List ℕ) (address : Address) (outer : List ℕ) (index : ℕ) (rest : Items) → address.path ≡ path_below outer index → HasPaths outer index (leaf comment_item text rest) rest (suc index) (code.Comment value address ∷ [])
comment_has_path text value address outer index rest same content has =
    one_path (code.Comment value address) address.path (path_below outer index) (node_paths outer (suc index) rest) (comment_paths value address) same

pub pi_has_path : (text target value : List ℕ) (address : Address) (outer : List ℕ) (index : ℕ) (rest : Items) → address.path ≡ path_below outer index → HasPaths outer index (leaf pi_item text rest) rest (suc index) (code.Pi target value address ∷ [])
pi_has_path text target value address outer index rest same content has =
    one_path (code.Pi target value address) address.path (path_below outer index) (node_paths outer (suc index) rest) (pi_paths target value address) same

-- a reference and a gap have no path
pub reference_paths : (bytes : List ℕ) (rest : Items) (item : Src) (span : Span) (outer : List ℕ) (index : ℕ) → item ≡ src.Ref span → HasPaths outer index (before (item_of bytes item) rest) rest (suc index) []
reference_paths bytes rest item span outer index is =
    subst (λ (x : Item). HasPaths outer index (before x rest) rest (suc index) []) (sym (ap (item_of bytes) is ∙ reference_is bytes span)) (λ content has. absurd has)

pub gap_paths : (bytes : List ℕ) (rest : Items) (item : Src) (span : Span) (outer : List ℕ) (index : ℕ) → item ≡ src.Gap span → HasPaths outer index (before (item_of bytes item) rest) rest (suc index) []
gap_paths bytes rest item span outer index is =
    subst (λ (x : Item). HasPaths outer index (before x rest) rest (suc index) []) (sym (ap (item_of bytes) is ∙ gap_is bytes span)) (λ content has. refl)

-- ---- elements

pub element_has_paths : (open_tag : List ℕ) (kids rest : Items) (close : Option (List ℕ)) (node : Node) (inner : List Node) (address : Address) (outer : List ℕ) (index : ℕ)
    → paths_of node ≡ address.path ∷ paths_in inner → address.path ≡ path_below outer index → HavePaths address.path kids inner
    → HasPaths outer index (element open_tag kids close rest) rest (suc index) (node ∷ [])
element_has_paths open_tag kids rest close node inner address outer index is same held content (tag, values, inside, others, is_tag, spelled, have, has_inside, has_others, gives) =
    let own : node_paths (path_below outer index) 0 kids ≡ paths_in inner = ap (λ (p : List ℕ). node_paths p 0 kids) (sym same) ∙ sym (held inside has_inside) in
    let behind = node_paths outer (suc index) rest in
    ap (λ (l : List (List ℕ)). path_below outer index ∷ (l ++ behind)) own ∙ ap (λ (p : List ℕ). p ∷ (paths_in inner ++ behind)) (sym same)
    ∙ ap (λ (l : List (List ℕ)). l ++ behind) (sym is ∙ sym (append-nil (paths_of node)))

-- what an element without content holds
pub none_have_paths : (bytes : List ℕ) (outer : List ℕ) (items : List Src) (nodes : List Node) → items ≡ [] → nodes ≡ [] → HavePaths outer (items_in bytes items) nodes
none_have_paths bytes outer items nodes empty none content has = rw (empty, none) refl

-- ---- items in a row

pub paths_begin : (items : Items) (outer : List ℕ) (nodes : List Node) → nodes ≡ [] → HasPaths outer 0 items items 0 nodes
paths_begin items outer nodes none content has = rw none refl

pub paths_step : (bytes file : List ℕ) (context : Context) (items left behind : List Src) (i : ℕ) (x : Src) (n k : ℕ) (nodes more joined : List Node) (outer : List ℕ) → left ≡ x ∷ behind → joined ≡ nodes ++ more
    → Gives file context (items_in bytes items) (items_in bytes left) n k nodes → HasPaths outer 0 (items_in bytes items) (items_in bytes left) i nodes
    → ((rest : Items) → HasPaths outer i (before (item_of bytes x) rest) rest (suc i) more)
    → HasPaths outer 0 (items_in bytes items) (items_in bytes behind) (i + 1) joined
paths_step bytes file context items left behind i x n k nodes more joined outer is same gives so_far next content has =
    let rest = items_in bytes behind in
    let (others, has_others, given) = gives content has in
    let here : HasContent (before (item_of bytes x) rest) others = subst (λ (l : List Src). HasContent (items_in bytes l) others) is has_others in
    let step : node_paths outer i (items_in bytes left) ≡ paths_in more ++ node_paths outer (suc i) rest =
    ap (λ (l : List Src). node_paths outer i (items_in bytes l)) is ∙ next rest others here in
    let number : suc i ≡ i + 1 = omega arith in
    so_far content has ∙ ap (λ (l : List (List ℕ)). paths_in nodes ++ l) (step ∙ ap (λ (j : ℕ). paths_in more ++ node_paths outer j rest) number)
    ∙ sym (append_assoc (paths_in nodes) (paths_in more) (node_paths outer (i + 1) rest))
    ∙ ap (λ (l : List (List ℕ)). l ++ node_paths outer (i + 1) rest) (sym (ap paths_in same ∙ paths_in-append nodes more))

pub paths_end : (bytes : List ℕ) (items left : List Src) (i : ℕ) (nodes list : List Node) (outer : List ℕ) → left ≡ [] → list ≡ nodes → HasPaths outer 0 (items_in bytes items) (items_in bytes left) i nodes
    → HavePaths outer (items_in bytes items) list
paths_end bytes items left i nodes list outer none same so_far content has =
    let past : node_paths outer i (items_in bytes left) ≡ [] = ap (λ (l : List Src). node_paths outer i (items_in bytes l)) none in
    sym (so_far content has ∙ ap (λ (l : List (List ℕ)). paths_in nodes ++ l) past ∙ append-nil (paths_in nodes) ∙ ap paths_in (sym same))
