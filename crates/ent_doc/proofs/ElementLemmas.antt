-- What an element gives, whatever stands behind it.
use Rattle.std.proofs.Common.{◌≡◌, ◌∙◌, ℕ, suc, ◌+◌, List, [], ◌∷◌, map, sym, ap, subst, Option, Result, Ok}
use Rattle.xt_spec.specs.Content.{Content, element_content, HaveValues, HasContent}
use Rattle.xt_spec.specs.Namespace.{NamedValue}
use Rattle.xt_spec.specs.Tree.{Items, nil, element}
use Rattle.xt_lex.specs.declared.attribute.AttrSrc.{AttrSrc}
use Rattle.xt_tree.specs.declared.source.Tag.{Tag as TagSrc}
use Rattle.xt_tree.specs.Meaning.{at_span}
use Rattle.xt_tree.specs.Places.{tag_mark}
use Rattle.bk_spec.specs.Node.{Nodes, element_node, node_count}
use Rattle.bk_spec.specs.Fault.{Fault}
use Rattle.bk_spec.specs.DocumentNodes.{Context, Element, and_then, element_of, with_room, nodes_of}
use Rattle.bk_info.specs.declared.node.Node.{Node}
use Rattle.bk_info.specs.Nodes.{node_in, nodes_in}
use Rattle.xt_read.specs.ContentTest.{ArePlaced}
use Rattle.ent_doc.specs.Steps.{Fails, prepended, Gives, GivesFault, attribute_at}
use Rattle.ent_doc.proofs.FaultLemmas.{fails_then, fails_as}
use Rattle.ent_doc.proofs.LeafLemmas.{one_prepended}
use Rattle.ent_doc.proofs.PlaceLemmas.{tag_at}

-- all items give these nodes
pub gives_all : (file : List ℕ) (context : Context) (items : Items) (n m : ℕ) (nodes : List Node) → Gives file context items nil n m nodes → (content : Content) → HasContent items content → nodes_of file context n content ≡ Ok (nodes_in nodes)
gives_all file context items n m nodes gives content has =
    let found = gives content has in
    found.2 ∙ ap (λ (o : Content). prepended nodes (nodes_of file context m o)) found.1

-- the values that were read of a tag are the only ones
abbrev pub AreRead : List ℕ → List AttrSrc → List NamedValue → Type 0
AreRead bytes sources values = (others : List NamedValue) → HaveValues (map (attribute_at bytes) sources) others → others ≡ values

-- the content of an element whose tag was read
read_content : (bytes : List ℕ) (tag : TagSrc) (kids rest : Items) (close : Option (List ℕ)) (qname : List ℕ) (sources : List AttrSrc) (values : List NamedValue) (content : Content) → ArePlaced bytes (tag_mark tag ∷ [])
    → qname ≡ at_span bytes tag.name → sources ≡ tag.attrs → AreRead bytes sources values → HasContent (element (at_span bytes tag.span) kids close rest) content
    → (inner others : Content) × HasContent kids inner × HasContent rest others × (content ≡ element_content qname values inner others)
read_content bytes tag kids rest close qname sources values content stands name attrs read (t, found, inner, others, is_tag, spelled, have, has_inner, has_others, is) =
    let parts = tag_at bytes stands.from tag close t found stands.placed.0 is_tag spelled have in
    let same : found ≡ values = read found (subst (λ (l : List AttrSrc). HaveValues (map (attribute_at bytes) l) found) (sym attrs) parts.1) in
    (inner, others, has_inner, has_others, is ∙ ap (λ (q : List ℕ). element_content q found inner others) (parts.0 ∙ sym name) ∙ ap (λ (v : List NamedValue). element_content qname v inner others) same)

-- behind an element's own
abbrev behind_own : List ℕ → Context → ℕ → Content → Content → Element → Result Nodes Fault
behind_own file context n inner others e = with_room file n (and_then (λ (kids : Nodes). and_then (λ (rest : Nodes). Ok (element_node e.head kids rest)) (nodes_of file context (suc n + node_count kids) others)) (nodes_of file e.context (suc n) inner))

own_read : (file : List ℕ) (context : Context) (n : ℕ) (qname : List ℕ) (values : List NamedValue) (inner others content : Content) (e : Element) → content ≡ element_content qname values inner others → element_of file context qname values ≡ Ok e
    → nodes_of file context n content ≡ behind_own file context n inner others e
own_read file context n qname values inner others content e is own =
    ap (nodes_of file context n) is ∙ ap (λ (r : Result Element Fault). and_then (behind_own file context n inner others) r) own

pub element_gives : (bytes file : List ℕ) (context : Context) (tag : TagSrc) (kids rest : Items) (close : Option (List ℕ)) (n k m : ℕ) (qname : List ℕ) (sources : List AttrSrc) (values : List NamedValue) (e : Element) (inner : List Node) (node : Node)
    → ArePlaced bytes (tag_mark tag ∷ []) → qname ≡ at_span bytes tag.name → sources ≡ tag.attrs → AreRead bytes sources values
    → element_of file context qname values ≡ Ok e → ((others : Result Nodes Fault) → with_room file n others ≡ others) → k ≡ suc n → Gives file e.context kids nil k m inner → m ≡ k + node_count (nodes_in inner)
    → ((others : Nodes) → node_in node others ≡ element_node e.head (nodes_in inner) others)
    → Gives file context (element (at_span bytes tag.span) kids close rest) rest n m (node ∷ [])
element_gives bytes file context tag kids rest close n k m qname sources values e inner node stands name attrs read own room first gives more made content has =
    let (inside, others, has_inside, has_others, is) = read_content bytes tag kids rest close qname sources values content stands name attrs read has in
    let kids_are : nodes_of file e.context (suc n) inside ≡ Ok (nodes_in inner) = ap (λ (i : ℕ). nodes_of file e.context i inside) (sym first) ∙ gives_all file e.context kids k m inner gives inside has_inside in (
      others,
      has_others,
      own_read file context n qname values inside others content e is own ∙ room _
          ∙ ap (λ (r : Result Nodes Fault). and_then (λ (l : Nodes). and_then (λ (o : Nodes). Ok (element_node e.head l o)) (nodes_of file context (suc n + node_count l) others)) r) kids_are
          ∙ one_prepended node (λ o. element_node e.head (nodes_in inner) o) (nodes_of file context (suc n + node_count (nodes_in inner)) others) made
          ∙ ap (λ (i : ℕ). prepended (node ∷ []) (nodes_of file context i others)) (ap (λ (i : ℕ). i + node_count (nodes_in inner)) (sym first) ∙ sym more),
    )

-- .. its own fault, the fault that there is no room, and one of what it holds
pub own_fails : (bytes file : List ℕ) (context : Context) (tag : TagSrc) (kids rest : Items) (close : Option (List ℕ)) (n : ℕ) (qname : List ℕ) (sources : List AttrSrc) (values : List NamedValue) (fault : Option Fault)
    → ArePlaced bytes (tag_mark tag ∷ []) → qname ≡ at_span bytes tag.name → sources ≡ tag.attrs → AreRead bytes sources values
    → Fails (element_of file context qname values) fault → GivesFault file context (element (at_span bytes tag.span) kids close rest) n fault
own_fails bytes file context tag kids rest close n qname sources values fault stands name attrs read fails content has =
    let (inside, others, has_inside, has_others, is) = read_content bytes tag kids rest close qname sources values content stands name attrs read has in
    fails_as _ _ fault (ap (nodes_of file context n) is) (fails_then (behind_own file context n inside others) (element_of file context qname values) fault fails)

pub room_fails : (bytes file : List ℕ) (context : Context) (tag : TagSrc) (kids rest : Items) (close : Option (List ℕ)) (n : ℕ) (qname : List ℕ) (sources : List AttrSrc) (values : List NamedValue) (e : Element) (fault : Option Fault)
    → ArePlaced bytes (tag_mark tag ∷ []) → qname ≡ at_span bytes tag.name → sources ≡ tag.attrs → AreRead bytes sources values
    → element_of file context qname values ≡ Ok e → ((others : Result Nodes Fault) → Fails (with_room file n others) fault) → GivesFault file context (element (at_span bytes tag.span) kids close rest) n fault
room_fails bytes file context tag kids rest close n qname sources values e fault stands name attrs read own fails content has =
    let (inside, others, has_inside, has_others, is) = read_content bytes tag kids rest close qname sources values content stands name attrs read has in
    fails_as _ _ fault (own_read file context n qname values inside others content e is own) (fails _)

pub kids_fail : (bytes file : List ℕ) (context : Context) (tag : TagSrc) (kids rest : Items) (close : Option (List ℕ)) (n k : ℕ) (qname : List ℕ) (sources : List AttrSrc) (values : List NamedValue) (e : Element) (fault : Option Fault)
    → ArePlaced bytes (tag_mark tag ∷ []) → qname ≡ at_span bytes tag.name → sources ≡ tag.attrs → AreRead bytes sources values
    → element_of file context qname values ≡ Ok e → ((others : Result Nodes Fault) → with_room file n others ≡ others) → k ≡ suc n → GivesFault file e.context kids k fault
    → GivesFault file context (element (at_span bytes tag.span) kids close rest) n fault
kids_fail bytes file context tag kids rest close n k qname sources values e fault stands name attrs read own room first fails content has =
    let (inside, others, has_inside, has_others, is) = read_content bytes tag kids rest close qname sources values content stands name attrs read has in
    fails_as _ _ fault (own_read file context n qname values inside others content e is own ∙ room _)
    (fails_then (λ (l : Nodes). and_then (λ (o : Nodes). Ok (element_node e.head l o)) (nodes_of file context (suc n + node_count l) others)) (nodes_of file e.context (suc n) inside) fault
    (subst (λ (i : ℕ). Fails (nodes_of file e.context i inside) fault) first (fails inside has_inside)))
