-- A place leads to an item exactly where the nodes have one.
use Rattle.std.proofs.Common.{◌≡◌, ◌∙◌, ℕ, zero, suc, ◌-◌, ◌+◌, List, [], ◌∷◌, refl, sym, ap, subst, arith, Option, Some, None, option_map, Bool, true, false, not, if◌then◌else◌, Ok}
use Rattle.std.specs.Prelude.{is_some}
use Rattle.xt_spec.specs.Tree.{LeafKind, Items, nil, element, leaf, text_item, reference_item, comment_item, pi_item, gap}
use Rattle.xt_spec.specs.LineEnds.{lines_read}
use Rattle.xt_spec.specs.Content.{Content, HasContent}
use Rattle.xt_spec.specs.Reading.{document}
use Rattle.bk_spec.specs.Node.{owned, Head, Nodes, no_nodes, element_node, text_node, comment_node, pi_node, node_count}
use Rattle.bk_spec.specs.DocumentNodes.{Context, nodes_of}
use Rattle.bk_spec.specs.Opening.{GivesNodes}
use Rattle.ed_spec.specs.Place.{child_index, index_of, content_of, step_along, path_along, path_of}
use Rattle.ed_laws.specs.NodePlaces.{at_leaf, has_node_in, has_node}
use Rattle.ed_laws.proofs.NodeLemmas.{element_gives, text_gives, comment_gives, pi_gives, is_made}
use Rattle.ed_laws.proofs.VoidTexts.{void_value, some_not_void}

mapped_some : {A B : Type 0} → (f : A → B) (found : Option A) → is_some (option_map f found) ≡ is_some found
mapped_some f None = refl
mapped_some f (Some a) = refl

-- behind the first item the index is one more
behind_first : (found : Option ℕ) (others : ℕ → Option (List ℕ)) → is_some (step_along (option_map suc found) others) ≡ is_some (step_along found (λ index. others (suc index)))
behind_first None others = refl
behind_first (Some index) others = mapped_some (λ path. suc index ∷ path) (others (suc index)) ∙ sym (mapped_some (λ path. index ∷ path) (others (suc index)))

-- a leaf that gives a node, and what stands behind it
leaf_place : (kind : LeafKind) (text : List ℕ) (rest : Items) (others : Nodes) (place : List ℕ) → ((n : ℕ) → is_some (path_along rest (n ∷ place)) ≡ has_node_in others n place) → (number : ℕ)
    → is_some (step_along (child_index number (index_of rest (number - 1))) (λ index. path_along (content_of (leaf kind text rest) index) place)) ≡ at_leaf number place (has_node_in others (number - 1) place)
leaf_place kind text rest others place behind zero = refl
leaf_place kind text rest others [] behind (suc zero) = refl
leaf_place kind text rest others (next ∷ place) behind (suc zero) = refl
leaf_place kind text rest others place behind (suc (suc n)) =
    behind_first (index_of rest (suc (suc n) - 1)) (λ index. path_along (content_of (leaf kind text rest) index) place) ∙ behind (suc (suc n) - 1)

-- an element, what it holds, and what stands behind it
element_place : (open_tag : List ℕ) (kids : Items) (close : Option (List ℕ)) (rest : Items) (head : Head) (inner others : Nodes) → ((n : ℕ) (place : List ℕ) → is_some (path_along kids (n ∷ place)) ≡ has_node_in inner n place)
    → ((n : ℕ) (place : List ℕ) → is_some (path_along rest (n ∷ place)) ≡ has_node_in others n place) → (number : ℕ) (place : List ℕ)
    → is_some (path_along (element open_tag kids close rest) (number ∷ place)) ≡ has_node_in (element_node head inner others) number place
element_place open_tag kids close rest head inner others within behind zero place = refl
element_place open_tag kids close rest head inner others within behind (suc zero) [] = refl
element_place open_tag kids close rest head inner others within behind (suc zero) (next ∷ place) = mapped_some (λ path. 0 ∷ path) (path_along kids (next ∷ place)) ∙ within next place
element_place open_tag kids close rest head inner others within behind (suc (suc n)) place =
    let less : suc (suc n) - 1 ≡ suc n = omega arith in
    behind_first (index_of rest (suc (suc n) - 1)) (λ index. path_along (content_of (element open_tag kids close rest) index) place)
    ∙ ap (λ (m : ℕ). is_some (path_along rest (m ∷ place))) less ∙ behind (suc n) place

place_in : (file : List ℕ) (context : Context) (count : ℕ) (items : Items) (content : Content) (nodes : Nodes) → HasContent items content → nodes_of file context count content ≡ Ok nodes
    → (number : ℕ) (place : List ℕ) → is_some (path_along items (number ∷ place)) ≡ has_node_in nodes number place
place_in file context count nil content nodes same gives number place =
    sym (ap (λ (ns : Nodes). has_node_in ns number place) (is_made no_nodes nodes (sym (ap (nodes_of file context count) same) ∙ gives)))
place_in file context count (leaf reference_item text rest) content nodes has gives number place = absurd has
place_in file context count (leaf gap text rest) content nodes has gives number place =
    behind_first (index_of rest number) (λ index. path_along (content_of (leaf gap text rest) index) place) ∙ place_in file context count rest content nodes has.1 gives number place
place_in file context count (leaf text_item text rest) content nodes ([], others, value_is, has, same) gives number place =
    subst (λ (void : Bool). is_some (step_along (if not void then child_index number (index_of rest (number - 1)) else option_map suc (index_of rest number)) (λ index. path_along (content_of (leaf text_item text rest) index) place)) ≡ has_node_in nodes number place)
    (sym ((void_value text [] value_is).1 refl))
    (behind_first (index_of rest number) (λ index. path_along (content_of (leaf text_item text rest) index) place) ∙ place_in file context count rest others nodes has (sym (ap (nodes_of file context count) same) ∙ gives) number place)
place_in file context count (leaf text_item text rest) content nodes (b ∷ value, others, value_is, has, same) gives number place =
    let e = text_gives file context count b value others nodes (sym (ap (nodes_of file context count) same) ∙ gives) in
    subst (λ (void : Bool). is_some (step_along (if not void then child_index number (index_of rest (number - 1)) else option_map suc (index_of rest number)) (λ index. path_along (content_of (leaf text_item text rest) index) place)) ≡ has_node_in nodes number place)
    (sym (some_not_void text value b value_is))
    (leaf_place text_item text rest e.others place (λ n. place_in file context (suc count) rest others e.others has e.behind n place) number ∙ sym (ap (λ (ns : Nodes). has_node_in ns number place) e.are))
place_in file context count (leaf comment_item text rest) content nodes (inner, others, spells, has, same) gives number place =
    let e = comment_gives file context count (lines_read inner) others nodes (sym (ap (nodes_of file context count) same) ∙ gives) in
    leaf_place comment_item text rest e.others place (λ n. place_in file context (suc count) rest others e.others has e.behind n place) number ∙ sym (ap (λ (ns : Nodes). has_node_in ns number place) e.are)
place_in file context count (leaf pi_item text rest) content nodes (target, inner, others, spells, has, same) gives number place =
    let e = pi_gives file context count target (lines_read inner) others nodes (sym (ap (nodes_of file context count) same) ∙ gives) in
    leaf_place pi_item text rest e.others place (λ n. place_in file context (suc count) rest others e.others has e.behind n place) number ∙ sym (ap (λ (ns : Nodes). has_node_in ns number place) e.are)
place_in file context count (element open_tag kids close rest) content nodes (tag, values, inner, others, is_tag, spelled, values_are, has_inner, has, same) gives number place =
    let e = element_gives file context count tag.name values inner others nodes (sym (ap (nodes_of file context count) same) ∙ gives) in
    element_place open_tag kids close rest e.element.head e.inner e.others (λ n p. place_in file e.element.context (suc count) kids inner e.inner has_inner e.within n p)
    (λ n p. place_in file context (suc count + node_count e.inner) rest others e.others has e.behind n p) number place
    ∙ sym (ap (λ (ns : Nodes). has_node_in ns number place) e.are)

pub place_has_node : (file : List ℕ) (context : Context) (count : ℕ) (items : Items) (nodes : Nodes) → GivesNodes file context count items nodes → (place : List ℕ) → is_some (path_of items place) ≡ has_node nodes place
place_has_node file context count items nodes (content, has, gives) [] = refl
place_has_node file context count items nodes (content, has, gives) (number ∷ place) = place_in file context count items content nodes has gives number place
