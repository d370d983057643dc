-- How the lines of nodes, and of attributes, follow each other.
use Rattle.std.proofs.Common.{◌≡◌, ◌∙◌, ℕ, suc, ◌+◌, ◌<◌, ◌≤◌, List, [], ◌∷◌, ◌++◌, drop, length, get_or, sym, ap, subst, arith, append_assoc, append-nil, Option, Some, codes, drop-cons}
use Rattle.std.proofs.lemmas.Grind.{common_steps}
use Rattle.xt_spec.specs.Namespace.{Expanded}
use Rattle.bk_spec.specs.Node.{Origin, Head, Nodes, element_node}
use Rattle.bk_spec.specs.Print.{deeper, element_line, base_line, attribute_line, attribute_lines, text_line, comment_line, pi_line, print_nodes}
use Rattle.bk_spec.specs.DocumentNodes.{Context}
use Rattle.bk_info.specs.Address.{Address}
use Rattle.bk_info.specs.declared.attr.Attr.{Attr}
use Rattle.bk_info.specs.declared.node.Node.{Node}
use Rattle.bk_info.specs.declared.node.Node.TheVariants as node
use Rattle.bk_info.specs.Nodes.{attr_in, attrs_in, head_in, node_in, nodes_in}
use Rattle.bk_info.proofs.Theorems.{element_is, text_is, comment_is, pi_is}
use Rattle.bk_place.specs.Printing.{IsIndent, own_lines}

-- ---- attributes

next_of : {A : Type 0} (xs : List A) (i : ℕ) (x : A) → i < length xs → x ≡ get_or xs i x → drop i xs ≡ x ∷ drop (i + 1) xs
next_of xs i x below is = let more : suc i ≡ i + 1 = omega arith in drop-cons xs i x below ∙ rw more (ap (λ y. y ∷ drop (i + 1) xs) (sym is))

none_left : {A : Type 0} (xs : List A) (i : ℕ) → length xs ≤ i → drop i xs ≡ []
none_left xs i past = grind (arith, common_steps)

pub attributes_step : (indent : List ℕ) (attrs : List Attr) (i : ℕ) (d : Attr) (whole mid new : List ℕ) → i < length attrs
    → mid ++ attribute_lines indent (attrs_in (drop i attrs)) ≡ whole → new ≡ mid ++ attribute_line indent (attr_in (get_or attrs i d))
    → new ++ attribute_lines indent (attrs_in (drop (i + 1) attrs)) ≡ whole
attributes_step indent attrs i d whole mid new below so_far line =
    let more : suc i ≡ i + 1 = omega arith in
    let next : drop i attrs ≡ get_or attrs i d ∷ drop (i + 1) attrs = drop-cons attrs i d below ∙ ap (λ (n : ℕ). get_or attrs i d ∷ drop n attrs) more in
    rw line (append_assoc mid (attribute_line indent (attr_in (get_or attrs i d))) (attribute_lines indent (attrs_in (drop (i + 1) attrs)))
    ∙ ap (λ (l : List Attr). mid ++ attribute_lines indent (attrs_in l)) (sym next) ∙ so_far)

pub attributes_end : (indent : List ℕ) (attrs : List Attr) (i : ℕ) (whole new : List ℕ) → length attrs ≤ i → new ++ attribute_lines indent (attrs_in (drop i attrs)) ≡ whole → new ≡ whole
attributes_end indent attrs i whole new past so_far = sym (append-nil new) ∙ ap (λ (l : List Attr). new ++ attribute_lines indent (attrs_in l)) (sym (none_left attrs i past)) ∙ so_far

-- ---- one level more

pub indent_deeper : (indent : List ℕ) → IsIndent indent → indent ++ codes "  " ≡ deeper indent
indent_deeper indent is =
    let two : indent ++ codes "  " ≡ (indent ++ 0x20 ∷ []) ++ 0x20 ∷ [] = sym (append_assoc indent (0x20 ∷ []) (0x20 ∷ [])) in
    two ∙ ap (λ (l : List ℕ). l ++ 0x20 ∷ []) is ∙ ap (λ (l : List ℕ). 0x20 ∷ l) is

pub deeper_spaces : (indent level : List ℕ) → level ≡ deeper indent → IsIndent indent → IsIndent level
deeper_spaces indent level is spaces = rw is (ap (λ (l : List ℕ). 0x20 ∷ 0x20 ∷ l) spaces)

-- ---- a node, whatever follows it

joined : (old mid new lines inner rest : List ℕ) → mid ≡ old ++ lines → new ≡ mid ++ inner → old ++ ((lines ++ inner) ++ rest) ≡ new ++ rest
joined old mid new lines inner rest first second =
    sym (append_assoc old (lines ++ inner) rest) ∙ ap (λ (l : List ℕ). l ++ rest) (sym (append_assoc old lines inner) ∙ ap (λ (l : List ℕ). l ++ inner) (sym first) ∙ sym second)

element_lines : (indent : List ℕ) (parent : Option (List ℕ)) (head : Head) (inner others : Nodes)
    → print_nodes indent parent (element_node head inner others) ≡ (own_lines indent parent head ++ print_nodes (deeper indent) (Some head.base) inner) ++ print_nodes indent parent others
element_lines indent parent head inner others = simp append_assoc

-- an element's own lines, one after the other
pub own_added : (indent : List ℕ) (parent : Option (List ℕ)) (head : Head) (base old a b new : List ℕ) → a ≡ old ++ element_line indent head → base ≡ head.base → b ≡ a ++ base_line (deeper indent) parent base
    → new ≡ b ++ attribute_lines (deeper indent) head.attributes → new ≡ old ++ own_lines indent parent head
own_added indent parent head base old a b new first same second third =
    let base_lines : b ≡ a ++ base_line (deeper indent) parent head.base = second ∙ ap (λ (t : List ℕ). a ++ base_line (deeper indent) parent t) same in
    rw third (rw base_lines (rw first (simp append_assoc)))

-- the lines of a node, and those of others behind it
abbrev pub Prints : List ℕ → Option (List ℕ) → Node → List ℕ → List ℕ → Type 0
Prints indent parent n old new = (others : Nodes) → old ++ print_nodes indent parent (node_in n others) ≡ new ++ print_nodes indent parent others

pub element_prints : (indent level : List ℕ) (parent : Option (List ℕ)) (n : Node) (name : Expanded) (attrs given : List Attr) (context : Context) (kids ks : List Node) (address : Address) (origin : Origin) (base old mid new : List ℕ)
    → n ≡ node.Elem name attrs context kids address → origin ≡ address.origin → level ≡ indent → given ≡ attrs → ks ≡ kids → base ≡ context.base → mid ≡ old ++ own_lines level parent (head_in name given context origin) → new ≡ mid ++ print_nodes (deeper indent) (Some base) (nodes_in ks)
    → Prints indent parent n old new
element_prints indent level parent n name attrs given context kids ks address origin base old mid new is same_origin same_level same_attrs same_kids same_base first second others =
    let head = head_in name attrs context address.origin in
    let node_is : node_in n others ≡ element_node head (nodes_in kids) others = ap (λ (x : Node). node_in x others) is ∙ element_is name attrs context kids address others in
    let own : mid ≡ old ++ own_lines indent parent head = first ∙ ap (λ (l : List ℕ). old ++ own_lines l parent (head_in name given context origin)) same_level ∙ ap (λ (l : List Attr). old ++ own_lines indent parent (head_in name l context origin)) same_attrs ∙ ap (λ (o : Origin). old ++ own_lines indent parent (head_in name attrs context o)) same_origin in
    let inner : new ≡ mid ++ print_nodes (deeper indent) (Some context.base) (nodes_in kids) =
    second ∙ ap (λ (l : List Node). mid ++ print_nodes (deeper indent) (Some base) (nodes_in l)) same_kids ∙ ap (λ (b : List ℕ). mid ++ print_nodes (deeper indent) (Some b) (nodes_in kids)) same_base in
    ap (λ (ns : Nodes). old ++ print_nodes indent parent ns) node_is ∙ ap (λ (l : List ℕ). old ++ l) (element_lines indent parent head (nodes_in kids) others)
    ∙ joined old mid new (own_lines indent parent head) (print_nodes (deeper indent) (Some context.base) (nodes_in kids)) (print_nodes indent parent others) own inner

line_prints : (indent : List ℕ) (parent : Option (List ℕ)) (n : Node) (line old new : List ℕ) → ((others : Nodes) → print_nodes indent parent (node_in n others) ≡ line ++ print_nodes indent parent others) → new ≡ old ++ line → Prints indent parent n old new
line_prints indent parent n line old new is added others =
    ap (λ (l : List ℕ). old ++ l) (is others) ∙ sym (append_assoc old line (print_nodes indent parent others)) ∙ ap (λ (l : List ℕ). l ++ print_nodes indent parent others) (sym added)

pub text_prints : (indent level : List ℕ) (parent : Option (List ℕ)) (n : Node) (value text : List ℕ) (address : Address) (origin : Origin) (old new : List ℕ) → n ≡ node.Text value address → origin ≡ address.origin → level ≡ indent → text ≡ value → new ≡ old ++ text_line level text origin → Prints indent parent n old new
text_prints indent level parent n value text address origin old new is same_origin same_level same added =
    line_prints indent parent n (text_line indent value address.origin) old new (λ others. ap (print_nodes indent parent) (ap (λ (x : Node). node_in x others) is ∙ text_is value address others)) (added ∙ ap (λ (l : List ℕ). old ++ text_line l text origin) same_level ∙ ap (λ (v : List ℕ). old ++ text_line indent v origin) same ∙ ap (λ (o : Origin). old ++ text_line indent value o) same_origin)

pub comment_prints : (indent level : List ℕ) (parent : Option (List ℕ)) (n : Node) (value text : List ℕ) (address : Address) (origin : Origin) (old new : List ℕ) → n ≡ node.Comment value address → origin ≡ address.origin → level ≡ indent → text ≡ value → new ≡ old ++ comment_line level text origin → Prints indent parent n old new
comment_prints indent level parent n value text address origin old new is same_origin same_level same added =
    line_prints indent parent n (comment_line indent value address.origin) old new (λ others. ap (print_nodes indent parent) (ap (λ (x : Node). node_in x others) is ∙ comment_is value address others)) (added ∙ ap (λ (l : List ℕ). old ++ comment_line l text origin) same_level ∙ ap (λ (v : List ℕ). old ++ comment_line indent v origin) same ∙ ap (λ (o : Origin). old ++ comment_line indent value o) same_origin)

pub pi_prints : (indent level : List ℕ) (parent : Option (List ℕ)) (n : Node) (target value name text : List ℕ) (address : Address) (origin : Origin) (old new : List ℕ) → n ≡ node.Pi target value address → origin ≡ address.origin → level ≡ indent → name ≡ target → text ≡ value → new ≡ old ++ pi_line level name text origin
    → Prints indent parent n old new
pi_prints indent level parent n target value name text address origin old new is same_origin same_level same_target same added =
    line_prints indent parent n (pi_line indent target value address.origin) old new (λ others. ap (print_nodes indent parent) (ap (λ (x : Node). node_in x others) is ∙ pi_is target value address others))
    (added ∙ ap (λ (l : List ℕ). old ++ pi_line l name text origin) same_level ∙ ap (λ (t : List ℕ). old ++ pi_line indent t text origin) same_target ∙ ap (λ (v : List ℕ). old ++ pi_line indent target v origin) same ∙ ap (λ (o : Origin). old ++ pi_line indent target value o) same_origin)

-- ---- nodes in a row

pub nodes_step : (indent level : List ℕ) (parent : Option (List ℕ)) (nodes : List Node) (i : ℕ) (n : Node) (whole mid new : List ℕ) → i < length nodes → n ≡ get_or nodes i n → level ≡ indent
    → mid ++ print_nodes indent parent (nodes_in (drop i nodes)) ≡ whole → Prints level parent n mid new → new ++ print_nodes indent parent (nodes_in (drop (i + 1) nodes)) ≡ whole
nodes_step indent level parent nodes i n whole mid new below is same so_far next =
    sym (subst (λ (l : List ℕ). Prints l parent n mid new) same next (nodes_in (drop (i + 1) nodes))) ∙ ap (λ (l : List Node). mid ++ print_nodes indent parent (nodes_in l)) (sym (next_of nodes i n below is)) ∙ so_far

pub nodes_end : (indent : List ℕ) (parent : Option (List ℕ)) (nodes : List Node) (i : ℕ) (whole new : List ℕ) → length nodes ≤ i → new ++ print_nodes indent parent (nodes_in (drop i nodes)) ≡ whole → new ≡ whole
nodes_end indent parent nodes i whole new past so_far = sym (append-nil new) ∙ ap (λ (l : List Node). new ++ print_nodes indent parent (nodes_in l)) (sym (none_left nodes i past)) ∙ so_far
