-- The nodes of a content, opened step by step; where fewer stand before it, it gives the same.
use Rattle.std.proofs.Common.{◌≡◌, ℕ, suc, ◌+◌, ◌≤◌, List, [], ◌∷◌, refl, sym, ap, arith, Bool, true, false, nat_lt, Result, Ok, Err, if◌then◌else◌}
use Rattle.std.proofs.lemmas.Bool.Decides.{nat_tests}
use Rattle.xt_spec.specs.Limit.{most_nodes}
use Rattle.xt_spec.specs.Namespace.{NamedValue}
use Rattle.xt_spec.specs.Content.{Content, nothing_given, element_content, text_content, comment_content, pi_content}
use Rattle.xt_spec.specs.Reading.{document}
use Rattle.bk_spec.specs.Node.{owned, Nodes, element_node, text_node, comment_node, pi_node, node_count}
use Rattle.bk_spec.specs.Fault.{Fault, too_large}
use Rattle.bk_spec.specs.DocumentNodes.{Context, Element, and_then, with_room, element_of, nodes_of}

-- a step that is made has the one before it
then_ok : {A B : Type 0} → (next : A → Result B Fault) (first : Result A Fault) (b : B) → and_then next first ≡ Ok b → (a : A) × (first ≡ Ok a) × (next a ≡ Ok b)
then_ok next (Ok a) b is = (a, refl, is)
then_ok next (Err fault) b is = absurd (cc)

room_ok : (file : List ℕ) (count : ℕ) (others : Result Nodes Fault) (nodes : Nodes) → with_room file count others ≡ Ok nodes → (nat_lt count most_nodes ≡ true) × (others ≡ Ok nodes)
room_ok file count others nodes is = by (nat_lt count most_nodes) refl is
  where
    by : (less : Bool) → nat_lt count most_nodes ≡ less → (if less then others else Err (too_large file)) ≡ Ok nodes → (nat_lt count most_nodes ≡ true) × (others ≡ Ok nodes)
    by true less is = (less, is)
    by false less is = absurd (cc)

has_room : (file : List ℕ) (count : ℕ) (others : Result Nodes Fault) → nat_lt count most_nodes ≡ true → with_room file count others ≡ others
has_room file count others less = rw less refl

pub is_made : (made nodes : Nodes) → ◌≡◌ {A = Result Nodes Fault} (Ok made) (Ok nodes) → nodes ≡ made
is_made made nodes is = cc

-- ---- an element

pub record IsElementOf (file : List ℕ) (context : Context) (count : ℕ) (name : List ℕ) (values : List NamedValue) (kids rest : Content) (nodes : Nodes) : Type 0 where
  pub element : Element
  pub inner : Nodes
  pub others : Nodes
  pub own : element_of file context name values ≡ Ok element
  pub room : nat_lt count most_nodes ≡ true
  pub within : nodes_of file element.context (suc count) kids ≡ Ok inner
  pub behind : nodes_of file context (suc count + node_count inner) rest ≡ Ok others
  pub are : nodes ≡ element_node element.head inner others

pub element_gives : (file : List ℕ) (context : Context) (count : ℕ) (name : List ℕ) (values : List NamedValue) (kids rest : Content) (nodes : Nodes) → nodes_of file context count (element_content name values kids rest) ≡ Ok nodes
    → IsElementOf file context count name values kids rest nodes
element_gives file context count name values kids rest nodes is =
    let (e, own, made) = then_ok (λ (e : Element). with_room file count (and_then (λ (inner : Nodes). and_then (λ (others : Nodes). Ok (element_node e.head inner others)) (nodes_of file context (suc count + node_count inner) rest)) (nodes_of file e.context (suc count) kids))) (element_of file context name values) nodes is in
    let (room, joined) = room_ok file count (and_then (λ (inner : Nodes). and_then (λ (others : Nodes). Ok (element_node e.head inner others)) (nodes_of file context (suc count + node_count inner) rest)) (nodes_of file e.context (suc count) kids)) nodes made in
    let (inner, within, outer) = then_ok (λ (inner : Nodes). and_then (λ (others : Nodes). Ok (element_node e.head inner others)) (nodes_of file context (suc count + node_count inner) rest)) (nodes_of file e.context (suc count) kids) nodes joined in
    let (others, behind, all) = then_ok (λ (others : Nodes). Ok (element_node e.head inner others)) (nodes_of file context (suc count + node_count inner) rest) nodes outer in
    record { element = e; inner = inner; others = others; own = own; room = room; within = within; behind = behind; are = is_made (element_node e.head inner others) nodes all }

pub element_made : (file : List ℕ) (context : Context) (count : ℕ) (name : List ℕ) (values : List NamedValue) (kids rest : Content) (nodes : Nodes) → IsElementOf file context count name values kids rest nodes
    → nodes_of file context count (element_content name values kids rest) ≡ Ok nodes
element_made file context count name values kids rest nodes is =
    rw is.own (rw is.room (rw is.within (rw is.behind (ap (λ (ns : Nodes). Ok ns) (sym is.are)))))

-- ---- a node in front of others

-- others behind one node, which has room
pub record IsBehind (file : List ℕ) (context : Context) (count : ℕ) (rest : Content) (front : Nodes → Nodes) (nodes : Nodes) : Type 0 where
  pub others : Nodes
  pub room : nat_lt count most_nodes ≡ true
  pub behind : nodes_of file context (suc count) rest ≡ Ok others
  pub are : nodes ≡ front others

behind_gives : (file : List ℕ) (context : Context) (count : ℕ) (rest : Content) (front : Nodes → Nodes) (nodes : Nodes) → with_room file count (and_then (λ (others : Nodes). Ok (front others)) (nodes_of file context (suc count) rest)) ≡ Ok nodes
    → IsBehind file context count rest front nodes
behind_gives file context count rest front nodes is =
    let (room, joined) = room_ok file count (and_then (λ (others : Nodes). Ok (front others)) (nodes_of file context (suc count) rest)) nodes is in
    let (others, behind, all) = then_ok (λ (others : Nodes). Ok (front others)) (nodes_of file context (suc count) rest) nodes joined in
    record { others = others; room = room; behind = behind; are = is_made (front others) nodes all }

behind_made : (file : List ℕ) (context : Context) (count : ℕ) (rest : Content) (front : Nodes → Nodes) (nodes : Nodes) → IsBehind file context count rest front nodes
    → with_room file count (and_then (λ (others : Nodes). Ok (front others)) (nodes_of file context (suc count) rest)) ≡ Ok nodes
behind_made file context count rest front nodes is = rw is.room (rw is.behind (ap (λ (ns : Nodes). Ok ns) (sym is.are)))

pub text_gives : (file : List ℕ) (context : Context) (count b : ℕ) (value : List ℕ) (rest : Content) (nodes : Nodes) → nodes_of file context count (text_content (b ∷ value) rest) ≡ Ok nodes
    → IsBehind file context count rest (text_node (b ∷ value) (owned file document)) nodes
text_gives file context count b value rest nodes is = behind_gives file context count rest (text_node (b ∷ value) (owned file document)) nodes is

pub text_made : (file : List ℕ) (context : Context) (count b : ℕ) (value : List ℕ) (rest : Content) (nodes : Nodes) → IsBehind file context count rest (text_node (b ∷ value) (owned file document)) nodes
    → nodes_of file context count (text_content (b ∷ value) rest) ≡ Ok nodes
text_made file context count b value rest nodes is = behind_made file context count rest (text_node (b ∷ value) (owned file document)) nodes is

pub comment_gives : (file : List ℕ) (context : Context) (count : ℕ) (inner : List ℕ) (rest : Content) (nodes : Nodes) → nodes_of file context count (comment_content inner rest) ≡ Ok nodes
    → IsBehind file context count rest (comment_node inner (owned file document)) nodes
comment_gives file context count inner rest nodes is = behind_gives file context count rest (comment_node inner (owned file document)) nodes is

pub comment_made : (file : List ℕ) (context : Context) (count : ℕ) (inner : List ℕ) (rest : Content) (nodes : Nodes) → IsBehind file context count rest (comment_node inner (owned file document)) nodes
    → nodes_of file context count (comment_content inner rest) ≡ Ok nodes
comment_made file context count inner rest nodes is = behind_made file context count rest (comment_node inner (owned file document)) nodes is

pub pi_gives : (file : List ℕ) (context : Context) (count : ℕ) (target inner : List ℕ) (rest : Content) (nodes : Nodes) → nodes_of file context count (pi_content target inner rest) ≡ Ok nodes
    → IsBehind file context count rest (pi_node target inner (owned file document)) nodes
pi_gives file context count target inner rest nodes is = behind_gives file context count rest (pi_node target inner (owned file document)) nodes is

pub pi_made : (file : List ℕ) (context : Context) (count : ℕ) (target inner : List ℕ) (rest : Content) (nodes : Nodes) → IsBehind file context count rest (pi_node target inner (owned file document)) nodes
    → nodes_of file context count (pi_content target inner rest) ≡ Ok nodes
pi_made file context count target inner rest nodes is = behind_made file context count rest (pi_node target inner (owned file document)) nodes is

-- ---- fewer nodes before

pub fewer_room : (k count : ℕ) → k ≤ count → nat_lt count most_nodes ≡ true → nat_lt k most_nodes ≡ true
fewer_room k count less room = grind (arith, nat_tests)

pub fewer_before : (file : List ℕ) (context : Context) (k count : ℕ) (content : Content) (nodes : Nodes) → k ≤ count → nodes_of file context count content ≡ Ok nodes → nodes_of file context k content ≡ Ok nodes
fewer_before file context k count nothing_given nodes less is = is
fewer_before file context k count (element_content name values kids rest) nodes less is =
    let e = element_gives file context count name values kids rest nodes is in
    element_made file context k name values kids rest nodes record {
      element = e.element;
      inner = e.inner;
      others = e.others;
      own = e.own;
      room = fewer_room k count less e.room;
      within = fewer_before file e.element.context (suc k) (suc count) kids e.inner (omega (arith, less)) e.within;
      behind = fewer_before file context (suc k + node_count e.inner) (suc count + node_count e.inner) rest e.others (omega (arith, less)) e.behind;
      are = e.are;
    }
fewer_before file context k count (text_content [] rest) nodes less is = fewer_before file context k count rest nodes less is
fewer_before file context k count (text_content (b ∷ value) rest) nodes less is =
    let e = text_gives file context count b value rest nodes is in
    text_made file context k b value rest nodes record { others = e.others; room = fewer_room k count less e.room; behind = fewer_before file context (suc k) (suc count) rest e.others (omega (arith, less)) e.behind; are = e.are }
fewer_before file context k count (comment_content inner rest) nodes less is =
    let e = comment_gives file context count inner rest nodes is in
    comment_made file context k inner rest nodes record { others = e.others; room = fewer_room k count less e.room; behind = fewer_before file context (suc k) (suc count) rest e.others (omega (arith, less)) e.behind; are = e.are }
fewer_before file context k count (pi_content target inner rest) nodes less is =
    let e = pi_gives file context count target inner rest nodes is in
    pi_made file context k target inner rest nodes record { others = e.others; room = fewer_room k count less e.room; behind = fewer_before file context (suc k) (suc count) rest e.others (omega (arith, less)) e.behind; are = e.are }
