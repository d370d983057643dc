-- The nodes after an edit of a text: the text at the place has its new value, and the others stay.
use Rattle.std.proofs.Common.{◌≡◌, ◌∙◌, ℕ, zero, suc, ◌-◌, ◌+◌, ◌≤◌, List, [], ◌∷◌, ◌++◌, take, drop, refl, sym, ap, subst, arith, Some, Bool, true, false, not, option_map, if◌then◌else◌, Ok, encode_utf8_all, ◌||◌, bytes_eq, codes}
use Rattle.std.specs.List.{list_all}
use Rattle.xt_spec.specs.Char.{is_char}
use Rattle.xt_spec.specs.Tree.{Items, nil, element, leaf, Item, element_item, leaf_item, text_item, reference_item, comment_item, pi_item, gap}
use Rattle.xt_spec.specs.LineEnds.{lines_read}
use Rattle.xt_spec.specs.Text.{HasTextValue}
use Rattle.xt_spec.specs.Content.{Content, element_content, text_content, comment_content, pi_content, HasContent}
use Rattle.xt_spec.specs.Reading.{document}
use Rattle.bk_spec.specs.Node.{Origin, owned, Nodes, no_nodes, element_node, text_node, comment_node, pi_node, node_count, has_inclusion}
use Rattle.bk_spec.specs.DocumentNodes.{Context, nodes_of}
use Rattle.bk_spec.specs.Opening.{GivesNodes}
use Rattle.xt_spec.specs.Paths.{item_in, item_at}
use Rattle.ed_spec.specs.TextEdit.{text_edited}
use Rattle.ed_spec.specs.Place.{child_index, index_of, content_of, path_along, path_of, text_or_none, text_set_in, text_set}
use Rattle.ed_spec.specs.Edit.{IsTextItemOf, IsInText, range_replaced, edited}
use Rattle.ed_text.specs.EditedContent.{text_before, content_edited_in, content_edited}
use Rattle.ed_text.proofs.Theorems.{edited_content}
use Rattle.ed_laws.proofs.Places.{no_first, one_less, behind_node, first_node, no_end, one_step}
use Rattle.ed_laws.proofs.NodeLemmas.{element_gives, element_made, IsBehind, text_gives, text_made, comment_gives, comment_made, pi_gives, pi_made, fewer_room, fewer_before}
use Rattle.ed_laws.proofs.Values.{value_chars, all_joined, all_cut}
use Rattle.ed_laws.proofs.VoidTexts.{void_value, some_not_void}

-- ---- what is set

-- the content gives the nodes, which are no more than others were
abbrev IsSet : List ℕ → Context → ℕ → Content → Nodes → Nodes → Type 0
IsSet file context count content nodes old = (nodes_of file context count content ≡ Ok nodes) × (node_count nodes ≤ node_count old)

-- .. of a content and nodes that are others
as_they_are : (file : List ℕ) (context : Context) (count : ℕ) (f : Content → Content) (g : Nodes → Nodes) (content c : Content) (nodes ns : Nodes) → content ≡ c → nodes ≡ ns → IsSet file context count (f c) (g ns) ns → IsSet file context count (f content) (g nodes) nodes
as_they_are file context count f g content c nodes ns same are set =
    subst (λ (c : Content). IsSet file context count (f c) (g nodes) nodes) (sym same) (subst (λ (ns : Nodes). IsSet file context count (f c) (g ns) ns) (sym are) set)

-- the items that stand for a value give a text of it, or nothing
value_set : (file : List ℕ) (context : Context) (k count : ℕ) (value : List ℕ) (rest : Content) (front : Nodes → Nodes) (nodes : Nodes) → k ≤ count → (e : IsBehind file context count rest front nodes)
    → nodes_of file context k (text_before value rest) ≡ Ok (text_or_none value (owned file document) e.others)
value_set file context k count [] rest front nodes less e = fewer_before file context k (suc count) rest e.others (omega (arith, less)) e.behind
value_set file context k count (b ∷ value) rest front nodes less e =
    text_made file context k b value rest (text_node (b ∷ value) (owned file document) e.others) record {
      others = e.others;
      room = fewer_room k count less e.room;
      behind = fewer_before file context (suc k) (suc count) rest e.others (omega (arith, less)) e.behind;
      are = refl;
    }

value_counts : (old value : List ℕ) (origin : Origin) (others : Nodes) → node_count (text_set_in (text_node old origin others) 1 [] value) ≤ node_count (text_node old origin others)
value_counts old [] origin others = omega arith
value_counts old (b ∷ value) origin others = omega arith

-- a node stays in front of what is set
front_stays : (file : List ℕ) (context : Context) (k count : ℕ) (rest next : Content) (front : Nodes → Nodes) (nodes others : Nodes) → k ≤ count → IsBehind file context count rest front nodes → nodes_of file context (suc k) next ≡ Ok others
    → IsBehind file context k next front (front others)
front_stays file context k count rest next front nodes others less e gives = record { others = others; room = fewer_room k count less e.room; behind = gives; are = refl }

-- ---- in the place of the text that a place leads to

-- where a text with an empty value stands first, no number is its
void_behind : (text : List ℕ) (rest : Items) (number index : ℕ) → HasTextValue text [] → index_of (leaf text_item text rest) number ≡ Some index → option_map suc (index_of rest number) ≡ Some index
void_behind text rest number index has at =
    subst (λ (void : Bool). (if not void then child_index number (index_of rest (number - 1)) else option_map suc (index_of rest number)) ≡ Some index) ((void_value text [] has).1 refl) at

some_behind : (text value : List ℕ) (b : ℕ) (rest : Items) (number index : ℕ) → HasTextValue text (b ∷ value) → index_of (leaf text_item text rest) number ≡ Some index → child_index number (index_of rest (number - 1)) ≡ Some index
some_behind text value b rest number index has at =
    subst (λ (void : Bool). (if not void then child_index number (index_of rest (number - 1)) else option_map suc (index_of rest number)) ≡ Some index) (some_not_void text value b has) at

sets_in : (file : List ℕ) (context : Context) (k count : ℕ) (items : Items) (content : Content) (nodes : Nodes) (number : ℕ) (place : List ℕ) (index : ℕ) (path text v : List ℕ)
    → HasContent items content → nodes_of file context count content ≡ Ok nodes → k ≤ count → index_of items number ≡ Some index → path_along (content_of items index) place ≡ Some path
    → item_in items index path ≡ Some (leaf_item text_item text) → IsSet file context k (content_edited_in items index path v content) (text_set_in nodes number place v) nodes
sets_in file context k count nil content nodes number place index path text v has gives less at along is = absurd (cc)
sets_in file context k count (leaf reference_item other rest) content nodes number place index path text v has gives less at along is = absurd has
sets_in file context k count (leaf gap other rest) content nodes number place zero path text v has gives less at along is = absurd (no_first (index_of rest number) at)
sets_in file context k count (leaf gap other rest) content nodes number place (suc index) path text v has gives less at along is =
    sets_in file context k count rest content nodes number place index path text v has.1 gives less (one_less (index_of rest number) index at) along is
sets_in file context k count (leaf text_item other rest) content nodes number place zero path text v ([], others, has_value, has, same) gives less at along is =
    absurd (no_first (index_of rest number) (void_behind other rest number zero has_value at))
sets_in file context k count (leaf text_item other rest) content nodes number place (suc index) path text v ([], others, has_value, has, same) gives less at along is =
    subst (λ (c : Content). IsSet file context k (content_edited_in (leaf text_item other rest) (suc index) path v c) (text_set_in nodes number place v) nodes) (sym same)
    (sets_in file context k count rest others nodes number place index path text v has (sym (ap (nodes_of file context count) same) ∙ gives) less (one_less (index_of rest number) index (void_behind other rest number (suc index) has_value at)) along is)
sets_in file context k count (leaf text_item other rest) content nodes number (next ∷ place) zero path text v (b ∷ value, others, has_value, has, same) gives less at along is = absurd (cc)
sets_in file context k count (leaf text_item other rest) content nodes number [] zero (n ∷ path) text v (b ∷ value, others, has_value, has, same) gives less at along is = absurd (cc)
sets_in file context k count (leaf text_item other rest) content nodes number [] zero [] text v (b ∷ value, others, has_value, has, same) gives less at along is =
    let first : number ≡ 1 = first_node rest number (some_behind other value b rest number zero has_value at) in
    let e = text_gives file context count b value others nodes (sym (ap (nodes_of file context count) same) ∙ gives) in
    subst (λ (n : ℕ). IsSet file context k (content_edited_in (leaf text_item other rest) zero [] v content) (text_set_in nodes n [] v) nodes) (sym first)
    (as_they_are file context k (content_edited_in (leaf text_item other rest) zero [] v) (λ (ns : Nodes). text_set_in ns 1 [] v) content (text_content (b ∷ value) others) nodes (text_node (b ∷ value) (owned file document) e.others) same e.are
    (value_set file context k count v others (text_node (b ∷ value) (owned file document)) nodes less e, value_counts (b ∷ value) v (owned file document) e.others))
sets_in file context k count (leaf text_item other rest) content nodes number place (suc index) path text v (b ∷ value, others, has_value, has, same) gives less at along is =
    let (n, further, there) = behind_node rest number index (some_behind other value b rest number (suc index) has_value at) in
    let e = text_gives file context count b value others nodes (sym (ap (nodes_of file context count) same) ∙ gives) in
    let set = sets_in file context (suc k) (suc count) rest others e.others (suc n) place index path text v has e.behind (omega (arith, less)) there along is in
    let next = content_edited_in rest index path v others in
    let after = text_set_in e.others (suc n) place v in
    subst (λ (n : ℕ). IsSet file context k (content_edited_in (leaf text_item other rest) (suc index) path v content) (text_set_in nodes n place v) nodes) (sym further)
    (as_they_are file context k (content_edited_in (leaf text_item other rest) (suc index) path v) (λ (ns : Nodes). text_set_in ns (suc (suc n)) place v) content (text_content (b ∷ value) others) nodes (text_node (b ∷ value) (owned file document) e.others) same e.are
    (text_made file context k b value next (text_node (b ∷ value) (owned file document) after) (front_stays file context k count others next (text_node (b ∷ value) (owned file document)) nodes after less e set.0), omega (arith, set.1)))
sets_in file context k count (leaf comment_item other rest) content nodes number place zero [] text v has gives less at along is = absurd (cc)
sets_in file context k count (leaf comment_item other rest) content nodes number place zero (n ∷ path) text v has gives less at along is = absurd (cc)
sets_in file context k count (leaf comment_item other rest) content nodes number place (suc index) path text v (inner, others, spells, has, same) gives less at along is =
    let (n, further, there) = behind_node rest number index at in
    let e = comment_gives file context count (lines_read inner) others nodes (sym (ap (nodes_of file context count) same) ∙ gives) in
    let set = sets_in file context (suc k) (suc count) rest others e.others (suc n) place index path text v has e.behind (omega (arith, less)) there along is in
    let next = content_edited_in rest index path v others in
    let after = text_set_in e.others (suc n) place v in
    let front = comment_node (lines_read inner) (owned file document) in
    subst (λ (n : ℕ). IsSet file context k (content_edited_in (leaf comment_item other rest) (suc index) path v content) (text_set_in nodes n place v) nodes) (sym further)
    (as_they_are file context k (content_edited_in (leaf comment_item other rest) (suc index) path v) (λ (ns : Nodes). text_set_in ns (suc (suc n)) place v) content (comment_content (lines_read inner) others) nodes (front e.others) same e.are
    (comment_made file context k (lines_read inner) next (front after) (front_stays file context k count others next front nodes after less e set.0), omega (arith, set.1)))
sets_in file context k count (leaf pi_item other rest) content nodes number place zero [] text v has gives less at along is = absurd (cc)
sets_in file context k count (leaf pi_item other rest) content nodes number place zero (n ∷ path) text v has gives less at along is = absurd (cc)
sets_in file context k count (leaf pi_item other rest) content nodes number place (suc index) path text v (target, inner, others, spells, has, same) gives less at along is =
    let (n, further, there) = behind_node rest number index at in
    let e = pi_gives file context count target (lines_read inner) others nodes (sym (ap (nodes_of file context count) same) ∙ gives) in
    let set = sets_in file context (suc k) (suc count) rest others e.others (suc n) place index path text v has e.behind (omega (arith, less)) there along is in
    let next = content_edited_in rest index path v others in
    let after = text_set_in e.others (suc n) place v in
    let front = pi_node target (lines_read inner) (owned file document) in
    subst (λ (n : ℕ). IsSet file context k (content_edited_in (leaf pi_item other rest) (suc index) path v content) (text_set_in nodes n place v) nodes) (sym further)
    (as_they_are file context k (content_edited_in (leaf pi_item other rest) (suc index) path v) (λ (ns : Nodes). text_set_in ns (suc (suc n)) place v) content (pi_content target (lines_read inner) others) nodes (front e.others) same e.are
    (pi_made file context k target (lines_read inner) next (front after) (front_stays file context k count others next front nodes after less e set.0), omega (arith, set.1)))
sets_in file context k count (element open_tag kids close rest) content nodes number [] zero [] text v has gives less at along is = absurd (cc)
sets_in file context k count (element open_tag kids close rest) content nodes number [] zero (n ∷ path) text v has gives less at along is = absurd (cc)
sets_in file context k count (element open_tag kids close rest) content nodes number (next ∷ place) zero [] text v has gives less at along is =
    absurd (no_end (index_of kids next) (λ i. path_along (content_of kids i) place) along)
sets_in file context k count (element open_tag kids close rest) content nodes number (next ∷ place) zero (n ∷ path) text v (tag, values, inner, others, is_tag, spelled, values_are, has_inner, has, same) gives less at along is =
    let first : number ≡ 1 = first_node rest number at in
    let step = one_step (index_of kids next) (λ i. path_along (content_of kids i) place) n path along in
    let e = element_gives file context count tag.name values inner others nodes (sym (ap (nodes_of file context count) same) ∙ gives) in
    let set = sets_in file e.element.context (suc k) (suc count) kids inner e.inner next place n path text v has_inner e.within (omega (arith, less)) step.0 step.1 is in
    let after = text_set_in e.inner next place v in
    let within = content_edited_in kids n path v inner in
    subst (λ (m : ℕ). IsSet file context k (content_edited_in (element open_tag kids close rest) zero (n ∷ path) v content) (text_set_in nodes m (next ∷ place) v) nodes) (sym first)
    (as_they_are file context k (content_edited_in (element open_tag kids close rest) zero (n ∷ path) v) (λ (ns : Nodes). text_set_in ns 1 (next ∷ place) v) content (element_content tag.name values inner others) nodes (element_node e.element.head e.inner e.others) same e.are (
      element_made file context k tag.name values within others (element_node e.element.head after e.others) record {
        element = e.element;
        inner = after;
        others = e.others;
        own = e.own;
        room = fewer_room k count less e.room;
        within = set.0;
        behind = fewer_before file context (suc k + node_count after) (suc count + node_count e.inner) others e.others (omega (arith, less, set.1)) e.behind;
        are = refl;
      },
      omega (arith, set.1),
    ))
sets_in file context k count (element open_tag kids close rest) content nodes number place (suc index) path text v (tag, values, inner, others, is_tag, spelled, values_are, has_inner, has, same) gives less at along is =
    let (n, further, there) = behind_node rest number index at in
    let e = element_gives file context count tag.name values inner others nodes (sym (ap (nodes_of file context count) same) ∙ gives) in
    let set = sets_in file context (suc k + node_count e.inner) (suc count + node_count e.inner) rest others e.others (suc n) place index path text v has e.behind (omega (arith, less)) there along is in
    let next = content_edited_in rest index path v others in
    let after = text_set_in e.others (suc n) place v in
    subst (λ (n : ℕ). IsSet file context k (content_edited_in (element open_tag kids close rest) (suc index) path v content) (text_set_in nodes n place v) nodes) (sym further)
    (as_they_are file context k (content_edited_in (element open_tag kids close rest) (suc index) path v) (λ (ns : Nodes). text_set_in ns (suc (suc n)) place v) content (element_content tag.name values inner others) nodes (element_node e.element.head e.inner e.others) same e.are (
      element_made file context k tag.name values inner next (element_node e.element.head e.inner after) record {
        element = e.element;
        inner = e.inner;
        others = after;
        own = e.own;
        room = fewer_room k count less e.room;
        within = fewer_before file e.element.context (suc k) (suc count) inner e.inner (omega (arith, less)) e.within;
        behind = set.0;
        are = refl;
      },
      omega (arith, set.1),
    ))

-- .. at the top
sets_at : (file : List ℕ) (context : Context) (count : ℕ) (items : Items) (nodes : Nodes) (place path text cs : List ℕ) → GivesNodes file context count items nodes → path_of items place ≡ Some path → item_at items path ≡ Some (leaf_item text_item text)
    → list_all is_char cs ≡ true → GivesNodes file context count (text_edited false items path cs) (text_set nodes place (encode_utf8_all cs))
sets_at file context count items nodes [] path text cs gives leads is are = absurd (cc)
sets_at file context count items nodes (number ∷ place) [] text cs gives leads is are = absurd (cc)
sets_at file context count items nodes (number ∷ place) (index ∷ path) text cs (content, has, gives) leads is are =
    let step = one_step (index_of items number) (λ i. path_along (content_of items i) place) index path leads in
    let set = sets_in file context count count items content nodes number place index path text (encode_utf8_all cs) has gives (omega arith) step.0 step.1 is in
    (content_edited items (index ∷ path) (encode_utf8_all cs) content, edited_content items (index ∷ path) text cs content is are has, set.0)

-- ---- an item that is a text of some characters

pub text_of_item : (item : Item) (characters : List ℕ) → IsTextItemOf item characters → (text : List ℕ) × (item ≡ leaf_item text_item text) × HasTextValue text (encode_utf8_all characters)
text_of_item (leaf_item text_item text) characters has = (text, refl, has)
text_of_item (leaf_item reference_item text) characters has = absurd has
text_of_item (leaf_item comment_item text) characters has = absurd has
text_of_item (leaf_item pi_item text) characters has = absurd has
text_of_item (leaf_item gap text) characters has = absurd has
text_of_item (element_item open_tag kids close) characters has = absurd has

-- what a range gives way to is of Chars, as the text was
pub range_chars : (characters : List ℕ) (from to : ℕ) (new : List ℕ) → list_all is_char characters ≡ true → list_all is_char new ≡ true → list_all is_char (range_replaced characters from to new) ≡ true
range_chars characters from to new old are =
    all_joined (take from characters ++ new) (drop to characters) (all_joined (take from characters) new (all_cut from characters old).0 are) (all_cut to characters old).1

pub edit_changes_the_node : (file : List ℕ) (context : Context) (count : ℕ) (items : Items) (nodes : Nodes) (place : List ℕ) (from to : ℕ) (new path characters : List ℕ)
    → GivesNodes file context count items nodes → IsInText items place from to path characters → list_all is_char new ≡ true
    → GivesNodes file context count (edited items path characters from to new) (text_set nodes place (encode_utf8_all (range_replaced characters from to new)))
edit_changes_the_node file context count items nodes place from to new path characters gives inside are =
    let (text, is, has) = text_of_item inside.item characters inside.value in
    sets_at file context count items nodes place path text (range_replaced characters from to new) gives inside.at.leads (inside.at.there ∙ ap Some is) (range_chars characters from to new (value_chars text characters has) are)

-- ---- no element is added

text_or_none_inclusion : (value : List ℕ) (origin : Origin) (others : Nodes) → has_inclusion (text_or_none value origin others) ≡ has_inclusion others
text_or_none_inclusion [] origin others = refl
text_or_none_inclusion (b ∷ value) origin others = refl

set_inclusion : (nodes : Nodes) (number : ℕ) (place value : List ℕ) → has_inclusion (text_set_in nodes number place value) ≡ has_inclusion nodes
set_inclusion no_nodes number place value = refl
set_inclusion (element_node head kids rest) zero place value = refl
set_inclusion (element_node head kids rest) (suc zero) [] value = refl
set_inclusion (element_node head kids rest) (suc zero) (next ∷ place) value =
    ap (λ (b : Bool). bytes_eq head.space (codes "http://www.w3.org/2001/XInclude") || b || has_inclusion rest) (set_inclusion kids next place value)
set_inclusion (element_node head kids rest) (suc (suc number)) place value =
    ap (λ (b : Bool). bytes_eq head.space (codes "http://www.w3.org/2001/XInclude") || has_inclusion kids || b) (set_inclusion rest (suc number) place value)
set_inclusion (text_node old origin rest) zero place value = refl
set_inclusion (text_node old origin rest) (suc zero) [] value = text_or_none_inclusion value origin rest
set_inclusion (text_node old origin rest) (suc zero) (next ∷ place) value = refl
set_inclusion (text_node old origin rest) (suc (suc number)) place value = set_inclusion rest (suc number) place value
set_inclusion (comment_node old origin rest) zero place value = refl
set_inclusion (comment_node old origin rest) (suc zero) place value = refl
set_inclusion (comment_node old origin rest) (suc (suc number)) place value = set_inclusion rest (suc number) place value
set_inclusion (pi_node target old origin rest) zero place value = refl
set_inclusion (pi_node target old origin rest) (suc zero) place value = refl
set_inclusion (pi_node target old origin rest) (suc (suc number)) place value = set_inclusion rest (suc number) place value

pub text_set_inclusion : (nodes : Nodes) (place value : List ℕ) → has_inclusion (text_set nodes place value) ≡ has_inclusion nodes
text_set_inclusion nodes [] value = refl
text_set_inclusion nodes (number ∷ place) value = set_inclusion nodes number place value
