-- Places, an edited tree, books, edits and sessions, computed on right and wrong cases.
use Rattle.std.proofs.Common.{◌≡◌, ◌≢◌, ◌≤◌, ◌∙◌, List, ℕ, zero, suc, Bool, refl, sym, ap, subst, [], ◌∷◌, ◌++◌, length, get_or, drop_of_length-le, codes, true, false, Some, None, unwrap_or, bytes_eq, nat_eq, eqb, eq-eqb, inl, inr, arith}
use Rattle.std.proofs.Math.Utf8.{encode}
use Rattle.std.specs.Cmp.Lexicographic.{pointwise, bytes_decides}
use Rattle.std.specs.List.{list_any}
use Rattle.xt_spec.specs.Content.{text_content, element_content, nothing_given, HasContent}
use Rattle.xt_spec.specs.Reading.{document, IsElementAt, IsReading}
use Rattle.xt_spec.specs.Tag.{IsTag}
use Rattle.xt_spec.specs.Text.{HasTextValue, data_part}
use Rattle.xt_spec.specs.Token.{Spells, char_data, HoldsNoClose}
use Rattle.xt_spec.specs.Tree.{Items, nil, element, leaf, text_item, gap, element_item, leaf_item, source_text}
use Rattle.bk_spec.specs.Node.{Nodes, no_nodes, element_node, text_node, owned}
use Rattle.bk_spec.specs.Opening.{top_context}
use Rattle.ed_spec.specs.TextEdit.{text_edited}
use Rattle.ed_spec.specs.Place.{path_of, text_set}
use Rattle.ed_spec.specs.Book.{Book, with_file, Opens}
use Rattle.ed_spec.specs.Edit.{Edit, text_edit, Refusal, no_such_place, wrong_kind, bad_range, bad_text, range_replaced, IsAt, IsInText, Refuses, no_node, no_text, no_range, no_char, Accepts, accepted, RefusesIn, AcceptsIn}
use Rattle.ed_spec.specs.Session.{Session, opened, edit, undo, redo, burst, Reply, done, refused, nothing_to_undo, nothing_to_redo, saved_files, AreDifferences, after_edit, after_undo, after_burst, Step, Does, accepts, refuses, undoes, undoes_nothing, redoes, redoes_nothing, saves, DoesAll, nothing, then}

-- <a>x<b/>y</a>
tree : Items
tree = element (codes "<a>") (leaf text_item (codes "x") (element (codes "<b/>") nil None (leaf text_item (codes "y") nil))) (Some (codes "</a>")) nil

edits_a_text : source_text (text_edited false tree (0 ∷ 2 ∷ []) (codes "<]")) ≡ codes "<a>x<b/>&lt;&#93;</a>"
unfolding tree encode
edits_a_text = refl

takes_a_text_away : source_text (text_edited false tree (0 ∷ 0 ∷ []) []) ≡ codes "<a><b/>y</a>"
unfolding tree
takes_a_text_away = refl

edits_nothing_at_another_path : text_edited false tree (0 ∷ 3 ∷ []) (codes "z") ≡ tree
unfolding tree
edits_nothing_at_another_path = refl

writes_it_as_it_is : source_text (text_edited true (leaf text_item (codes "a<b") nil) (0 ∷ []) (codes "a&b")) ≡ codes "a&b"
unfolding encode
writes_it_as_it_is = refl

-- white space, <a>x<b>y</b></a>
spaced : Items
spaced = leaf gap (0xA ∷ []) (element (codes "<a>") (leaf text_item (codes "x") (element (codes "<b>") (leaf text_item (codes "y") nil) (Some (codes "</b>")) nil)) (Some (codes "</a>")) nil)

finds_a_place : path_of spaced (1 ∷ 2 ∷ 1 ∷ []) ≡ Some (1 ∷ 1 ∷ 0 ∷ [])
unfolding spaced
finds_a_place = refl

finds_no_second_root : path_of spaced (2 ∷ []) ≡ None
unfolding spaced
finds_no_second_root = refl

finds_no_place_in_a_text : path_of spaced (1 ∷ 1 ∷ 1 ∷ []) ≡ None
unfolding spaced
finds_no_place_in_a_text = refl

finds_no_place_of_number_zero : path_of spaced (1 ∷ 0 ∷ []) ≡ None
unfolding spaced
finds_no_place_of_number_zero = refl

nodes : List ℕ → Nodes → Nodes
nodes name kids = element_node (record { space = []; local = name; attributes = []; base = []; lang = []; origin = owned [] document }) kids no_nodes

sets_a_text : text_set (nodes (codes "a") (text_node (codes "x") (owned [] document) no_nodes)) (1 ∷ 1 ∷ []) (codes "y") ≡ nodes (codes "a") (text_node (codes "y") (owned [] document) no_nodes)
unfolding nodes
sets_a_text = refl

sets_no_element : text_set (nodes (codes "a") no_nodes) (1 ∷ []) (codes "y") ≡ nodes (codes "a") no_nodes
unfolding nodes
sets_no_element = refl

takes_an_empty_text_away : text_set (nodes (codes "a") (text_node (codes "x") (owned [] document) no_nodes)) (1 ∷ 1 ∷ []) [] ≡ nodes (codes "a") no_nodes
unfolding nodes
takes_an_empty_text_away = refl

replaces_a_range : range_replaced (codes "hello") 1 4 (codes "ipp") ≡ codes "hippo"
replaces_a_range = refl

changes_one_file : with_file (codes "a") (codes "new") (λ name. None) (codes "b") ≡ None
changes_one_file = refl

-- ---- books

abbrev root : List ℕ
root = codes "r"

-- `<a>` and `</a>`, with a text within
abbrev holds : List ℕ → Items
holds text = element (codes "<a>") (leaf text_item text nil) (Some (codes "</a>")) nil

abbrev nodes_of_x : Nodes
nodes_of_x = element_node (record { space = []; local = codes "a"; attributes = []; base = (top_context root).base; lang = []; origin = owned root document }) (text_node (codes "x") (owned root document) no_nodes) no_nodes

-- a book of one file
abbrev book : List ℕ → Book
book bytes = with_file root bytes (λ name. None)

-- texts whose first bytes differ
unlike : (a b : ℕ) (xs ys : List ℕ) → eqb a b ≡ false → a ∷ xs ≡ b ∷ ys → ⊥
unlike a b xs ys apart same = let first : a ≡ b = cc in let wrong = eq-eqb a b first in cc

no_close : HoldsNoClose (codes "x")
no_close zero (rest, same) = unlike 0x78 0x5D _ _ refl same
no_close (suc k) (rest, same) =
    let far : length (codes "x") ≤ suc k = omega arith in
    let none : [] ≡ codes "]]>" ++ rest = sym (drop_of_length-le (codes "x") far) ∙ same in
    absurd (cc)

letter : Spells char_data (codes "x")
unfolding encode
letter = (codes "x", λ none. cc, ((refl, λ e. omega (arith, e), λ e. omega (arith, e)), tt), refl, no_close)

has_its_value : HasTextValue (codes "x") (codes "x")
has_its_value = (data_part (codes "x") ∷ [], (letter, refl, tt), refl, refl)

tag : IsTag (record { name = codes "a"; attributes = []; blank = [] })
unfolding encode
tag = record { name = inl (codes "a", refl, refl); attributes = tt; blank = refl }

is_an_element : IsElementAt 0 (codes "<a>") (leaf text_item (codes "x") nil) (Some (codes "</a>"))
is_an_element = record {
  within = omega arith;
  element = record { tag = record { name = codes "a"; attributes = []; blank = [] }; parts = tag; spelled = refl; unique = refl; closes = ([], refl, refl) };
}

reads_it : IsReading document (codes "<a>x</a>") (holds (codes "x"))
unfolding encode
reads_it = record {
  utf8 = (codes "<a>x</a>", (refl, refl));
  joined = refl;
  ordered = inr (refl, inr (refl, is_an_element, ((data_part (codes "x") ∷ [], (letter, refl, tt), λ none. cc, refl), refl, tt), refl));
}

gives_it : HasContent (holds (codes "x")) (element_content (codes "a") [] (text_content (codes "x") nothing_given) nothing_given)
gives_it = (
  record { name = codes "a"; attributes = []; blank = [] },
  [],
  text_content (codes "x") nothing_given,
  nothing_given,
  tag,
  refl,
  refl,
  (codes "x", nothing_given, has_its_value, refl, refl),
  refl,
  refl,
)

opens_a_root : Opens root (book (codes "<a>x</a>")) (codes "<a>x</a>") (holds (codes "x"))
opens_a_root = record {
  found = refl;
  nodes = nodes_of_x;
  opens = record { size = omega arith; reading = reads_it; gives = (_, gives_it, refl); apart = refl };
}

opens_no_other : (bytes : List ℕ) (items : Items) → Opens (codes "s") (book (codes "<a>x</a>")) bytes items → ⊥
opens_no_other bytes items is = let none = is.found in cc

-- ---- edits

-- `y` in the place of `x`
abbrev edit_of_x : Edit
edit_of_x = text_edit (1 ∷ 1 ∷ []) 0 1 (codes "y")

is_at_x : IsAt (holds (codes "x")) (1 ∷ 1 ∷ []) (0 ∷ 0 ∷ []) (leaf_item text_item (codes "x"))
is_at_x = record { leads = refl; there = refl }

is_in_x : IsInText (holds (codes "x")) (1 ∷ 1 ∷ []) 0 1 (0 ∷ 0 ∷ []) (codes "x")
unfolding encode
is_in_x = record { item = leaf_item text_item (codes "x"); at = is_at_x; value = has_its_value; ascends = omega arith; within = omega arith }

accepts_an_edit : Accepts (holds (codes "x")) edit_of_x (holds (codes "y"))
unfolding encode
accepts_an_edit = accepted (1 ∷ 1 ∷ []) 0 1 (codes "y") (0 ∷ 0 ∷ []) (codes "x") is_in_x refl (omega arith)

accepts_no_second_text : (others : Items) → Accepts (holds (codes "x")) (text_edit (1 ∷ 2 ∷ []) 0 0 []) others → ⊥
accepts_no_second_text others (accepted place from to new path characters is chars room) = let none = is.at.leads in cc

refuses_a_place : Refuses (holds (codes "x")) (text_edit (1 ∷ 2 ∷ []) 0 0 []) no_such_place
refuses_a_place = no_node (1 ∷ 2 ∷ []) 0 0 [] refl

refuses_no_place_of_x : Refuses (holds (codes "x")) edit_of_x no_such_place → ⊥
refuses_no_place_of_x (no_node place from to new none) = cc

refuses_an_element : Refuses (holds (codes "x")) (text_edit (1 ∷ []) 0 0 []) wrong_kind
refuses_an_element = no_text (1 ∷ []) 0 0 [] (0 ∷ []) (element_item (codes "<a>") (leaf text_item (codes "x") nil) (Some (codes "</a>"))) (record { leads = refl; there = refl }) refl

refuses_a_range : Refuses (holds (codes "x")) (text_edit (1 ∷ 1 ∷ []) 0 2 []) bad_range
unfolding encode
refuses_a_range = no_range (1 ∷ 1 ∷ []) 0 2 [] (0 ∷ 0 ∷ []) (leaf_item text_item (codes "x")) (codes "x") is_at_x has_its_value (inr (omega arith))

refuses_a_character : Refuses (holds (codes "x")) (text_edit (1 ∷ 1 ∷ []) 0 1 (0 ∷ [])) bad_text
refuses_a_character = no_char (1 ∷ 1 ∷ []) 0 1 (0 ∷ []) (0 ∷ 0 ∷ []) (codes "x") is_in_x refl

refuses_no_y : Refuses (holds (codes "x")) edit_of_x bad_text → ⊥
refuses_no_y (no_char place from to new path characters is wrong) = cc

-- ---- sessions

-- nothing was done; `y` was written; and that was undone
abbrev at_first : Session
at_first = opened root (book (codes "<a>x</a>"))

abbrev edited_book : Book
edited_book = with_file root (codes "<a>y</a>") (book (codes "<a>x</a>"))

abbrev when_edited : Session
when_edited = after_edit at_first edited_book

abbrev when_undone : Session
when_undone = after_undo when_edited (book (codes "<a>x</a>")) []

accepts_in_the_book : AcceptsIn root (book (codes "<a>x</a>")) edit_of_x edited_book
accepts_in_the_book = (codes "<a>x</a>", holds (codes "x"), holds (codes "y"), opens_a_root, accepts_an_edit, refl)

accepts_none_of_another_root : (next : Book) → AcceptsIn (codes "s") (book (codes "<a>x</a>")) edit_of_x next → ⊥
accepts_none_of_another_root next (bytes, items, others, opens, is, same) = opens_no_other bytes items opens

refuses_in_the_book : RefusesIn root (book (codes "<a>x</a>")) (text_edit (1 ∷ 2 ∷ []) 0 0 []) no_such_place
refuses_in_the_book = (codes "<a>x</a>", holds (codes "x"), opens_a_root, refuses_a_place)

refuses_none_of_another_root : (refusal : Refusal) → RefusesIn (codes "s") (book (codes "<a>x</a>")) edit_of_x refusal → ⊥
refuses_none_of_another_root refusal (bytes, items, opens, is) = opens_no_other bytes items opens

does_an_edit : Does root at_first (edit edit_of_x) done when_edited
does_an_edit = accepts edit_of_x edited_book accepts_in_the_book

does_no_edit : Does root at_first (edit (text_edit (1 ∷ 2 ∷ []) 0 0 [])) (refused no_such_place) at_first
does_no_edit = refuses (text_edit (1 ∷ 2 ∷ []) 0 0 []) no_such_place refuses_in_the_book

does_an_undo : Does root when_edited undo done when_undone
does_an_undo = undoes (book (codes "<a>x</a>")) [] refl

-- .. which leaves the book as it was
undoes_the_edit : when_undone.book ≡ at_first.book
undoes_the_edit = refl

does_no_undo_at_first : (last : Session) → Does root at_first undo done last → ⊥
does_no_undo_at_first last (undoes book past is) = cc

does_no_second_undo : (last : Session) → Does root when_undone undo done last → ⊥
does_no_second_undo last (undoes book past is) = cc

has_nothing_to_undo : Does root at_first undo nothing_to_undo at_first
has_nothing_to_undo = undoes_nothing refl

does_a_redo : Does root when_undone redo done when_edited
does_a_redo = redoes edited_book [] refl

has_an_edit_to_undo : (last : Session) → Does root when_edited undo nothing_to_undo last → ⊥
has_an_edit_to_undo last (undoes_nothing is) = cc

has_an_edit_to_redo : (last : Session) → Does root when_undone redo nothing_to_redo last → ⊥
has_an_edit_to_redo last (redoes_nothing is) = cc

-- an edit empties the future
does_no_redo_behind_an_edit : (last : Session) → Does root (after_edit when_undone edited_book) redo done last → ⊥
does_no_redo_behind_an_edit last (redoes book future is) = cc

has_nothing_to_redo : Does root when_edited redo nothing_to_redo when_edited
has_nothing_to_redo = redoes_nothing refl

abbrev step : Reply → Session → Step
step reply session = record { reply = reply; session = session }

goes_back_and_forth : DoesAll root at_first (edit edit_of_x ∷ undo ∷ redo ∷ []) (step done when_edited ∷ step done when_undone ∷ step done when_edited ∷ []) when_edited
goes_back_and_forth = then at_first when_edited when_edited (edit edit_of_x) (undo ∷ redo ∷ []) done _ does_an_edit
    (then when_edited when_undone when_edited undo (redo ∷ []) done _ does_an_undo (then when_undone when_edited when_edited redo [] done _ does_a_redo (nothing when_edited)))

goes_on_behind_an_undo : DoesAll root when_undone (edit edit_of_x ∷ redo ∷ []) (step done when_edited ∷ step nothing_to_redo when_edited ∷ []) when_edited
goes_on_behind_an_undo = then when_undone when_edited when_edited (edit edit_of_x) (redo ∷ []) done _ (accepts edit_of_x edited_book accepts_in_the_book)
    (then when_edited when_edited when_edited redo [] nothing_to_redo _ has_nothing_to_redo (nothing when_edited))

-- .. and back no further than to where it began
goes_back_no_further : (next last : Session) → DoesAll root at_first (undo ∷ []) (step done next ∷ []) last → ⊥
goes_back_no_further next last (then s t u command commands reply steps does others) = does_no_undo_at_first t does

-- ---- saves

differs : edited_book root ≢ book (codes "<a>x</a>") root
differs same = let wrong : ◌≡◌ {A = ℕ} 0x79 0x78 = ap (λ bytes. get_or (unwrap_or bytes []) 3 0) same in omega (arith, wrong)

is_root : (name : List ℕ) (same : Bool) → bytes_eq name root ≡ same → list_any (bytes_eq name) (root ∷ []) ≡ true → name ≡ root
is_root name true is among = (bytes_decides name root).0 is
is_root name false is among = let wrong : false ≡ true = rw is at among in absurd (cc)

is_among : (name : List ℕ) (same : Bool) → pointwise nat_eq root name ≡ same → edited_book name ≢ book (codes "<a>x</a>") name → list_any (bytes_eq name) (root ∷ []) ≡ true
is_among name true is other = let same : bytes_eq name root ≡ true = (bytes_decides name root).1 (sym ((bytes_decides root name).0 is)) in rw same refl
is_among name false is other = absurd (other (rw is refl))

one_difference : AreDifferences edited_book (book (codes "<a>x</a>")) (root ∷ [])
one_difference = record {
  distinct = refl;
  only = λ name among same. differs (subst (λ n. edited_book n ≡ book (codes "<a>x</a>") n) (is_root name _ refl among) same);
  all = λ name other. is_among name _ refl other;
}

saves_one_file : Does root when_edited burst (saved_files 1) (after_burst when_edited)
saves_one_file = saves (root ∷ []) one_difference

no_difference : (b : Book) → AreDifferences b b []
no_difference b = record { distinct = refl; only = λ name among. absurd (cc); all = λ name other. absurd (other refl) }

-- .. and none at once again, nor where the edit was undone
saves_none_at_once_again : Does root (after_burst when_edited) burst (saved_files 0) (after_burst when_edited)
saves_none_at_once_again = saves [] (no_difference edited_book)

saves_none_where_undone : Does root when_undone burst (saved_files 0) when_undone
saves_none_where_undone = saves [] (no_difference (book (codes "<a>x</a>")))

-- a session whose book is the saved one
counts_none : (s : Session) (reply : Reply) (last : Session) → s.book ≡ s.saved → Does root s burst reply last → reply ≡ saved_files 0
counts_none s reply last same (saves [] are) = refl
counts_none s reply last same (saves (name ∷ names) are) =
    let itself : bytes_eq name name ≡ true = (bytes_decides name name).1 refl in
    let among : list_any (bytes_eq name) (name ∷ names) ≡ true = rw itself refl in
    absurd (are.only name among (ap (λ b. b name) same))

saves_no_file_at_first : (last : Session) → Does root at_first burst (saved_files 1) last → ⊥
saves_no_file_at_first last does = let wrong = counts_none at_first (saved_files 1) last refl does in cc
