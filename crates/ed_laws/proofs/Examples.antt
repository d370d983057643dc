-- Edits of a small tree and their outcomes, and where its texts stand.
use Rattle.std.proofs.Common.{◌≡◌, ◌≢◌, ◌∙◌, sym, Option, ℕ, List, [], ◌∷◌, ◌++◌, refl, ap, true, false, get_or, arith, inr, codes, Some, None, encode_utf8_all, append-nil}
use Rattle.xt_spec.specs.Tree.{Items, nil, element, leaf, text_item, comment_item, leaf_item, element_item, append, source_text}
use Rattle.xt_spec.specs.Text.{HasTextValue, section_part}
use Rattle.ed_spec.specs.Book.{Book}
use Rattle.ed_spec.specs.Session.{edit, burst, done, saved_files, Step}
use Rattle.ed_spec.specs.Session as session
use Rattle.ed_spec.specs.Edit.{Edit, text_edit, no_such_place, wrong_kind, bad_range, no_node, no_text, no_range, accepted}
use Rattle.xt_spec.proofs.Theorems.{source_text-append}
use Rattle.ed_laws.specs.Outcome.{refused, gives, HasOutcome}
use Rattle.ed_laws.specs.Bytes.{StandsBetween}
use Rattle.bk_spec.specs.Node.{Origin, Head, Nodes, no_nodes, element_node, text_node}
use Rattle.ed_laws.specs.NodePlaces.{has_node}
use Rattle.ed_laws.specs.LocalSteps.{IsLocalStep, AreLocalSteps}
use Rattle.xt_escape.proofs.Theorems.{escape_has_value}
use Rattle.ed_laws.proofs.Outcomes.{one_outcome}

-- <a>x</a>
abbrev holds : List ℕ → Items
holds text = element (codes "<a>") (leaf text_item text nil) (Some (codes "</a>")) nil

letter : HasTextValue (codes "x") (encode_utf8_all (codes "x"))
unfolding lib.Utf8.encode
letter = escape_has_value (codes "x") refl

changes_a_letter : HasOutcome (holds (codes "x")) (text_edit (1 ∷ 1 ∷ []) 0 1 (codes "<y")) (gives (holds (codes "&lt;y")))
unfolding lib.Utf8.encode
changes_a_letter = accepted (1 ∷ 1 ∷ []) 0 1 (codes "<y") (0 ∷ 0 ∷ []) (codes "x") (record { item = leaf_item text_item (codes "x"); at = record { leads = refl; there = refl }; value = letter; ascends = omega arith; within = omega arith }) refl (omega arith)

refuses_an_element : HasOutcome (holds (codes "x")) (text_edit (1 ∷ []) 0 0 []) (refused wrong_kind)
refuses_an_element = no_text (1 ∷ []) 0 0 [] (0 ∷ []) (element_item (codes "<a>") (leaf text_item (codes "x") nil) (Some (codes "</a>"))) (record { leads = refl; there = refl }) refl

finds_no_second_text : HasOutcome (holds (codes "x")) (text_edit (1 ∷ 2 ∷ []) 0 0 []) (refused no_such_place)
finds_no_second_text = no_node (1 ∷ 2 ∷ []) 0 0 [] refl

-- .. and so no other reason is told
tells_one_reason : HasOutcome (holds (codes "x")) (text_edit (1 ∷ 2 ∷ []) 0 0 []) (refused wrong_kind) → ⊥
tells_one_reason has = let same = one_outcome (holds (codes "x")) (text_edit (1 ∷ 2 ∷ []) 0 0 []) (refused no_such_place) (refused wrong_kind) finds_no_second_text has in absurd (cc)

takes_two_of_one : HasOutcome (holds (codes "x")) (text_edit (1 ∷ 1 ∷ []) 0 2 []) (refused bad_range)
takes_two_of_one = no_range (1 ∷ 1 ∷ []) 0 2 [] (0 ∷ 0 ∷ []) (leaf_item text_item (codes "x")) (codes "x") (record { leads = refl; there = refl }) letter (inr (omega arith))

-- <a><![CDATA[]]><!--c-->x</a>: a text with an empty value has no number, a comment has one
abbrev behind : List ℕ → Items
behind text = element (codes "<a>") (leaf text_item (codes "<![CDATA[]]>") (leaf comment_item (codes "<!--c-->") (leaf text_item text nil))) (Some (codes "</a>")) nil

counts_no_empty_section : HasOutcome (behind (codes "x")) (text_edit (1 ∷ 2 ∷ []) 1 1 (codes "y")) (gives (behind (codes "xy")))
unfolding lib.Utf8.encode
counts_no_empty_section = accepted (1 ∷ 2 ∷ []) 1 1 (codes "y") (0 ∷ 2 ∷ []) (codes "x") (record { item = leaf_item text_item (codes "x"); at = record { leads = refl; there = refl }; value = letter; ascends = omega arith; within = omega arith }) refl (omega arith)

refuses_a_comment : HasOutcome (behind (codes "x")) (text_edit (1 ∷ 1 ∷ []) 0 0 []) (refused wrong_kind)
refuses_a_comment = no_text (1 ∷ 1 ∷ []) 0 0 [] (0 ∷ 1 ∷ []) (leaf_item comment_item (codes "<!--c-->")) (record { leads = refl; there = refl }) refl

finds_no_third_node : HasOutcome (behind (codes "x")) (text_edit (1 ∷ 3 ∷ []) 0 0 []) (refused no_such_place)
finds_no_third_node = no_node (1 ∷ 3 ∷ []) 0 0 [] refl

-- the value of a section counts as it stands
section_has_its_characters : HasTextValue (codes "<![CDATA[<]]>") (encode_utf8_all (codes "<"))
unfolding lib.Utf8.encode
section_has_its_characters = (section_part (codes "<![CDATA[<]]>") (codes "<") ∷ [], (((codes "<", refl, refl), refl, refl), tt), refl, refl)

-- ---- bytes

-- <a>x<b/>x</a>: the second text stands behind the first, which has the same bytes
abbrev twice : Items
twice = element (codes "<a>") (leaf text_item (codes "x") (element (codes "<b/>") nil None (leaf text_item (codes "x") nil))) (Some (codes "</a>")) nil

stands_at_the_end : StandsBetween twice (0 ∷ 2 ∷ []) (codes "<a>x<b/>") (codes "x") (codes "</a>")
stands_at_the_end = record {
  there = refl;
  whole = refl;
  put = λ others. append-nil (codes "<a>x<b/>" ++ source_text (append others nil) ++ codes "</a>") ∙ ap (λ (l : List ℕ). codes "<a>x<b/>" ++ l ++ codes "</a>") (source_text-append others nil ∙ append-nil (source_text others));
}

stands_not_in_front : StandsBetween twice (0 ∷ 2 ∷ []) (codes "<a>") (codes "x") (codes "<b/>x</a>") → ⊥
stands_not_in_front stands =
    let fourth : 0x78 ≡ 0x3C = ap (λ (l : List ℕ). get_or l 3 0) (stands.put nil) in
    omega (arith, fourth)

-- ---- steps

-- an edit that was refused leaves the book, and so does a save
refused_stays : (root : List ℕ) (book : Book) (e : Edit) → IsLocalStep root book (edit e) (session.refused bad_range) book
refused_stays root book e = refl

save_stays : (root : List ℕ) (book : Book) → IsLocalStep root book burst (saved_files 1) book
save_stays root book = refl

-- an edit that takes the root away is not local
takes_the_root : (root : List ℕ) (book next : Book) (place : List ℕ) (from to : ℕ) (new : List ℕ) → next root ≡ None → IsLocalStep root book (edit (text_edit place from to new)) done next → ⊥
takes_the_root root book next place from to new none is =
    let bad : ◌≡◌ {A = Option (List ℕ)} None (Some (source_text is.others)) = sym none ∙ is.after in
    absurd (cc)

-- .. nor one that writes another file
writes_another : (root name : List ℕ) (book next : Book) (place : List ℕ) (from to : ℕ) (new : List ℕ) → name ≢ root → next name ≢ book name → IsLocalStep root book (edit (text_edit place from to new)) done next → ⊥
writes_another root name book next place from to new apart other is = other (is.same name apart)

-- there are no steps without commands
no_command : (root : List ℕ) (book : Book) (step : Step) → AreLocalSteps root book [] (step ∷ []) → ⊥
no_command root book step are = are

-- ---- places

-- an element that holds a text: its place, that of the text, and no second one
element_has_its_place : (head : Head) (origin : Origin) → has_node (element_node head (text_node (codes "x") origin no_nodes) no_nodes) (1 ∷ []) ≡ true
element_has_its_place head origin = refl

text_has_its_place : (head : Head) (origin : Origin) → has_node (element_node head (text_node (codes "x") origin no_nodes) no_nodes) (1 ∷ 1 ∷ []) ≡ true
text_has_its_place head origin = refl

no_second_place : (head : Head) (origin : Origin) → has_node (element_node head (text_node (codes "x") origin no_nodes) no_nodes) (1 ∷ 2 ∷ []) ≡ false
no_second_place head origin = refl

-- a place has a number, and counts from 1
no_place : (nodes : Nodes) → has_node nodes [] ≡ false
no_place nodes = refl

no_place_0 : (head : Head) (inner others : Nodes) → has_node (element_node head inner others) (0 ∷ []) ≡ false
no_place_0 head inner others = refl
