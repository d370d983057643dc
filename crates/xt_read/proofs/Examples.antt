-- Where a body begins, and the faults of a document and of a text: right and wrong cases.
use Rattle.std.proofs.Common.{◌≡◌, ◌∙◌, ℕ, Bool, List, [], ◌∷◌, ◌++◌, get_or, codes, None, Some, refl, ap, inl, inr, arith}
use Rattle.std.proofs.lemmas.Str.{chars-encodes}
use Rattle.std.proofs.Math.Utf8.{encode}
use Rattle.xt_spec.specs.Declaration.{Declaration}
use Rattle.xt_spec.specs.Reading.{mark, document, plain_text, behind_root, IsOrdered, IsReading}
use Rattle.xt_spec.specs.Token.{start_tag, end_tag, Spells}
use Rattle.xt_spec.specs.Tree.{Items, nil, leaf, text_item, gap}
use Rattle.xt_lex.proofs.Theorems.{token_longest, plain_is_ncname, ascii}
use Rattle.xt_read.specs.Faults.{IsFaultOf}
use Rattle.xt_spec.specs.Front.{NoDeclared, BeginsBody}
use Rattle.xt_spec.specs.FirstFault.{not_well_formed, HasBodyAt, IsFirstNoChar, IsFirstFault}
use Rattle.xt_read.specs.Front.{form_of, gaps_to}
use Rattle.xt_read.specs.Run.{Tok, start_tok, end_tok, IsToken, State, document_body, begin, here, past}
use Rattle.xt_read.specs.declared.front.FileRole.TheVariants as file
use Rattle.xt_read.specs.declared.front.MarkupRole.TheVariants as role
use Rattle.xt_read.proofs.Fronts.{one_begin}
use Rattle.xt_read.proofs.FirstFaults.{first_of, no_first_fault, one_first_fault}
use Rattle.xt_read.proofs.PlainTexts.{no_first_no_char, one_first_no_char}

no_declaration : (form : Declaration → Bool) → NoDeclared form (codes "<")
no_declaration form d = let h = d.stands ∙ ap (λ t. t ++ d.rest) d.is.spelled in cc

none_in_tag : (form : Declaration → Bool) → NoDeclared form (codes "<a/>")
none_in_tag form d = let h = d.stands ∙ ap (λ t. t ++ d.rest) d.is.spelled in cc

-- a body begins at 0 where nothing stands in front
begins_at_once : BeginsBody (form_of role.Document) (codes "<") 0
begins_at_once = record { len = 0; takes = inr (no_declaration _, refl); to_is = refl }

-- .. behind a byte order mark
begins_behind_mark : BeginsBody (form_of role.Entity) (mark ++ codes "<a/>") 3
begins_behind_mark = record { len = 0; takes = inr (none_in_tag _, refl); to_is = refl }

-- .. and nowhere else
begins_not_behind_token : BeginsBody (form_of role.Document) (codes "<") 1 → ⊥
begins_not_behind_token begins = omega (arith, one_begin role.Document (codes "<") 0 1 begins_at_once begins)

-- the first character that is no Char stands behind one byte
no_char_behind_one : IsFirstNoChar (0x3C ∷ 0 ∷ []) 1
unfolding encode
no_char_behind_one = record { before = 0x3C ∷ []; character = 0; behind = []; are = chars-encodes (0x3C ∷ 0 ∷ []) refl; pass = refl; fails = refl; at_is = refl }

-- .. or behind a byte order mark, which counts its three bytes
no_char_behind_mark : IsFirstNoChar (mark ++ 0xB ∷ []) 3
unfolding encode
no_char_behind_mark = record { before = 0xFEFF ∷ []; character = 0xB; behind = []; are = chars-encodes (0xFEFF ∷ 0xB ∷ []) refl; pass = refl; fails = refl; at_is = refl }

-- .. and nowhere else
no_char_not_at_0 : IsFirstNoChar (0x3C ∷ 0 ∷ []) 0 → ⊥
no_char_not_at_0 is = omega (arith, one_first_no_char (0x3C ∷ 0 ∷ []) 0 1 is no_char_behind_one)

-- what isn't content is a text
one_text_of_markup : IsOrdered plain_text (leaf text_item (codes "<&]]>") nil)
unfolding encode
one_text_of_markup = inr (refl, ((codes "<&]]>", refl, refl), λ none. cc))

-- .. and has no fault as one
no_char_in_markup : (at : ℕ) → IsFirstNoChar (codes "<&]]>") at → ⊥
no_char_in_markup at = no_first_no_char (codes "<&]]>") (leaf text_item (codes "<&]]>") nil) at one_text_of_markup refl

-- ---- the fault of a document

-- `</b>` closes no `<a>`
abbrev crossed : List ℕ
crossed = codes "<a></b>"

abbrev first_tok : Tok
first_tok = start_tok (codes "<a>") (codes "a") []

abbrev second_tok : Tok
second_tok = end_tok (codes "</b>") (codes "b")

starts : Spells start_tag (codes "<a>")
starts = (record { name = codes "a"; attributes = []; blank = [] }, record { name = inl (plain_is_ncname (codes "a") refl); attributes = tt; blank = refl }, refl)

ends : Spells end_tag (codes "</b>")
ends = (codes "b", inl (plain_is_ncname (codes "b") refl), ([], refl, refl))

first_is : IsToken first_tok crossed
unfolding starts
first_is = record {
  kind = start_tag;
  longest = token_longest start_tag (codes "<a>") (codes "</b>") starts (λ e. absurd (cc));
  front = refl;
  of_kind = (refl, record { tag = starts.0; parts = starts.1; spelled = refl; is_name = refl; are_names = refl });
}

second_is : IsToken second_tok (codes "</b>")
unfolding ends
second_is = record {
  kind = end_tag;
  longest = token_longest end_tag (codes "</b>") [] ends (λ e. absurd (cc));
  front = refl;
  of_kind = (refl, ends.1, ends.2);
}

-- `<a>` is open
abbrev within_a : State
within_a = record { opened = record { open_tag = codes "<a>"; name = codes "a"; before = [] } ∷ []; items = []; text = None; stage = Some behind_root }

none_in_crossed : (form : Declaration → Bool) → NoDeclared form crossed
none_in_crossed form d =
    let wrong : ◌≡◌ {A = ℕ} 0x61 0x3F = ap (λ l. get_or l 1 0) (d.stands ∙ ap (λ t. t ++ d.rest) d.is.spelled) in
    omega (arith, wrong)

begins_crossed : BeginsBody (form_of role.Document) crossed 0
begins_crossed = record { len = 0; takes = inr (none_in_crossed _, refl); to_is = refl }

body_at_once : HasBodyAt (form_of role.Document) crossed 0
body_at_once = record { known = λ foreign. none_in_crossed _ foreign.0; begins = begins_crossed }

-- no gap stands in front of it
no_gap_in_front : gaps_to crossed 0 ≡ nil
no_gap_in_front = refl

-- a byte order mark is a gap in front
mark_in_front : gaps_to (mark ++ codes "<a/>") 3 ≡ leaf gap mark nil
mark_in_front = refl

fault_of_the_steps : IsFaultOf file.Document crossed (not_well_formed 3)
fault_of_the_steps = (
  ascii crossed refl,
  record {
    to = 0;
    body = body_at_once;
    fault = record {
      at = 3;
      order = omega arith;
      within = omega arith;
      state = within_a;
      passes = past (begin document_body) within_a within_a crossed (codes "</b>") first_tok first_is refl (here within_a (codes "</b>"));
      halts = (refl, inr (inl (record { tok = second_tok; is = second_is; none = refl; level = refl })));
    };
  },
)

-- the end-tag may not stand: its place is that of the first fault
fault_at_the_end_tag : IsFirstFault document crossed (not_well_formed 3)
fault_at_the_end_tag = first_of file.Document crossed (not_well_formed 3) fault_of_the_steps

-- .. and no other place is
no_fault_at_the_start_tag : IsFirstFault document crossed (not_well_formed 0) → ⊥
no_fault_at_the_start_tag is = let same : not_well_formed 0 ≡ not_well_formed 3 = one_first_fault document crossed (not_well_formed 0) (not_well_formed 3) is fault_at_the_end_tag in cc

-- .. so it reads as nothing
no_reading_of_crossed : (items : Items) → IsReading document crossed items → ⊥
no_reading_of_crossed items is = no_first_fault document crossed items (not_well_formed 3) is fault_at_the_end_tag
