-- A file that is read as a text, with another value: it reads as its edited tree where the value is of Chars and adds no
-- byte order mark, and only there.
use Rattle.std.proofs.Common.{◌≡◌, ◌∙◌, ◌⊎◌, ℕ, zero, suc, List, [], ◌∷◌, ◌++◌, take, drop, refl, sym, ap, subst, Some, Bool, true, false, inl, inr, nat_eq, encode_utf8_all}
use Rattle.std.proofs.lemmas.Bool.{cases_Bool, both_ways}
use Rattle.std.proofs.lemmas.Str.{IsUtf8-append, chars-encodes, encodes-chars, scalars-chars}
use Rattle.std.proofs.Math.Utf8.{encode, scalars}
use Rattle.std.specs.List.{list_all, starts_with}
use Rattle.std.specs.Str.{IsUtf8, chars}
use Rattle.xt_spec.specs.Char.{is_char}
use Rattle.xt_spec.specs.Tree.{Items, nil, element, leaf, leaf_item, text_item, reference_item, comment_item, pi_item, gap, source_text, append}
use Rattle.xt_spec.specs.Paths.{item_in, item_at, replaced_in}
use Rattle.xt_spec.specs.Reading.{mark, plain_text, IsMarked, IsOneText, IsReading}
use Rattle.xt_escape.proofs.Theorems.{chars_are_scalars}
use Rattle.ed_spec.specs.TextEdit.{text_as_it_is, text_items, text_edited}
use Rattle.ed_text.specs.ByteOrderMark.{AddsNoByteOrderMark}
use Rattle.ed_text.proofs.ContentLemmas.{encodes_some}
use Rattle.ed_text.proofs.ReadingLemmas.{as_it_is_text, PatchFacts}

-- ---- the items that stand for a value

-- of Chars they are one text, or nothing
as_it_is_reads : (cs : List ℕ) → list_all is_char cs ≡ true → IsOneText (text_as_it_is cs)
as_it_is_reads [] are = tt
as_it_is_reads (c ∷ cs) are = ((c ∷ cs, refl, are), encodes_some c cs)

-- .. and of nothing else
one_text_chars : (cs : List ℕ) → scalars cs ≡ true → IsOneText (text_as_it_is cs) → list_all is_char cs ≡ true
one_text_chars [] are one = refl
one_text_chars (c ∷ cs) are one =
    let (others, spell, all) = one.0 in
    subst (λ (l : List ℕ). list_all is_char l ≡ true) (sym (chars-encodes others (chars_are_scalars others all)) ∙ ap chars spell ∙ chars-encodes (c ∷ cs) are) all

as_it_is_utf8 : (cs : List ℕ) → list_all is_char cs ≡ true → IsUtf8 (source_text (text_as_it_is cs))
as_it_is_utf8 cs are = (cs, (chars_are_scalars cs are, sym (as_it_is_text cs)))

mark_utf8 : IsUtf8 mark
unfolding encode
mark_utf8 = (0xFEFF ∷ [], (refl, refl))

no_gap : (cs text : List ℕ) (rest : Items) → text_as_it_is cs ≡ leaf gap text rest → ⊥
no_gap [] text rest same = absurd cc
no_gap (c ∷ cs) text rest same = absurd cc

-- ---- the edited tree

alone : (cs : List ℕ) → append (text_as_it_is cs) nil ≡ text_as_it_is cs
alone [] = refl
alone (c ∷ cs) = refl

-- one text gives way to the value
one_text_edited : (items : Items) (index : ℕ) (path text cs : List ℕ) → IsOneText items → item_in items index path ≡ Some (leaf_item text_item text) → replaced_in items index path (text_as_it_is cs) ≡ text_as_it_is cs
one_text_edited nil index path text cs one is = absurd cc
one_text_edited (element open_tag kids close rest) index path text cs one is = absurd one
one_text_edited (leaf text_item t nil) zero [] text cs one is = alone cs
one_text_edited (leaf text_item t nil) zero (next ∷ path) text cs one is = absurd cc
one_text_edited (leaf text_item t nil) (suc index) path text cs one is = absurd cc
one_text_edited (leaf text_item t (element open_tag kids close rest)) index path text cs one is = absurd one
one_text_edited (leaf text_item t (leaf kind other rest)) index path text cs one is = absurd one
one_text_edited (leaf reference_item t rest) index path text cs one is = absurd one
one_text_edited (leaf comment_item t rest) index path text cs one is = absurd one
one_text_edited (leaf pi_item t rest) index path text cs one is = absurd one
one_text_edited (leaf gap t rest) index path text cs one is = absurd one

behind_mark : (rest : Items) (index : ℕ) (path text cs : List ℕ) → IsOneText rest → item_in (leaf gap mark rest) index path ≡ Some (leaf_item text_item text) → replaced_in (leaf gap mark rest) index path (text_as_it_is cs) ≡ leaf gap mark (text_as_it_is cs)
behind_mark rest zero [] text cs one is = absurd cc
behind_mark rest zero (next ∷ path) text cs one is = absurd cc
behind_mark rest (suc index) path text cs one is = ap (leaf gap mark) (one_text_edited rest index path text cs one is)

starts_mark : (rest : List ℕ) → starts_with nat_eq (mark ++ rest) mark ≡ true
starts_mark rest = refl

-- the edited tree is the value, behind a byte order mark where the file has one
IsEditedText : Items → List ℕ → Items → Type 0
IsEditedText items cs edited =
    ((starts_with nat_eq (source_text items) mark ≡ true) × (edited ≡ leaf gap mark (text_as_it_is cs)))
    ⊎ ((starts_with nat_eq (source_text items) mark ≡ false) × (edited ≡ text_as_it_is cs))

edited_is : (items : Items) (path text cs : List ℕ) → IsMarked IsOneText items → item_at items path ≡ Some (leaf_item text_item text) → IsEditedText items cs (text_edited true items path cs)
unfolding IsEditedText
edited_is items [] text cs marked is = absurd cc
edited_is items (index ∷ path) text cs (inl (rest, same, one)) is = inl (
  ap (λ (i : Items). starts_with nat_eq (source_text i) mark) same ∙ starts_mark (source_text rest),
  ap (λ (i : Items). replaced_in i index path (text_as_it_is cs)) same ∙ behind_mark rest index path text cs one (subst (λ (i : Items). item_in i index path ≡ Some (leaf_item text_item text)) same is),
)
edited_is items (index ∷ path) text cs (inr (none, one)) is = inr (none, one_text_edited items index path text cs one is)

-- ---- the reading

-- the edited tree is what its own texts read as
abbrev ReadsAsText : Items → Type 0
ReadsAsText items = IsReading plain_text (source_text items) items

marked_reads : (cs : List ℕ) → list_all is_char cs ≡ true → ReadsAsText (leaf gap mark (text_as_it_is cs))
marked_reads cs are = record {
  utf8 = IsUtf8-append mark (source_text (text_as_it_is cs)) mark_utf8 (as_it_is_utf8 cs are);
  joined = refl;
  ordered = inl (text_as_it_is cs, refl, as_it_is_reads cs are);
}

unmarked_reads : (cs : List ℕ) → list_all is_char cs ≡ true → starts_with nat_eq (encode_utf8_all cs) mark ≡ false → ReadsAsText (text_as_it_is cs)
unmarked_reads cs are none = record {
  utf8 = as_it_is_utf8 cs are;
  joined = refl;
  ordered = inr (ap (λ (t : List ℕ). starts_with nat_eq t mark) (as_it_is_text cs) ∙ none, as_it_is_reads cs are);
}

-- a value that adds no byte order mark to a file without one doesn't begin with one
begins_with_none : (file value : List ℕ) → AddsNoByteOrderMark file value → starts_with nat_eq file mark ≡ false → starts_with nat_eq value mark ≡ false
begins_with_none file value adds none = elim (cases_Bool (starts_with nat_eq value mark)) [
  | inl begins ↦ absurd (both_ways (starts_with nat_eq file mark) none (adds begins))
  | inr apart ↦ apart
]

pub edited_reads_as_text : (file : List ℕ) (items : Items) (path text cs : List ℕ) → item_at items path ≡ Some (leaf_item text_item text) → list_all is_char cs ≡ true → AddsNoByteOrderMark file (encode_utf8_all cs) → IsReading plain_text file items
    → IsReading plain_text (source_text (text_edited true items path cs)) (text_edited true items path cs)
unfolding IsEditedText
edited_reads_as_text file items path text cs is are adds reading = by (edited_is items path text cs reading.ordered is)
  where
    by : IsEditedText items cs (text_edited true items path cs) → ReadsAsText (text_edited true items path cs)
    by (inl (starts, same)) = subst ReadsAsText (sym same) (marked_reads cs are)
    by (inr (none, same)) = subst ReadsAsText (sym same) (unmarked_reads cs are (begins_with_none file (encode_utf8_all cs) adds (ap (λ (t : List ℕ). starts_with nat_eq t mark) (sym reading.joined) ∙ none)))

pub facts_read_as_text : (file : List ℕ) (items : Items) (path value : List ℕ) (plain : Bool) (from to : ℕ) (new : List ℕ) → PatchFacts file items path (chars value) plain from to new → IsUtf8 value → plain ≡ true
    → list_all is_char (chars value) ≡ true → AddsNoByteOrderMark file value → IsReading plain_text file items → IsReading plain_text (take from file ++ new ++ drop to file) (text_edited true items path (chars value))
facts_read_as_text file items path value plain from to new facts utf8 as_it_is are adds reading =
    let (text, is) = facts.present in
    let written : new ≡ source_text (text_as_it_is (chars value)) = facts.written ∙ ap (λ p. source_text (text_items p (chars value))) as_it_is in
    let bytes : source_text (text_edited true items path (chars value)) ≡ take from file ++ new ++ drop to file = facts.stands.replaced (text_as_it_is (chars value)) ∙ ap (λ (t : List ℕ). take from file ++ t ++ drop to file) (sym written) in
    subst (λ (b : List ℕ). IsReading plain_text b (text_edited true items path (chars value))) bytes
    (edited_reads_as_text file items path text (chars value) is are (subst (AddsNoByteOrderMark file) (sym (encodes-chars value utf8)) adds) reading)

-- ---- no other value

chars_behind_mark : (cs : List ℕ) → scalars cs ≡ true → IsMarked IsOneText (leaf gap mark (text_as_it_is cs)) → list_all is_char cs ≡ true
chars_behind_mark cs are (inl (rest, same, one)) = let rests : rest ≡ text_as_it_is cs = cc in one_text_chars cs are (subst IsOneText rests one)
chars_behind_mark cs are (inr (none, one)) = absurd one

chars_in_front : (cs : List ℕ) → scalars cs ≡ true → IsMarked IsOneText (text_as_it_is cs) → (list_all is_char cs ≡ true) × (starts_with nat_eq (encode_utf8_all cs) mark ≡ false)
chars_in_front cs are (inl (rest, same, one)) = absurd (no_gap cs mark rest same)
chars_in_front cs are (inr (none, one)) = (one_text_chars cs are one, ap (λ (t : List ℕ). starts_with nat_eq t mark) (sym (as_it_is_text cs)) ∙ none)

only_chars : (file : List ℕ) (items edited : Items) (cs : List ℕ) → scalars cs ≡ true → source_text items ≡ file → IsEditedText items cs edited → IsMarked IsOneText edited → (list_all is_char cs ≡ true) × AddsNoByteOrderMark file (encode_utf8_all cs)
unfolding IsEditedText
only_chars file items edited cs are joined (inl (starts, same)) marked =
    (chars_behind_mark cs are (subst (IsMarked IsOneText) same marked), λ begins. ap (λ (t : List ℕ). starts_with nat_eq t mark) (sym joined) ∙ starts)
only_chars file items edited cs are joined (inr (none, same)) marked =
    let (all, apart) = chars_in_front cs are (subst (IsMarked IsOneText) same marked) in
    (all, λ begins. absurd (both_ways (starts_with nat_eq (encode_utf8_all cs) mark) apart begins))

pub only_such_values : (file bytes : List ℕ) (items : Items) (path value : List ℕ) → IsUtf8 value → IsReading plain_text file items → (text : List ℕ) × (item_at items path ≡ Some (leaf_item text_item text))
    → IsReading plain_text bytes (text_edited true items path (chars value)) → (list_all is_char (chars value) ≡ true) × AddsNoByteOrderMark file value
only_such_values file bytes items path value utf8 reading (text, is) edited =
    let (all, adds) = only_chars file items (text_edited true items path (chars value)) (chars value) (scalars-chars value utf8) reading.joined (edited_is items path text (chars value) reading.ordered is) edited.ordered in
    (all, subst (AddsNoByteOrderMark file) (encodes-chars value utf8) adds)
