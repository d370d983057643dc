-- A document with another text reads as its tree with that text, and gives its content with that text.
use Rattle.std.proofs.Common.{◌≡◌, ◌∙◌, ◌≢◌, ℕ, List, [], ◌∷◌, ◌++◌, take, drop, refl, sym, ap, subst, append-nil, Option, Some, None, Bool, true, false, encode_utf8_all, IfSome, is_some}
use Rattle.std.proofs.lemmas.Str.{encodes-chars}
use Rattle.std.specs.List.{list_all}
use Rattle.std.specs.Str.{IsUtf8, chars}
use Rattle.xt_spec.specs.Char.{is_char}
use Rattle.xt_spec.specs.Tree.{Items, nil, leaf, leaf_item, text_item, source_text}
use Rattle.xt_spec.specs.Text.{HasTextValue}
use Rattle.xt_spec.specs.Content.{Content, HasContent}
use Rattle.xt_spec.specs.Reading.{document, IsOrdered, IsReading}
use Rattle.xt_read.proofs.Theorems.{one_tree, text_item_utf8, text_item_some}
use Rattle.xt_spec.specs.Escape.{escape_text}
use Rattle.xt_spec.specs.Paths.{item_in, item_at, replaced_in}
use Rattle.ed_spec.specs.TextEdit.{text_written, text_as_it_is, text_items, text_edited}
use Rattle.xt_escape.proofs.Theorems.{escape_is_text_item, escape_has_value, escape_is_utf8, chars_are_scalars}
use Rattle.xt_lex.specs.declared.token.Span.{Span}
use Rattle.xt_tree.specs.Spans.{IsClosed, Stands, IsItemSpan}
use Rattle.ed_text.proofs.TextEditLemmas.{one_text, IsNew, document_kept, document_text, same_replaced, new_at}
use Rattle.ed_text.specs.EditedContent.{content_edited}
use Rattle.ed_text.proofs.ContentLemmas.{edited_content}
use Rattle.ed_text.proofs.StandingLemmas.{text_found}
use Rattle.ed_text.proofs.Utf8Lemmas.{text_for_text}

-- ---- the bytes that stand for a value

pub written_text : (cs : List ℕ) → source_text (text_written cs) ≡ encode_utf8_all (escape_text cs)
written_text [] = refl
written_text (c ∷ cs) = append-nil (encode_utf8_all (escape_text (c ∷ cs)))

pub as_it_is_text : (cs : List ℕ) → source_text (text_as_it_is cs) ≡ encode_utf8_all cs
as_it_is_text [] = refl
as_it_is_text (c ∷ cs) = append-nil (encode_utf8_all (c ∷ cs))

-- the text item that stands for a value, or none
new_text : List ℕ → Option (List ℕ)
new_text [] = None
new_text (c ∷ cs) = Some (encode_utf8_all (escape_text (c ∷ cs)))

written_is : (cs : List ℕ) → text_written cs ≡ one_text (new_text cs)
unfolding new_text
written_is [] = refl
written_is (c ∷ cs) = refl

is_new : (cs : List ℕ) → list_all is_char cs ≡ true → IsNew (new_text cs)
unfolding new_text
is_new [] are = tt
is_new (c ∷ cs) are = escape_is_text_item (c ∷ cs) are (λ none. absurd cc)

-- ---- the reading

-- what stands before and behind the text of a path, with the text between
around : (file : List ℕ) (items : Items) (index : ℕ) (path text : List ℕ) (from to : ℕ) → item_in items index path ≡ Some (leaf_item text_item text) → source_text items ≡ file → Stands file items (index ∷ path) from to → take from file ++ text ++ drop to file ≡ file
around file items index path text from to is joined stands =
    ap (λ t. take from file ++ t ++ drop to file) (sym (append-nil text)) ∙ sym (stands.replaced (leaf text_item text nil)) ∙ ap source_text (same_replaced items index path text is) ∙ joined

reads_in : (file : List ℕ) (items : Items) (index : ℕ) (path text cs new : List ℕ) (from to : ℕ) → item_in items index path ≡ Some (leaf_item text_item text) → Stands file items (index ∷ path) from to → new ≡ source_text (text_written cs)
    → list_all is_char cs ≡ true → IsReading document file items → IsReading document (take from file ++ new ++ drop to file) (replaced_in items index path (text_written cs))
reads_in file items index path text cs new from to is stands written are reading =
    let old_is = document_text items index path text is reading.ordered in
    let new_is : IsUtf8 new = subst IsUtf8 (sym (written ∙ written_text cs)) (escape_is_utf8 cs (chars_are_scalars cs are)) in
    let old_whole : IsUtf8 (take from file ++ text ++ drop to file) = subst IsUtf8 (sym (around file items index path text from to is reading.joined stands)) reading.utf8 in
    record {
      utf8 = text_for_text (take from file) text new (drop to file) (text_item_utf8 text old_is) (text_item_some text old_is) new_is old_whole;
      joined = stands.replaced (text_written cs) ∙ ap (λ t. take from file ++ t ++ drop to file) (sym written);
      ordered = subst (λ o. IsOrdered document (replaced_in items index path o)) (sym (written_is cs)) (document_kept items index path (new_text cs) (is_new cs are) (text, is) reading.ordered);
    }

pub still_reads : (file : List ℕ) (items : Items) (path cs new : List ℕ) (from to : ℕ) → (text : List ℕ) × (item_at items path ≡ Some (leaf_item text_item text)) → Stands file items path from to → new ≡ source_text (text_written cs)
    → list_all is_char cs ≡ true → IsReading document file items → IsReading document (take from file ++ new ++ drop to file) (text_edited false items path cs)
still_reads file items [] cs new from to (text, is) stands written are reading = absurd cc
still_reads file items (index ∷ path) cs new from to (text, is) stands written are reading = reads_in file items index path text cs new from to is stands written are reading

-- .. so the edited tree is the one that its bytes read as
pub edited_reads : (file : List ℕ) (items : Items) (path text cs : List ℕ) → item_at items path ≡ Some (leaf_item text_item text) → list_all is_char cs ≡ true → IsReading document file items
    → IsReading document (source_text (text_edited false items path cs)) (text_edited false items path cs)
edited_reads file items path text cs is are reading =
    let (from, to, stands) = text_found file items path text reading.joined is in
    subst (λ (b : List ℕ). IsReading document b (text_edited false items path cs)) (sym (stands.replaced (text_written cs)))
    (still_reads file items path cs (source_text (text_written cs)) from to (text, is) stands refl are reading)

-- ---- the new item

pub has_new_value : (items : Items) (path value new : List ℕ) → (text : List ℕ) × (item_at items path ≡ Some (leaf_item text_item text)) → IsUtf8 value → value ≢ [] → new ≡ source_text (text_written (chars value)) → list_all is_char (chars value) ≡ true
    → (item_at (text_edited false items path (chars value)) path ≡ Some (leaf_item text_item new)) × HasTextValue new value
has_new_value items [] value new (text, is) utf8 some written are = absurd cc
has_new_value items (index ∷ path) value new (text, is) utf8 some written are =
    let bytes : encode_utf8_all (chars value) ≡ value = encodes-chars value utf8 in
    let new_is : new ≡ encode_utf8_all (escape_text (chars value)) = written ∙ written_text (chars value) in
    (at_path (chars value) (λ none. some (sym bytes ∙ ap encode_utf8_all none)) new_is, subst (λ v. HasTextValue new v) bytes (subst (λ t. HasTextValue t (encode_utf8_all (chars value))) (sym new_is) (escape_has_value (chars value) are)))
  where
    at_path : (cs : List ℕ) → cs ≢ [] → new ≡ encode_utf8_all (escape_text cs) → item_at (text_edited false items (index ∷ path) cs) (index ∷ path) ≡ Some (leaf_item text_item new)
    at_path [] not_empty new_is = absurd (not_empty refl)
    at_path (c ∷ cs) not_empty new_is = new_at items index path text (encode_utf8_all (escape_text (c ∷ cs))) is ∙ ap (λ t. Some (leaf_item text_item t)) (sym new_is)

-- ---- the span of a text

pub text_closed : (items : Items) (path : List ℕ) → (text : List ℕ) × (item_at items path ≡ Some (leaf_item text_item text)) → IfSome (item_at items path) IsClosed
text_closed items path (text, is) = subst (λ o. IfSome o IsClosed) (sym is) tt

pub text_stands : (file : List ℕ) (items : Items) (path : List ℕ) (found : Option Span) (span : Span) → (IfSome (item_at items path) IsClosed → IfSome found (IsItemSpan file items path)) → (text : List ℕ) × (item_at items path ≡ Some (leaf_item text_item text)) → found ≡ Some span → Stands file items path span.from span.to
text_stands file items path found span place present is = (subst (λ o. IfSome o (IsItemSpan file items path)) is (place (text_closed items path present))).stands

-- what the patch of a text gives, by what is known of it
pub record PatchFacts (file : List ℕ) (items : Items) (path cs : List ℕ) (plain : Bool) (from to : ℕ) (new : List ℕ) : Type 0 where
  pub present : (text : List ℕ) × (item_at items path ≡ Some (leaf_item text_item text))
  pub stands : Stands file items path from to
  pub written : new ≡ source_text (text_items plain cs)

pub patch_facts : (file : List ℕ) (items : Items) (path cs : List ℕ) (plain : Bool) (found : Option Span) (span : Span) (new : List ℕ) → (text : List ℕ) × (item_at items path ≡ Some (leaf_item text_item text))
    → (IfSome (item_at items path) IsClosed → IfSome found (IsItemSpan file items path)) → found ≡ Some span → new ≡ source_text (text_items plain cs) → PatchFacts file items path cs plain span.from span.to new
patch_facts file items path cs plain found span new present place is written = record { present = present; stands = text_stands file items path found span place present is; written = written }

pub facts_read : (file : List ℕ) (items : Items) (path cs : List ℕ) (plain : Bool) (from to : ℕ) (new : List ℕ) → PatchFacts file items path cs plain from to new → plain ≡ false
    → list_all is_char cs ≡ true → IsReading document file items → IsReading document (take from file ++ new ++ drop to file) (text_edited false items path cs)
facts_read file items path cs plain from to new facts escaped are reading = still_reads file items path cs new from to facts.present facts.stands (facts.written ∙ ap (λ p. source_text (text_items p cs)) escaped) are reading

-- whatever the file with the patch reads as gives the edited content
pub facts_content : (file : List ℕ) (items : Items) (path value : List ℕ) (plain : Bool) (from to : ℕ) (new : List ℕ) → PatchFacts file items path (chars value) plain from to new → IsUtf8 value → plain ≡ false
    → list_all is_char (chars value) ≡ true → IsReading document file items → (content : Content) (others : Items) → HasContent items content → IsReading document (take from file ++ new ++ drop to file) others
    → HasContent others (content_edited items path value content)
facts_content file items path value plain from to new facts utf8 escaped are reading content others has also =
    let read = facts_read file items path (chars value) plain from to new facts escaped are reading in
    let (text, is) = facts.present in
    let edited = edited_content items path text (chars value) content is are has in
    subst (λ (i : Items). HasContent i (content_edited items path value content)) (one_tree (take from file ++ new ++ drop to file) (text_edited false items path (chars value)) others read also)
    (subst (λ (v : List ℕ). HasContent (text_edited false items path (chars value)) (content_edited items path v content)) (encodes-chars value utf8) edited)

pub is_there : (items : Items) (path : List ℕ) (found : Option Span) → (text : List ℕ) × (item_at items path ≡ Some (leaf_item text_item text)) → is_some found ≡ is_some (item_at items path) → is_some found ≡ true
is_there items path found (text, is) same = same ∙ ap is_some is
