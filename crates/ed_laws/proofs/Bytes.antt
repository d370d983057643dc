-- An accepted edit of a text changes the bytes of its text item, and no other.
use Rattle.std.proofs.Common.{◌≡◌, ◌∙◌, ℕ, List, [], ◌∷◌, ◌++◌, take, drop, true, Some, refl, sym, ap, subst, encode_utf8_all}
use Rattle.std.specs.Prelude.{nat_eq}
use Rattle.std.specs.Cmp.Lexicographic.{pointwise, bytes_decides}
use Rattle.std.proofs.lemmas.List.{append-nil}
use Rattle.xt_spec.specs.Tree.{Items, nil, leaf, leaf_item, text_item, source_text}
use Rattle.xt_spec.specs.Escape.{escape_text}
use Rattle.xt_spec.specs.Paths.{item_at}
use Rattle.ed_spec.specs.TextEdit.{text_written}
use Rattle.ed_spec.specs.Book.{Book, with_file, Opens}
use Rattle.ed_spec.specs.Edit.{text_edit, range_replaced, Accepts, AcceptsIn}
use Rattle.ed_text.proofs.Theorems.{text_found, same_replaced}
use Rattle.ed_laws.specs.Bytes.{StandsBetween, ChangesOneText}
use Rattle.ed_laws.proofs.Nodes.{text_of_item}
use Rattle.ed_laws.proofs.Outcomes.{accepted_is}

-- a text item stands between the bytes in front of it and those behind it
text_between : (items : Items) (path text : List ℕ) → item_at items path ≡ Some (leaf_item text_item text) → (front back : List ℕ) × StandsBetween items path front text back
text_between items [] text there = absurd (cc)
text_between items (index ∷ path) text there =
    let (from, to, stands) = text_found (source_text items) items (index ∷ path) text refl there in
    let front : List ℕ = take from (source_text items) in
    let back : List ℕ = drop to (source_text items) in (
      front,
      back,
      record {
        there = there;
        whole = sym (ap source_text (same_replaced items index path text there)) ∙ stands.replaced (leaf text_item text nil) ∙ ap (λ (l : List ℕ). front ++ l ++ back) (append-nil text);
        put = stands.replaced;
      },
    )

-- what is written for a value
written_is : (value : List ℕ) → source_text (text_written value) ≡ encode_utf8_all (escape_text value)
written_is [] = refl
written_is (c ∷ cs) = append-nil (encode_utf8_all (escape_text (c ∷ cs)))

pub changes_one_text : (items others : Items) (place : List ℕ) (from to : ℕ) (new : List ℕ) → Accepts items (text_edit place from to new) others → ChangesOneText items others place from to new
changes_one_text items others place from to new accepts =
    let a = accepted_is items place from to new others accepts in
    let (text, is, has) = text_of_item a.inside.item a.characters a.inside.value in
    let (front, back, stands) = text_between items a.path text (a.inside.at.there ∙ ap Some is) in
    let value : List ℕ = range_replaced a.characters from to new in
    record {
      path = a.path;
      characters = a.characters;
      inside = a.inside;
      front = front;
      text = text;
      back = back;
      stands = stands;
      written = ap source_text a.is ∙ stands.put (text_written value) ∙ ap (λ (l : List ℕ). front ++ l ++ back) (written_is value);
    }

-- ---- in a book

pub file_there : (name bytes : List ℕ) (book : Book) → with_file name bytes book name ≡ Some bytes
file_there name bytes book =
    let same : pointwise nat_eq name name ≡ true = (bytes_decides name name).1 refl in
    rw same refl

-- the root has the bytes of the items before, and of the others afterwards
pub changes_one_text_in : (root : List ℕ) (book next : Book) (place : List ℕ) (from to : ℕ) (new : List ℕ) → AcceptsIn root book (text_edit place from to new) next
    → (items others : Items) × Opens root book (source_text items) items × ChangesOneText items others place from to new × (next root ≡ Some (source_text others))
changes_one_text_in root book next place from to new (bytes, items, others, opens, accepts, is) = (
  items,
  others,
  subst (λ (l : List ℕ). Opens root book l items) (sym opens.opens.reading.joined) opens,
  changes_one_text items others place from to new accepts,
  ap (λ (b : Book). b root) is ∙ file_there root (source_text others) book,
)
