-- An edit has one outcome over given items, and over those of a document it has one.
use Rattle.std.proofs.Common.{◌≡◌, ◌≢◌, ◌∙◌, ℕ, ◌<◌, ◌≤◌, ◌⊎◌, List, [], length, refl, sym, ap, subst, arith, Option, Some, None, Bool, true, false, not, ◌||◌, nat_lt, nat_eq, if◌then◌else◌, inl, inr}
use Rattle.std.proofs.lemmas.Bool.{cases_Bool, cases_lt}
use Rattle.std.proofs.lemmas.Bool.Decides.{nat_tests}
use Rattle.std.specs.List.{list_all}
use Rattle.std.specs.Cmp.Lexicographic.{pointwise, bytes_decides}
use Rattle.xt_spec.specs.Limit.{most_file_bytes}
use Rattle.xt_spec.specs.Char.{is_char}
use Rattle.xt_spec.specs.Tree.{Items, Item, element_item, leaf_item, text_item, reference_item, comment_item, pi_item, gap, source_text}
use Rattle.xt_spec.specs.Reading.{document, IsOrdered}
use Rattle.xt_spec.specs.Paths.{item_at}
use Rattle.ed_spec.specs.Place.{path_of}
use Rattle.ed_spec.specs.Book.{Book}
use Rattle.ed_spec.specs.Edit.{Edit, text_edit, Refusal, no_such_place, wrong_kind, bad_range, bad_text, too_large, IsTextItemOf, is_text, IsAt, IsInText, edited, Refuses, no_node, no_text, no_range, no_char, no_room, Accepts, accepted, AcceptsIn}
use Rattle.ed_text.proofs.Theorems.{document_text_at}
use Rattle.ed_laws.specs.Outcome.{Outcome, refused, gives, HasOutcome}
use Rattle.ed_laws.proofs.Nodes.{text_of_item}
use Rattle.ed_laws.proofs.Places.{place_leads}
use Rattle.ed_laws.proofs.Values.{has_chars, same_chars}

-- ---- what a place leads to is one

pub some_same : {A : Type 0} (found : Option A) (x y : A) → found ≡ Some x → found ≡ Some y → x ≡ y
some_same found x y p q = cc

paths_same : (items : Items) (place p q : List ℕ) (i j : Item) → IsAt items place p i → IsAt items place q j → p ≡ q
paths_same items place p q i j a b = some_same (path_of items place) p q a.leads b.leads

items_same : (items : Items) (place p q : List ℕ) (i j : Item) → IsAt items place p i → IsAt items place q j → i ≡ j
items_same items place p q i j a b =
    some_same (item_at items p) i j a.there (subst (λ r. item_at items r ≡ Some j) (sym (paths_same items place p q i j a b)) b.there)

chars_same : (i j : Item) (a b : List ℕ) → i ≡ j → IsTextItemOf i a → IsTextItemOf j b → a ≡ b
chars_same i j a b same x y =
    let (text, is, has) = text_of_item i a x in
    let (other, also, value) = text_of_item j b y in
    let texts : leaf_item text_item text ≡ leaf_item text_item other = sym is ∙ same ∙ also in
    let one : text ≡ other = cc in
    same_chars text a b has (rw one value)

is_text_of : (item : Item) (characters : List ℕ) → IsTextItemOf item characters → is_text item ≡ true
is_text_of item characters x = let (text, is, has) = text_of_item item characters x in rw is refl

-- ---- the tests, as they are made of an item that the place leads to

abbrev verdict : Items → ℕ → ℕ → List ℕ → List ℕ → Item → List ℕ → Option Refusal
verdict items from to new path item characters =
    if not (is_text item) then Some wrong_kind
    else (if nat_lt to from || nat_lt (length characters) to then Some bad_range
    else (if not (list_all is_char new) then Some bad_text
    else (if nat_lt most_file_bytes (length (source_text (edited items path characters from to new))) then Some too_large else None)))

-- the place leads to an item, and the tests end so; of an item that is no text the characters say nothing
record EndsAs (items : Items) (place : List ℕ) (from to : ℕ) (new : List ℕ) (end : Option Refusal) : Type 0 where
  path : List ℕ
  item : Item
  characters : List ℕ
  at : IsAt items place path item
  value : is_text item ≡ true → IsTextItemOf item characters
  is : verdict items from to new path item characters ≡ end

ends_same : (items : Items) (place : List ℕ) (from to : ℕ) (new : List ℕ) (a b : Option Refusal) → EndsAs items place from to new a → EndsAs items place from to new b → a ≡ b
ends_same items place from to new a b x y =
    let path : x.path ≡ y.path = paths_same items place x.path y.path x.item y.item x.at y.at in
    let item : x.item ≡ y.item = items_same items place x.path y.path x.item y.item x.at y.at in
    elim (cases_Bool (is_text x.item)) [
      | inl text ↦
          let also : is_text y.item ≡ true = subst (λ i. is_text i ≡ true) item text in
          let characters : x.characters ≡ y.characters = chars_same x.item y.item x.characters y.characters item (x.value text) (y.value also) in
          sym x.is ∙ ap (λ p. verdict items from to new p x.item x.characters) path ∙ ap (λ i. verdict items from to new y.path i x.characters) item
          ∙ ap (λ cs. verdict items from to new y.path y.item cs) characters ∙ y.is
      | inr other ↦
          let also : is_text y.item ≡ false = subst (λ i. is_text i ≡ false) item other in
          sym x.is ∙ no_text_ends x.path x.item x.characters other ∙ sym (no_text_ends y.path y.item y.characters also) ∙ y.is
    ]
  where
    no_text_ends : (path : List ℕ) (item : Item) (characters : List ℕ) → is_text item ≡ false → verdict items from to new path item characters ≡ Some wrong_kind
    no_text_ends path item characters other = rw other refl

-- ---- each refusal is how the tests end

out_of : (from to size : ℕ) → (to < from) ⊎ (size < to) → (nat_lt to from || nat_lt size to) ≡ true
out_of from to size (inl less) = grind (arith, nat_tests)
out_of from to size (inr less) = grind (arith, nat_tests)

within : (from to size : ℕ) → from ≤ to → to ≤ size → (nat_lt to from || nat_lt size to) ≡ false
within from to size ascends inside = grind (arith, nat_tests)

more_than : (m n : ℕ) → m < n → nat_lt m n ≡ true
more_than m n less = grind (arith, nat_tests)

not_more : (m n : ℕ) → n ≤ m → nat_lt m n ≡ false
not_more m n less = grind (arith, nat_tests)

-- the tests of a text in which the range lies
in_text : (items : Items) (place : List ℕ) (from to : ℕ) (new path characters : List ℕ) (end : Option Refusal) → (inside : IsInText items place from to path characters)
    → (if not (list_all is_char new) then Some bad_text else (if nat_lt most_file_bytes (length (source_text (edited items path characters from to new))) then Some too_large else None)) ≡ end
    → EndsAs items place from to new end
in_text items place from to new path characters end inside is = record {
  path = path;
  item = inside.item;
  characters = characters;
  at = inside.at;
  value = λ _. inside.value;
  is = rw (is_text_of inside.item characters inside.value) (rw (within from to (length characters) inside.ascends inside.within) is);
}

refusal_ends : (items : Items) (place : List ℕ) (from to : ℕ) (new : List ℕ) (refusal : Refusal) → Refuses items (text_edit place from to new) refusal
    → ((path_of items place ≡ None) × (refusal ≡ no_such_place)) ⊎ EndsAs items place from to new (Some refusal)
refusal_ends items _ _ _ _ _ (no_node place from to new none) = inl (none, refl)
refusal_ends items _ _ _ _ _ (no_text place from to new path item at other) = inr (record {
  path = path;
  item = item;
  characters = [];
  at = at;
  value = λ text. absurd (never (sym text ∙ other));
  is = rw other refl;
})
  where
    never : true ≡ false → ⊥
    never same = cc
refusal_ends items _ _ _ _ _ (no_range place from to new path item characters at value out) = inr (record {
  path = path;
  item = item;
  characters = characters;
  at = at;
  value = λ _. value;
  is = rw (is_text_of item characters value) (rw (out_of from to (length characters) out) refl);
})
refusal_ends items _ _ _ _ _ (no_char place from to new path characters inside none) = inr (in_text items place from to new path characters (Some bad_text) inside (rw none refl))
refusal_ends items _ _ _ _ _ (no_room place from to new path characters inside are more) =
    inr (in_text items place from to new path characters (Some too_large) inside (rw are (rw (more_than most_file_bytes (length (source_text (edited items path characters from to new))) more) refl)))

-- the text of an accepted edit
pub record IsAccepted (items : Items) (place : List ℕ) (from to : ℕ) (new : List ℕ) (others : Items) : Type 0 where
  pub path : List ℕ
  pub characters : List ℕ
  pub inside : IsInText items place from to path characters
  pub are : list_all is_char new ≡ true
  pub fits : length (source_text (edited items path characters from to new)) ≤ most_file_bytes
  pub is : others ≡ edited items path characters from to new

pub accepted_is : (items : Items) (place : List ℕ) (from to : ℕ) (new : List ℕ) (others : Items) → Accepts items (text_edit place from to new) others → IsAccepted items place from to new others
accepted_is items _ _ _ _ _ (accepted place from to new path characters inside are fits) = record { path = path; characters = characters; inside = inside; are = are; fits = fits; is = refl }

accepted_ends : (items : Items) (place : List ℕ) (from to : ℕ) (new : List ℕ) (others : Items) → IsAccepted items place from to new others → EndsAs items place from to new None
accepted_ends items place from to new others a =
    in_text items place from to new a.path a.characters None a.inside (rw a.are (rw (not_more most_file_bytes (length (source_text (edited items a.path a.characters from to new))) a.fits) refl))

-- ---- one outcome

none_at : (items : Items) (place path : List ℕ) (item : Item) → path_of items place ≡ None → IsAt items place path item → ⊥
none_at items place path item none at = let bad : None ≡ Some path = sym none ∙ at.leads in absurd (cc)

pub one_refusal : (items : Items) (edit : Edit) (a b : Refusal) → Refuses items edit a → Refuses items edit b → a ≡ b
one_refusal items (text_edit place from to new) a b x y = by (refusal_ends items place from to new a x) (refusal_ends items place from to new b y)
  where
    by : ((path_of items place ≡ None) × (a ≡ no_such_place)) ⊎ EndsAs items place from to new (Some a) → ((path_of items place ≡ None) × (b ≡ no_such_place)) ⊎ EndsAs items place from to new (Some b) → a ≡ b
    by (inl p) (inl q) = p.1 ∙ sym q.1
    by (inl p) (inr q) = absurd (none_at items place q.path q.item p.0 q.at)
    by (inr p) (inl q) = absurd (none_at items place p.path p.item q.0 p.at)
    by (inr p) (inr q) = let same : Some a ≡ Some b = ends_same items place from to new (Some a) (Some b) p q in cc

pub not_both : (items : Items) (edit : Edit) (refusal : Refusal) (others : Items) → Refuses items edit refusal → Accepts items edit others → ⊥
not_both items (text_edit place from to new) refusal others x y = by (refusal_ends items place from to new refusal x) (accepted_ends items place from to new others (accepted_is items place from to new others y))
  where
    by : ((path_of items place ≡ None) × (refusal ≡ no_such_place)) ⊎ EndsAs items place from to new (Some refusal) → EndsAs items place from to new None → ⊥
    by (inl p) q = none_at items place q.path q.item p.0 q.at
    by (inr p) q = let same : Some refusal ≡ None = ends_same items place from to new (Some refusal) None p q in absurd (cc)

-- the text at a place has its characters in one way
pub in_text_once : (items : Items) (place : List ℕ) (from to : ℕ) (p q a b : List ℕ) → IsInText items place from to p a → IsInText items place from to q b → (p ≡ q) × (a ≡ b)
in_text_once items place from to p q a b x y =
    (paths_same items place p q x.item y.item x.at y.at, chars_same x.item y.item a b (items_same items place p q x.item y.item x.at y.at) x.value y.value)

pub one_acceptance : (items : Items) (edit : Edit) (a b : Items) → Accepts items edit a → Accepts items edit b → a ≡ b
one_acceptance items (text_edit place from to new) a b x y =
    let left = accepted_is items place from to new a x in
    let right = accepted_is items place from to new b y in
    let same = in_text_once items place from to left.path right.path left.characters right.characters left.inside right.inside in
    left.is ∙ ap (λ p. edited items p left.characters from to new) same.0 ∙ ap (λ cs. edited items right.path cs from to new) same.1 ∙ sym right.is

pub one_outcome : (items : Items) (edit : Edit) (a b : Outcome) → HasOutcome items edit a → HasOutcome items edit b → a ≡ b
one_outcome items edit (refused r) (refused s) x y = ap refused (one_refusal items edit r s x y)
one_outcome items edit (refused r) (gives others) x y = absurd (not_both items edit r others x y)
one_outcome items edit (gives others) (refused r) x y = absurd (not_both items edit r others y x)
one_outcome items edit (gives a) (gives b) x y = ap gives (one_acceptance items edit a b x y)

-- ---- an outcome

-- of a text that the place leads to
text_outcome : (items : Items) (place : List ℕ) (from to : ℕ) (new path : List ℕ) (item : Item) (characters : List ℕ) → IsAt items place path item → IsTextItemOf item characters
    → (outcome : Outcome) × HasOutcome items (text_edit place from to new) outcome
text_outcome items place from to new path item characters at value = elim (cases_lt to from) [
  | inl less ↦ (refused bad_range, no_range place from to new path item characters at value (inl less))
  | inr ascends ↦ elim (cases_lt (length characters) to) [
    | inl less ↦ (refused bad_range, no_range place from to new path item characters at value (inr less))
    | inr inside ↦ in_range (record { item = item; at = at; value = value; ascends = ascends; within = inside })
  ]
]
  where
    in_range : IsInText items place from to path characters → (outcome : Outcome) × HasOutcome items (text_edit place from to new) outcome
    in_range inside = elim (cases_Bool (list_all is_char new)) [
      | inr none ↦ (refused bad_text, no_char place from to new path characters inside none)
      | inl are ↦ elim (cases_lt most_file_bytes (length (source_text (edited items path characters from to new)))) [
        | inl more ↦ (refused too_large, no_room place from to new path characters inside are more)
        | inr fits ↦ (gives (edited items path characters from to new), accepted place from to new path characters inside are fits)
      ]
    ]

pub ordered_outcome : (items : Items) (edit : Edit) → IsOrdered document items → (outcome : Outcome) × HasOutcome items edit outcome
ordered_outcome items (text_edit place from to new) ordered = by (path_of items place) refl
  where
    by : (found : Option (List ℕ)) → path_of items place ≡ found → (outcome : Outcome) × HasOutcome items (text_edit place from to new) outcome
    by None none = (refused no_such_place, no_node place from to new none)
    by (Some path) leads = let (item, there) = place_leads items place path leads in at_item item (record { leads = leads; there = there })
      where
        at_item : (item : Item) → IsAt items place path item → (outcome : Outcome) × HasOutcome items (text_edit place from to new) outcome
        at_item (element_item open_tag kids close) at = (refused wrong_kind, no_text place from to new path (element_item open_tag kids close) at refl)
        at_item (leaf_item reference_item text) at = (refused wrong_kind, no_text place from to new path (leaf_item reference_item text) at refl)
        at_item (leaf_item comment_item text) at = (refused wrong_kind, no_text place from to new path (leaf_item comment_item text) at refl)
        at_item (leaf_item pi_item text) at = (refused wrong_kind, no_text place from to new path (leaf_item pi_item text) at refl)
        at_item (leaf_item gap text) at = (refused wrong_kind, no_text place from to new path (leaf_item gap text) at refl)
        at_item (leaf_item text_item text) at =
            let (characters, has) = has_chars text (document_text_at items path text at.there ordered) in
            text_outcome items place from to new path (leaf_item text_item text) characters at has

-- ---- the book

other_name : (root name bytes : List ℕ) (book : Book) → name ≢ root → (if pointwise nat_eq root name then Some bytes else book name) ≡ book name
other_name root name bytes book other = by (pointwise nat_eq root name) refl
  where
    by : (same : Bool) → pointwise nat_eq root name ≡ same → (if same then Some bytes else book name) ≡ book name
    by true is = absurd (other (sym ((bytes_decides root name).0 is)))
    by false is = refl

pub other_files_stay : (root name : List ℕ) (book next : Book) (edit : Edit) → AcceptsIn root book edit next → name ≢ root → next name ≡ book name
other_files_stay root name book next edit (bytes, items, others, opens, accepts, is) other = ap (λ (b : Book). b name) is ∙ other_name root name (source_text others) book other
