-- In a session a command has one reply, and leaves one session.
use Rattle.std.proofs.Common.{◌≡◌, ◌∙◌, ℕ, suc, ◌≤◌, List, [], ◌∷◌, length, drop, refl, sym, ap, ap₂, subst, arith, Bool, true, false, not, bytes_eq, cond, inl, inr}
use Rattle.std.proofs.lemmas.Bool.{and_parts, cases_Bool}
use Rattle.std.specs.List.{list_any}
use Rattle.std.specs.Cmp.Lexicographic.{bytes_decides}
use Rattle.xt_spec.specs.Tree.{Items, source_text}
use Rattle.xt_spec.specs.Reading.{document, IsReading, are_distinct}
use Rattle.xt_read.proofs.Theorems.{one_tree}
use Rattle.ed_spec.specs.Book.{Book, with_file, Opens}
use Rattle.ed_spec.specs.Edit.{Edit, Refusal, Refuses, Accepts, RefusesIn, AcceptsIn}
use Rattle.ed_spec.specs.Session.{Session, Command, Reply, refused, saved_files, AreDifferences, after_edit, after_undo, after_redo, Step, Does, accepts, refuses, undoes, undoes_nothing, redoes, redoes_nothing, saves, DoesAll, nothing, then}
use Rattle.ed_laws.proofs.Outcomes.{some_same, one_refusal, not_both, one_acceptance}

-- ---- a book opens in one way, so an edit has one outcome in it

pub opens_once : (root : List ℕ) (book : Book) (a b : List ℕ) (i j : Items) → Opens root book a i → Opens root book b j → i ≡ j
opens_once root book a b i j x y =
    let same : a ≡ b = some_same (book root) a b x.found y.found in
    one_tree b i j (subst (λ t. IsReading document t i) same x.opens.reading) y.opens.reading

pub one_refusal_in : (root : List ℕ) (book : Book) (e : Edit) (r q : Refusal) → RefusesIn root book e r → RefusesIn root book e q → r ≡ q
one_refusal_in root book e r q (a, i, opens, x) (b, j, also, y) = one_refusal j e r q (subst (λ (items : Items). Refuses items e r) (opens_once root book a b i j opens also) x) y

pub not_both_in : (root : List ℕ) (book next : Book) (e : Edit) (r : Refusal) → RefusesIn root book e r → AcceptsIn root book e next → ⊥
not_both_in root book next e r (a, i, opens, x) (b, j, others, also, y, is) = not_both j e r others (subst (λ (items : Items). Refuses items e r) (opens_once root book a b i j opens also) x) y

pub one_book : (root : List ℕ) (book m n : Book) (e : Edit) → AcceptsIn root book e m → AcceptsIn root book e n → m ≡ n
one_book root book m n e (a, i, others, opens, x, is) (b, j, more, also, y, same) =
    let items : others ≡ more = one_acceptance j e others more (subst (λ (items : Items). Accepts items e others) (opens_once root book a b i j opens also) x) y in
    is ∙ ap (λ o. with_file root (source_text o) book) items ∙ sym same

-- ---- two books differ in so many files

-- the names but for the first that is this one
abbrev without : List ℕ → List (List ℕ) → List (List ℕ)
without name [] = []
without name (other ∷ others) = cond (bytes_eq name other) others (other ∷ without name others)

is_itself : (name : List ℕ) → bytes_eq name name ≡ true
is_itself name = (bytes_decides name name).1 refl

length_without : (name : List ℕ) (others : List (List ℕ)) → list_any (bytes_eq name) others ≡ true → length others ≡ suc (length (without name others))
length_without name [] among = absurd (cc)
length_without name (other ∷ others) among = elim (cases_Bool (bytes_eq name other)) [
  | inl e ↦ rw e refl
  | inr e ↦ let behind : list_any (bytes_eq name) others ≡ true = rw e at among in rw e (ap suc (length_without name others behind))
]

-- another name stays
still_among : (name away : List ℕ) (others : List (List ℕ)) → bytes_eq away name ≡ false → list_any (bytes_eq name) others ≡ true → list_any (bytes_eq name) (without away others) ≡ true
still_among name away [] apart among = absurd (cc)
still_among name away (other ∷ others) apart among = elim (cases_Bool (bytes_eq name other)) [
  | inl e ↦
      let here : bytes_eq away other ≡ false = subst (λ (n : List ℕ). bytes_eq away n ≡ false) ((bytes_decides name other).0 e) apart in
      rw here (rw e refl)
  | inr e ↦
      let behind : list_any (bytes_eq name) others ≡ true = rw e at among in
      elim (cases_Bool (bytes_eq away other)) [
        | inl f ↦ rw f behind
        | inr f ↦ rw f (rw e (still_among name away others apart behind))
      ]
]

names_apart : (name other : List ℕ) (names : List (List ℕ)) → not (list_any (bytes_eq name) names) ≡ true → list_any (bytes_eq other) names ≡ true → bytes_eq name other ≡ false
names_apart name other names none among = elim (cases_Bool (bytes_eq name other)) [
  | inr e ↦ e
  | inl e ↦
      let here : list_any (bytes_eq name) names ≡ true = subst (λ (n : List ℕ). list_any (bytes_eq n) names ≡ true) (sym ((bytes_decides name other).0 e)) among in
      let bad : not true ≡ true = subst (λ (b : Bool). not b ≡ true) here none in
      absurd (cc)
]

-- distinct names that are all among others are no more than they
no_more : (names others : List (List ℕ)) → are_distinct names ≡ true → ((name : List ℕ) → list_any (bytes_eq name) names ≡ true → list_any (bytes_eq name) others ≡ true) → length names ≤ length others
no_more [] others distinct all = omega arith
no_more (name ∷ names) others distinct all =
    let both = and_parts (not (list_any (bytes_eq name) names)) (are_distinct names) distinct in
    let here : list_any (bytes_eq name) others ≡ true = all name (rw (is_itself name) refl) in
    let less = no_more names (without name others) both.1 (λ other among.
    still_among other name others (names_apart name other names both.0 among) (all other (behind name other names among))) in
    omega (arith, less, length_without name others here)
  where
    behind : (name other : List ℕ) (names : List (List ℕ)) → list_any (bytes_eq other) names ≡ true → list_any (bytes_eq other) (name ∷ names) ≡ true
    behind name other names among = elim (cases_Bool (bytes_eq other name)) [ inl e ↦ rw e refl | inr e ↦ rw e among ]

pub one_count : (a b : Book) (names others : List (List ℕ)) → AreDifferences a b names → AreDifferences a b others → length names ≡ length others
one_count a b names others x y =
    let less = no_more names others x.distinct (λ name among. y.all name (x.only name among)) in
    let more = no_more others names y.distinct (λ name among. x.all name (y.only name among)) in
    omega (arith, less, more)

-- ---- one reply

abbrev first : Book → List Book → Book
first other [] = other
first other (book ∷ books) = book

firsts_same : (books : List Book) (a b : Book) (x y : List Book) → books ≡ a ∷ x → books ≡ b ∷ y → (a ≡ b) × (x ≡ y)
firsts_same books a b x y p q = let same : a ∷ x ≡ b ∷ y = sym p ∙ q in (ap (first a) same, ap (drop 1) same)

none_first : (books : List Book) (a : Book) (x : List Book) → books ≡ [] → books ≡ a ∷ x → ⊥
none_first books a x p q = let bad : [] ≡ a ∷ x = sym p ∙ q in absurd (cc)

pub one_reply : (root : List ℕ) (s t u : Session) (command : Command) (r q : Reply) → Does root s command r t → Does root s command q u → (r ≡ q) × (t ≡ u)
one_reply root s _ _ _ _ _ (accepts e m x) (accepts f n y) = (refl, ap (after_edit s) (one_book root s.book m n e x y))
one_reply root s _ _ _ _ _ (accepts e m x) (refuses f r y) = absurd (not_both_in root s.book m e r y x)
one_reply root s _ _ _ _ _ (refuses e r x) (accepts f n y) = absurd (not_both_in root s.book n e r x y)
one_reply root s _ _ _ _ _ (refuses e r x) (refuses f q y) = (ap refused (one_refusal_in root s.book e r q x y), refl)
one_reply root s _ _ _ _ _ (undoes a x p) (undoes b y q) = let same = firsts_same s.past a b x y p q in (refl, ap₂ (after_undo s) same.0 same.1)
one_reply root s _ _ _ _ _ (undoes a x p) (undoes_nothing q) = absurd (none_first s.past a x q p)
one_reply root s _ _ _ _ _ (undoes_nothing p) (undoes b y q) = absurd (none_first s.past b y p q)
one_reply root s _ _ _ _ _ (undoes_nothing p) (undoes_nothing q) = (refl, refl)
one_reply root s _ _ _ _ _ (redoes a x p) (redoes b y q) = let same = firsts_same s.future a b x y p q in (refl, ap₂ (after_redo s) same.0 same.1)
one_reply root s _ _ _ _ _ (redoes a x p) (redoes_nothing q) = absurd (none_first s.future a x q p)
one_reply root s _ _ _ _ _ (redoes_nothing p) (redoes b y q) = absurd (none_first s.future b y p q)
one_reply root s _ _ _ _ _ (redoes_nothing p) (redoes_nothing q) = (refl, refl)
one_reply root s _ _ _ _ _ (saves x p) (saves y q) = (ap saved_files (one_count s.book s.saved x y p q), refl)

-- commands in a row have one list of replies
pub one_run : (root : List ℕ) (s t u : Session) (commands : List Command) (xs ys : List Step) → DoesAll root s commands xs t → DoesAll root s commands ys u → (xs ≡ ys) × (t ≡ u)
one_run root _ _ _ _ _ _ (nothing s) (nothing t) = (refl, refl)
one_run root _ _ _ _ _ _ (then s m t c cs r xs does all) (then z n u d ds q ys also more) =
    let same = one_reply root s m n c r q does also in
    let rest = one_run root n t u cs xs ys (subst (λ (v : Session). DoesAll root v cs xs t) same.1 all) more in
    (ap₂ (λ (a : Reply) (v : Session). (record { reply = a; session = v }) ∷ xs) same.0 same.1 ∙ ap (λ (l : List Step). record { reply = q; session = n } ∷ l) rest.0, rest.1)
