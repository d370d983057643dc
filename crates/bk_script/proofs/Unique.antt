-- A line is at most one command, of all that the grammar has: its words are read one after the other, and each is read
-- in one way.
use Rattle.std.proofs.Common.{◌≡◌, ℕ, ◌<◌, Bool, true, false, eqb, cond, List, [], ◌∷◌, ◌++◌, length, Option, Some, None, refl, sym, ap, subst, ◌∙◌, arith, inl, inr, append-nil, codes, bytes_eq}
use Rattle.std.proofs.lemmas.Bool.{and_parts}
use Rattle.std.proofs.lemmas.Bool.Decides.{nat_tests}
use Rattle.std.proofs.lemmas.List.{length-append, length-replicate}
use Rattle.std.specs.List.{list_all}
use Rattle.xt_spec.specs.Name.{IsQName}
use Rattle.xt_lex.specs.NameTest.{is_name_byte}
use Rattle.xt_scan.specs.Step.{take_while, drop_while}
use Rattle.xt_lex.specs.Scan.{maybe}
use Rattle.xt_scan.proofs.Theorems.{take_while_split}
use Rattle.xt_lex.proofs.Theorems.{qname_bytes, qname_nonempty, list_all_weaker}
use Rattle.bk_script.specs.Word.{is_blank, IsBlank, IsNumber, Place, IsPlace, Side, side_first, side_last, side_before, side_after, side_text, IsString, IsWord, MayFollow, Word, letters, number, place, side, qname, string, file, AreWords}
use Rattle.bk_script.specs.Command.{Command, edit_text, put, attr, drop_attr, insert, insert_at, delete, move, extract, inline, undo, redo, burst, tree, owner, words_of, IsCommandLine}
use Rattle.bk_script.specs.Reading.{is_no_blank, number_of, step_at, parts_of, string_at}
use Rattle.bk_script.proofs.Fronts.{StopsAt, run_whole, behind_whole, behind_stops}
use Rattle.bk_script.proofs.Numbers.{number_again}
use Rattle.bk_script.proofs.Parts.{Shrinks, parts_step, parts_stop}
use Rattle.bk_script.proofs.Places.{place_parts, pair_parts}
use Rattle.bk_script.proofs.Strings.{choose, string_takes, string_again}
use Rattle.bk_script.proofs.Words.{is_bare, IsSolid, no_blank_first, stop_of, number_solid, place_solid, solid_no_blank, string_first}

-- ---- the text of a word, or the value of a string, at the front

raw_by : List ℕ → Option (List ℕ × List ℕ)
raw_by [] = None
raw_by (b ∷ bs) = cond (eqb b 34) (string_at (b ∷ bs)) (Some (take_while is_no_blank (b ∷ bs), drop_while is_no_blank (b ∷ bs)))

raw_at : List ℕ → Option (List ℕ × List ℕ)
raw_at text = raw_by (drop_while is_blank text)

by_shrinks : (s : List ℕ) (x : List ℕ × List ℕ) → StopsAt is_blank s → raw_by s ≡ Some x → length x.1 < length s
unfolding raw_by
by_shrinks [] x stops e = absurd cc
by_shrinks (b ∷ bs) x stops e =
    elim (choose (eqb b 34) _ _ x e) [
      | inl h ↦
          let t = string_takes (b ∷ bs) x h.1 in
          omega (arith, ap length t.2, length-append t.0 x.1, ap length t.1.3)
      | inr found ↦
          let ends = pair_parts (take_while is_no_blank (b ∷ bs)) x.0 (drop_while is_no_blank (b ∷ bs)) x.1 found in
          let first : drop_while is_no_blank (b ∷ bs) ≡ drop_while is_no_blank bs = rw stops refl in
          omega (arith, ap length ends.1, ap length first, ap length (take_while_split is_no_blank bs), length-append (take_while is_no_blank bs) (drop_while is_no_blank bs))
    ]

raw_shrinks : Shrinks raw_at
unfolding raw_at
raw_shrinks s x e =
    let less = by_shrinks (drop_while is_blank s) x (behind_stops is_blank s) e in
    omega (arith, less, ap length (take_while_split is_blank s), length-append (take_while is_blank s) (drop_while is_blank s))

no_quote : (t r : List ℕ) → IsSolid t → StopsAt is_no_blank r → raw_by (t ++ r) ≡ Some (t, r)
unfolding raw_by
no_quote [] r solid stops = absurd (solid.some refl)
no_quote (b ∷ bs) r solid stops =
    let first : is_bare b ≡ true = (and_parts _ _ solid.all).0 in
    let other : eqb b 34 ≡ false = grind (arith, nat_tests) in
    let front = run_whole is_no_blank (b ∷ bs) r (solid_no_blank (b ∷ bs) solid) stops in
    let back = behind_whole is_no_blank (b ∷ bs) r (solid_no_blank (b ∷ bs) solid) stops in
    let made : ◌≡◌ {A = Option (List ℕ × List ℕ)} (Some (take_while is_no_blank ((b ∷ bs) ++ r), drop_while is_no_blank ((b ∷ bs) ++ r))) (Some (b ∷ bs, r)) = ap (λ (l : List ℕ). Some (l, drop_while is_no_blank ((b ∷ bs) ++ r))) front ∙ ap (λ (l : List ℕ). Some (b ∷ bs, l)) back in
    ap (λ (v : Bool). cond v (string_at ((b ∷ bs) ++ r)) (Some (take_while is_no_blank ((b ∷ bs) ++ r), drop_while is_no_blank ((b ∷ bs) ++ r)))) other ∙ made

bare_again : (before t r : List ℕ) → IsBlank before → IsSolid t → MayFollow r → raw_at (before ++ (t ++ r)) ≡ Some (t, r)
unfolding raw_at
bare_again before t r blank solid follow =
    ap raw_by (behind_whole is_blank before (t ++ r) blank (no_blank_first t r solid)) ∙ no_quote t r solid (stop_of r follow)

quoted_by : (t r v : List ℕ) → IsString t v → raw_by (t ++ r) ≡ Some (v, r)
unfolding raw_by
quoted_by t r v is =
    let again = string_again t r v is in
    let whole = ap (λ (u : List ℕ). u ++ r) is.3 in
    ap raw_by whole ∙ sym (ap string_at whole) ∙ again

quoted_again : (before t r v : List ℕ) → IsBlank before → IsString t v → raw_at (before ++ (t ++ r)) ≡ Some (v, r)
unfolding raw_at
quoted_again before t r v blank is = ap raw_by (string_first before t r v blank is) ∙ quoted_by t r v is

-- ---- what is read of each word

abbrev IsRaw : List ℕ → Word → Type 0
IsRaw raw (letters w) = raw ≡ w
IsRaw raw (number n) = IsNumber raw n
IsRaw raw (place p) = IsPlace raw p
IsRaw raw (side s) = raw ≡ side_text s
IsRaw raw (qname q) = raw ≡ q
IsRaw raw (string v) = raw ≡ v
IsRaw raw (file v) = raw ≡ v

abbrev AreRaw : List (List ℕ) → List Word → Type 0
AreRaw raws [] = raws ≡ []
AreRaw raws (word ∷ words) = (raw : List ℕ) × (others : List (List ℕ)) × IsRaw raw word × AreRaw others words × (raws ≡ raw ∷ others)

-- the letters of a word are some, with no space or quote among them
abbrev is_good : Word → Bool
is_good (letters []) = false
is_good (letters (b ∷ bs)) = list_all is_bare (b ∷ bs)
is_good (number n) = true
is_good (place p) = true
is_good (side s) = true
is_good (qname q) = true
is_good (string v) = true
is_good (file v) = true

letters_solid : (w : List ℕ) → is_good (letters w) ≡ true → IsSolid w
letters_solid [] good = absurd cc
letters_solid (b ∷ bs) good = record { some = λ e. absurd cc; all = good }

side_solid : (s : Side) → IsSolid (side_text s)
side_solid side_first = record { some = λ e. absurd cc; all = refl }
side_solid side_last = record { some = λ e. absurd cc; all = refl }
side_solid side_before = record { some = λ e. absurd cc; all = refl }
side_solid side_after = record { some = λ e. absurd cc; all = refl }

name_bare : (b : ℕ) → is_name_byte b ≡ true → is_bare b ≡ true
name_bare b h = grind (arith, nat_tests)

qname_solid : (q : List ℕ) → IsQName q → IsSolid q
qname_solid q is = record { some = λ e. omega (arith, qname_nonempty q is, ap length e); all = list_all_weaker is_name_byte is_bare name_bare q (qname_bytes q is) }

abbrev IsReadAs : List ℕ → List ℕ → Word → Type 0
IsReadAs text rest word = (raw : List ℕ) × (raw_at text ≡ Some (raw, rest)) × IsRaw raw word

word_raw : (before t rest : List ℕ) (word : Word) → is_good word ≡ true → IsBlank before → IsWord t word → MayFollow rest → IsReadAs (before ++ (t ++ rest)) rest word
word_raw before t rest (letters w) good blank is follow = (t, bare_again before t rest blank (subst IsSolid (sym is) (letters_solid w good)) follow, is)
word_raw before t rest (number n) good blank is follow = (t, bare_again before t rest blank (number_solid t n is) follow, is)
word_raw before t rest (place p) good blank is follow = (t, bare_again before t rest blank (place_solid t p is) follow, is)
word_raw before t rest (side s) good blank is follow = (t, bare_again before t rest blank (subst IsSolid (sym is) (side_solid s)) follow, is)
word_raw before t rest (qname q) good blank is follow = (t, bare_again before t rest blank (subst IsSolid (sym is.1) (qname_solid q is.0)) follow, is.1)
word_raw before t rest (string v) good blank is follow = (v, quoted_again before t rest v blank is, refl)
word_raw before t rest (file v) good blank is follow = (v, quoted_again before t rest v blank is.0, refl)

abbrev raws_of : List ℕ → List (List ℕ)
raws_of text = (parts_of raw_at text).0

blank_end : (text : List ℕ) → IsBlank text → raw_at text ≡ None
unfolding raw_at raw_by
blank_end text blank = ap raw_by (ap (drop_while is_blank) (sym (append-nil text)) ∙ behind_whole is_blank text [] blank tt)

words_raw : (words : List Word) (text : List ℕ) → list_all is_good words ≡ true → AreWords text words → AreRaw (raws_of text) words
words_raw [] text good blank = ap (λ (p : List (List ℕ) × List ℕ). p.0) (parts_stop raw_at text (blank_end text blank))
words_raw (word ∷ words) text good (before, t, rest, blank, is, follow, others, e) =
    let both = and_parts (is_good word) (list_all is_good words) good in
    let first = word_raw before t rest word both.0 blank is follow in
    let step = parts_step raw_at raw_shrinks text (first.0, rest) (ap raw_at e ∙ first.1) in
    (first.0, raws_of rest, first.2, words_raw words rest both.1 others, ap (λ (p : List (List ℕ) × List ℕ). p.0) step)

-- ---- the command that such texts are

place_from_text : List ℕ → Place
place_from_text t = record { numbers = (parts_of step_at t).0; carets = length (parts_of step_at t).1 }

place_is : (t : List ℕ) (p : Place) → IsPlace t p → place_from_text t ≡ p
unfolding place_from_text
place_is t p is =
    ap (λ (x : List ℕ × List ℕ). record { numbers = x.0; carets = length x.1 }) (place_parts t p is)
    ∙ ap (λ (k : ℕ). record { numbers = p.numbers; carets = k }) (length-replicate p.carets 94)

number_from_text : List ℕ → ℕ
number_from_text t = maybe 0 (λ n. n) (number_of t)

number_is : (t : List ℕ) (n : ℕ) → IsNumber t n → number_from_text t ≡ n
unfolding number_from_text
number_is t n is = ap (maybe 0 (λ n. n)) (number_again t n is)

side_from_text : List ℕ → Side
side_from_text t = cond (bytes_eq t (codes "first")) side_first (cond (bytes_eq t (codes "last")) side_last (cond (bytes_eq t (codes "before")) side_before side_after))

side_is : (t : List ℕ) (s : Side) → t ≡ side_text s → side_from_text t ≡ s
unfolding side_from_text
side_is t side_first e = ap side_from_text e
side_is t side_last e = ap side_from_text e
side_is t side_before e = ap side_from_text e
side_is t side_after e = ap side_from_text e

abbrev text_from : List (List ℕ) → Command
text_from (p ∷ n ∷ m ∷ v ∷ []) = edit_text (place_from_text p) (number_from_text n) (number_from_text m) v
text_from _ = undo

abbrev put_from : List (List ℕ) → Command
put_from (p ∷ s ∷ v ∷ []) = put (place_from_text p) (side_from_text s) v
put_from _ = undo

abbrev attr_from : List (List ℕ) → Command
attr_from (p ∷ n ∷ v ∷ []) = attr (place_from_text p) n v
attr_from _ = undo

abbrev drop_from : List (List ℕ) → Command
drop_from (p ∷ n ∷ []) = drop_attr (place_from_text p) n
drop_from _ = undo

abbrev insert_from : List (List ℕ) → Command
insert_from (p ∷ s ∷ v ∷ []) = insert (place_from_text p) (side_from_text s) v
insert_from (p ∷ at ∷ n ∷ v ∷ []) = insert_at (place_from_text p) (number_from_text n) v
insert_from _ = undo

abbrev move_from : List (List ℕ) → Command
move_from (p ∷ q ∷ s ∷ []) = move (place_from_text p) (place_from_text q) (side_from_text s)
move_from _ = undo

abbrev extract_from : List (List ℕ) → Command
extract_from (p ∷ v ∷ []) = extract (place_from_text p) v
extract_from _ = undo

abbrev at_place : (Place → Command) → List (List ℕ) → Command
at_place make (p ∷ []) = make (place_from_text p)
at_place make _ = undo

command_by : List ℕ → List (List ℕ) → Command
command_by key rest =
    cond (bytes_eq key (codes "text")) (text_from rest)
    (cond (bytes_eq key (codes "put")) (put_from rest)
    (cond (bytes_eq key (codes "attr")) (attr_from rest)
    (cond (bytes_eq key (codes "drop-attr")) (drop_from rest)
    (cond (bytes_eq key (codes "insert")) (insert_from rest)
    (cond (bytes_eq key (codes "delete")) (at_place delete rest)
    (cond (bytes_eq key (codes "move")) (move_from rest)
    (cond (bytes_eq key (codes "extract")) (extract_from rest)
    (cond (bytes_eq key (codes "inline")) (at_place inline rest)
    (cond (bytes_eq key (codes "owner")) (at_place owner rest)
    (cond (bytes_eq key (codes "redo")) redo
    (cond (bytes_eq key (codes "burst")) burst
    (cond (bytes_eq key (codes "tree")) tree undo))))))))))))

abbrev command_from : List (List ℕ) → Command
command_from [] = undo
command_from (key ∷ rest) = command_by key rest

command_is : (c : Command) (raws : List (List ℕ)) → AreRaw raws (words_of c) → command_from raws ≡ c
unfolding command_by
command_is (edit_text p n m v) raws (k, l1, ik, (r2, l2, i2, (r3, l3, i3, (r4, l4, i4, (r5, l5, i5, nil, e5), e4), e3), e2), e1) =
    rw (e1, ik, e2, e3, e4, e5, nil, place_is r2 p i2, number_is r3 n i3, number_is r4 m i4, i5) refl
command_is (put p s v) raws (k, l1, ik, (r2, l2, i2, (r3, l3, i3, (r4, l4, i4, nil, e4), e3), e2), e1) =
    rw (e1, ik, e2, e3, e4, nil, place_is r2 p i2, side_is r3 s i3, i4) refl
command_is (attr p n v) raws (k, l1, ik, (r2, l2, i2, (r3, l3, i3, (r4, l4, i4, nil, e4), e3), e2), e1) =
    rw (e1, ik, e2, e3, e4, nil, place_is r2 p i2, i3, i4) refl
command_is (drop_attr p n) raws (k, l1, ik, (r2, l2, i2, (r3, l3, i3, nil, e3), e2), e1) =
    rw (e1, ik, e2, e3, nil, place_is r2 p i2, i3) refl
command_is (insert p s v) raws (k, l1, ik, (r2, l2, i2, (r3, l3, i3, (r4, l4, i4, nil, e4), e3), e2), e1) =
    rw (e1, ik, e2, e3, e4, nil, place_is r2 p i2, side_is r3 s i3, i4) refl
command_is (insert_at p n v) raws (k, l1, ik, (r2, l2, i2, (r3, l3, i3, (r4, l4, i4, (r5, l5, i5, nil, e5), e4), e3), e2), e1) =
    rw (e1, ik, e2, e3, e4, e5, nil, place_is r2 p i2, number_is r4 n i4, i5) refl
command_is (delete p) raws (k, l1, ik, (r2, l2, i2, nil, e2), e1) = rw (e1, ik, e2, nil, place_is r2 p i2) refl
command_is (move p q s) raws (k, l1, ik, (r2, l2, i2, (r3, l3, i3, (r4, l4, i4, nil, e4), e3), e2), e1) =
    rw (e1, ik, e2, e3, e4, nil, place_is r2 p i2, place_is r3 q i3, side_is r4 s i4) refl
command_is (extract p v) raws (k, l1, ik, (r2, l2, i2, (r3, l3, i3, nil, e3), e2), e1) =
    rw (e1, ik, e2, e3, nil, place_is r2 p i2, i3) refl
command_is (inline p) raws (k, l1, ik, (r2, l2, i2, nil, e2), e1) = rw (e1, ik, e2, nil, place_is r2 p i2) refl
command_is undo raws (k, l1, ik, nil, e1) = rw (e1, ik) refl
command_is redo raws (k, l1, ik, nil, e1) = rw (e1, ik) refl
command_is burst raws (k, l1, ik, nil, e1) = rw (e1, ik) refl
command_is tree raws (k, l1, ik, nil, e1) = rw (e1, ik) refl
command_is (owner p) raws (k, l1, ik, (r2, l2, i2, nil, e2), e1) = rw (e1, ik, e2, nil, place_is r2 p i2) refl

all_good : (c : Command) → list_all is_good (words_of c) ≡ true
all_good (edit_text p n m v) = refl
all_good (put p s v) = refl
all_good (attr p n v) = refl
all_good (drop_attr p n) = refl
all_good (insert p s v) = refl
all_good (insert_at p n v) = refl
all_good (delete p) = refl
all_good (move p q s) = refl
all_good (extract p v) = refl
all_good (inline p) = refl
all_good undo = refl
all_good redo = refl
all_good burst = refl
all_good tree = refl
all_good (owner p) = refl

line_is : (text : List ℕ) (c : Command) → IsCommandLine text c → command_from (raws_of text) ≡ c
line_is text c is = command_is c (raws_of text) (words_raw (words_of c) text (all_good c) is)

pub one_reading : (text : List ℕ) (a b : Command) → IsCommandLine text a → IsCommandLine text b → a ≡ b
one_reading text a b is_a is_b = sym (line_is text a is_a) ∙ line_is text b is_b
