-- Lines: what one counts, and how bytes are cut into lines.
use Rattle.std.proofs.Common.{◌≡◌, ℕ, suc, ◌+◌, ◌-◌, ◌≤◌, Bool, true, false, eqb, List, [], ◌∷◌, ◌++◌, length, take, drop, get_or, Option, Some, None, refl, sym, ap, subst, ◌∙◌, arith, inl, inr, ◌⊎◌, append_assoc, append-nil, eqb-true, codes, le_refl}
use Rattle.std.proofs.lemmas.Bool.{cases_Bool, and_parts, and_from, both_ways, not-false}
use Rattle.std.proofs.lemmas.List.{length-append, length-drop, take_at, take_all, drop_all, drop_more}
use Rattle.std.proofs.lemmas.Str.{IsUtf8-from_is_utf8, is_utf8-from_IsUtf8}
use Rattle.std.specs.List.{list_all}
use Rattle.std.specs.Str.{IsUtf8, is_utf8}
use Rattle.memchr.specs.Find.{IsFirstByte, is_byte}
use Rattle.xt_scan.specs.Step.{take_while, drop_while}
use Rattle.xt_lex.specs.Scan.{after}
use Rattle.xt_scan.proofs.Theorems.{byte_len, take_while_is, drop_while_is, bind_some, take_while_split, take_while_passes}
use Rattle.xt_lex.proofs.Theorems.{list_all_joined, after_takes}
use Rattle.bk_script.specs.Word.{is_blank, IsBlank, Word, letters, AreWords}
use Rattle.bk_script.specs.Command.{Command, edit_text, put, attr, drop_attr, insert, insert_at, delete, move, extract, inline, undo, redo, burst, tree, owner, words_of, IsCommandLine}
use Rattle.bk_script.specs.Script.{is_no_lf, ends_in_cr, IsEndedLine, IsSplit, IsComment, IsLine}
use Rattle.bk_script.specs.Reading.{is_passed_over, option_some, command_at, line_of, without_cr, ended_line_at, parts_of, lines_of}
use Rattle.bk_script.proofs.Fronts.{StopsAt, run_whole, behind_whole, behind_stops}
use Rattle.bk_script.proofs.Parts.{Shrinks, parts_take, parts_again, parts_step, parts_stop, parts_left}
use Rattle.bk_script.proofs.Places.{pair_parts}
use Rattle.bk_script.proofs.Strings.{choose}
use Rattle.bk_script.proofs.Commands.{command_takes, command_again}

passed_takes : (before rest : List ℕ) → IsBlank before → is_passed_over rest ≡ true → IsBlank (before ++ rest) ⊎ IsComment (before ++ rest)
passed_takes before [] blank is = inl (rw (append-nil before) blank)
passed_takes before (b ∷ bs) blank is = inr (before, bs, blank, ap (λ (c : ℕ). before ++ c ∷ bs) (eqb-true b 35 is))

pub over_takes : (text : List ℕ) → is_passed_over (drop_while is_blank text) ≡ true → IsBlank text ⊎ IsComment text
over_takes text is =
    subst (λ (t : List ℕ). IsBlank t ⊎ IsComment t) (sym (take_while_split is_blank text)) (passed_takes (take_while is_blank text) (drop_while is_blank text) (take_while_passes is_blank text) is)

pub over_again : (text : List ℕ) → IsBlank text ⊎ IsComment text → is_passed_over (drop_while is_blank text) ≡ true
over_again text (inl blank) =
    let e : drop_while is_blank text ≡ [] = ap (drop_while is_blank) (sym (append-nil text)) ∙ behind_whole is_blank text [] blank tt in
    rw e refl
over_again text (inr (before, rest, blank, e)) =
    let f : drop_while is_blank text ≡ 35 ∷ rest = ap (drop_while is_blank) e ∙ behind_whole is_blank before (35 ∷ rest) blank refl in
    rw f refl

-- each command begins with a letter
record Begins (c : Command) : Type 0 where
  pub first : ℕ
  pub rest : List ℕ
  pub others : List Word
  pub words : words_of c ≡ letters (first ∷ rest) ∷ others
  pub no_blank : is_blank first ≡ false
  pub no_hash : eqb first 35 ≡ false

begins : (c : Command) → Begins c
begins (edit_text p n m v) = record { first = 116; rest = codes "ext"; others = _; words = refl; no_blank = refl; no_hash = refl }
begins (put p s v) = record { first = 112; rest = codes "ut"; others = _; words = refl; no_blank = refl; no_hash = refl }
begins (attr p n v) = record { first = 97; rest = codes "ttr"; others = _; words = refl; no_blank = refl; no_hash = refl }
begins (drop_attr p n) = record { first = 100; rest = codes "rop-attr"; others = _; words = refl; no_blank = refl; no_hash = refl }
begins (insert p s v) = record { first = 105; rest = codes "nsert"; others = _; words = refl; no_blank = refl; no_hash = refl }
begins (insert_at p n v) = record { first = 105; rest = codes "nsert"; others = _; words = refl; no_blank = refl; no_hash = refl }
begins (delete p) = record { first = 100; rest = codes "elete"; others = _; words = refl; no_blank = refl; no_hash = refl }
begins (move p q s) = record { first = 109; rest = codes "ove"; others = _; words = refl; no_blank = refl; no_hash = refl }
begins (extract p n) = record { first = 101; rest = codes "xtract"; others = _; words = refl; no_blank = refl; no_hash = refl }
begins (inline p) = record { first = 105; rest = codes "nline"; others = _; words = refl; no_blank = refl; no_hash = refl }
begins undo = record { first = 117; rest = codes "ndo"; others = _; words = refl; no_blank = refl; no_hash = refl }
begins redo = record { first = 114; rest = codes "edo"; others = _; words = refl; no_blank = refl; no_hash = refl }
begins burst = record { first = 98; rest = codes "urst"; others = _; words = refl; no_blank = refl; no_hash = refl }
begins tree = record { first = 116; rest = codes "ree"; others = _; words = refl; no_blank = refl; no_hash = refl }
begins (owner p) = record { first = 111; rest = codes "wner"; others = _; words = refl; no_blank = refl; no_hash = refl }

not_over : (text : List ℕ) (first : ℕ) (rest : List ℕ) (others : List Word) → is_blank first ≡ false → eqb first 35 ≡ false → AreWords text (letters (first ∷ rest) ∷ others) → is_passed_over (drop_while is_blank text) ≡ false
not_over text first rest others no_blank no_hash (before, t, after_it, blank, is, follow, more, e) =
    let whole : text ≡ before ++ (first ∷ (rest ++ after_it)) = e ∙ ap (λ (u : List ℕ). before ++ (u ++ after_it)) is in
    let f : drop_while is_blank text ≡ first ∷ (rest ++ after_it) = ap (drop_while is_blank) whole ∙ behind_whole is_blank before (first ∷ (rest ++ after_it)) blank no_blank in
    rw (f, no_hash) refl

pub command_not_over : (text : List ℕ) (c : Command) → IsCommandLine text c → is_passed_over (drop_while is_blank text) ≡ false
command_not_over text c is =
    let b = begins c in
    not_over text b.first b.rest b.others b.no_blank b.no_hash (subst (AreWords text) b.words is)

pub command_or_none : (text : List ℕ) (c : Command) → IsCommandLine text c → IsBlank text ⊎ IsComment text → ⊥
command_or_none text c is none = both_ways (is_passed_over (drop_while is_blank text)) (command_not_over text c is) (over_again text none)

some_takes : (text : List ℕ) (o : Option Command) (found : Option Command) → command_at text ≡ o → option_some o ≡ Some found → IsUtf8 text → IsLine text found
some_takes text None found e f utf8 = absurd cc
some_takes text (Some c) found e f utf8 =
    let same : Some c ≡ found = cc in
    let is = command_takes text c e in
    subst (IsLine text) same (utf8, is.0, is.1)

pub line_takes : (text : List ℕ) (found : Option Command) → line_of text ≡ Some found → IsLine text found
unfolding line_of
line_takes text found e =
    elim (choose (is_utf8 text) _ _ found e) [
      | inl h ↦ elim (choose (is_passed_over (drop_while is_blank text)) _ _ found h.1) [
        | inl k ↦ let none : ◌≡◌ {A = Option Command} None found = (let some : ◌≡◌ {A = Option (Option Command)} (Some None) (Some found) = k.1 in cc) in subst (IsLine text) none (IsUtf8-from_is_utf8 text h.0, over_takes text k.0)
        | inr k ↦ some_takes text (command_at text) found refl k (IsUtf8-from_is_utf8 text h.0)
      ]
      | inr none ↦ absurd cc
    ]

pub line_again : (text : List ℕ) (found : Option Command) → IsLine text found → line_of text ≡ Some found
unfolding line_of
line_again text None (utf8, none) = rw (is_utf8-from_IsUtf8 text utf8, over_again text none) refl
line_again text (Some c) (utf8, is, built) = rw (is_utf8-from_IsUtf8 text utf8, command_not_over text c is, command_again text c is built) refl

-- ---- ends of lines

pub ends_by : (line : List ℕ) → 1 ≤ length line → ends_in_cr line ≡ eqb (get_or line (length line - 1) 0) 13
ends_by [] some = absurd (omega arith)
ends_by (b ∷ []) some = refl
ends_by (b ∷ next ∷ bytes) some =
    let k : length (b ∷ next ∷ bytes) - 1 ≡ suc (length (next ∷ bytes) - 1) = omega arith in
    ends_by (next ∷ bytes) (omega arith) ∙ ap (λ (i : ℕ). eqb (get_or (b ∷ next ∷ bytes) i 0) 13) (sym k)

ends_pushed : (line : List ℕ) → ends_in_cr (line ++ 13 ∷ []) ≡ true
ends_pushed [] = refl
ends_pushed (b ∷ []) = refl
ends_pushed (b ∷ next ∷ bytes) = ends_pushed (next ∷ bytes)

ends_split : (line : List ℕ) → ends_in_cr line ≡ true → (front : List ℕ) × (line ≡ front ++ 13 ∷ [])
ends_split [] is = absurd cc
ends_split (b ∷ []) is = ([], ap (λ (c : ℕ). c ∷ []) (eqb-true b 13 is))
ends_split (b ∷ next ∷ bytes) is = let more = ends_split (next ∷ bytes) is in (b ∷ more.0, ap (λ (l : List ℕ). b ∷ l) more.1)

take_pushed : (line : List ℕ) → take (length (line ++ 13 ∷ []) - 1) (line ++ 13 ∷ []) ≡ line
take_pushed line =
    let k : length (line ++ 13 ∷ []) - 1 ≡ length line = omega (arith, length-append line (13 ∷ [])) in
    ap (λ (i : ℕ). take i (line ++ 13 ∷ [])) k ∙ take_at line (13 ∷ []) (length line) refl

without_pushed : (line : List ℕ) → without_cr (line ++ 13 ∷ []) ≡ line
without_pushed line = rw (ends_pushed line) (take_pushed line)

all_front : (p : ℕ → Bool) (xs ys : List ℕ) → list_all p (xs ++ ys) ≡ true → list_all p xs ≡ true
all_front p [] ys all = refl
all_front p (x ∷ xs) ys all = let both = and_parts _ _ all in and_from _ _ both.0 (all_front p xs ys both.1)

is_ended : (line : List ℕ) → list_all is_no_lf line ≡ true → IsEndedLine (line ++ 10 ∷ []) (without_cr line)
is_ended line all =
    elim (cases_Bool (ends_in_cr line)) [
      | inl e ↦
          let cut = ends_split line e in
          let without : without_cr line ≡ cut.0 = ap without_cr cut.1 ∙ without_pushed cut.0 in
          let front : list_all is_no_lf cut.0 ≡ true = all_front is_no_lf cut.0 (13 ∷ []) (subst (λ (l : List ℕ). list_all is_no_lf l ≡ true) cut.1 all) in
          let whole : line ++ 10 ∷ [] ≡ cut.0 ++ 13 ∷ 10 ∷ [] = ap (λ (l : List ℕ). l ++ 10 ∷ []) cut.1 ∙ append_assoc cut.0 (13 ∷ []) (10 ∷ []) in
          subst (λ (l : List ℕ). IsEndedLine (line ++ 10 ∷ []) l) (sym without) (front, inl whole)
      | inr e ↦
          let without : without_cr line ≡ line = rw e refl in
          subst (λ (l : List ℕ). IsEndedLine (line ++ 10 ∷ []) l) (sym without) (all, inr (e, refl))
    ]

ended_takes : (s : List ℕ) (x : List ℕ × List ℕ) → ended_line_at s ≡ Some x → (t : List ℕ) × IsEndedLine t x.0 × (s ≡ t ++ x.1)
ended_takes s x e =
    let a = bind_some (after 10 (drop_while is_no_lf s)) _ x e in
    let line = take_while is_no_lf s in
    let ends = pair_parts (without_cr line) x.0 a.0 x.1 a.2 in (
      line ++ 10 ∷ [],
      subst (λ (l : List ℕ). IsEndedLine (line ++ 10 ∷ []) l) ends.0 (is_ended line (take_while_passes is_no_lf s)),
      take_while_split is_no_lf s ∙ ap (λ (l : List ℕ). line ++ l) (after_takes 10 (drop_while is_no_lf s) a.0 a.1 ∙ ap (λ (l : List ℕ). 10 ∷ l) ends.1) ∙ sym (append_assoc line (10 ∷ []) x.1),
    )

ended_by : (line r : List ℕ) → list_all is_no_lf line ≡ true → ended_line_at (line ++ 10 ∷ r) ≡ Some (without_cr line, r)
ended_by line r all = rw (behind_whole is_no_lf line (10 ∷ r) all refl, run_whole is_no_lf line (10 ∷ r) all refl) refl

abbrev Any : List ℕ → Type 0
Any r = Unit {0}

ended_again : (t r line : List ℕ) → IsEndedLine t line → Any r → ended_line_at (t ++ r) ≡ Some (line, r)
ended_again t r line (all, inl e) any =
    let whole : t ++ r ≡ (line ++ 13 ∷ []) ++ 10 ∷ r = ap (λ (l : List ℕ). l ++ r) e ∙ append_assoc line (13 ∷ 10 ∷ []) r ∙ sym (append_assoc line (13 ∷ []) (10 ∷ r)) in
    ap ended_line_at whole ∙ ended_by (line ++ 13 ∷ []) r (list_all_joined is_no_lf line (13 ∷ []) all refl) ∙ ap (λ (l : List ℕ). Some (l, r)) (without_pushed line)
ended_again t r line (all, inr (no_cr, e)) any =
    let whole : t ++ r ≡ line ++ 10 ∷ r = ap (λ (l : List ℕ). l ++ r) e ∙ append_assoc line (10 ∷ []) r in
    let without : without_cr line ≡ line = rw no_cr refl in
    ap ended_line_at whole ∙ ended_by line r all ∙ ap (λ (l : List ℕ). Some (l, r)) without

pub ended_shrinks : Shrinks ended_line_at
ended_shrinks s x e =
    let a = bind_some (after 10 (drop_while is_no_lf s)) _ x e in
    let ends = pair_parts (without_cr (take_while is_no_lf s)) x.0 a.0 x.1 a.2 in
    omega (arith, ap length (take_while_split is_no_lf s), length-append (take_while is_no_lf s) (drop_while is_no_lf s), ap length (after_takes 10 (drop_while is_no_lf s) a.0 a.1), ap length ends.1)

no_line : (s : List ℕ) → list_all is_no_lf s ≡ true → ended_line_at s ≡ None
no_line s all =
    let e : drop_while is_no_lf s ≡ [] = ap (drop_while is_no_lf) (sym (append-nil s)) ∙ behind_whole is_no_lf s [] all tt in
    rw e refl

last_by : (s r : List ℕ) → drop_while is_no_lf s ≡ r → StopsAt is_no_lf r → ended_line_at s ≡ None → list_all is_no_lf s ≡ true
last_by s [] e stops none =
    let whole : s ≡ take_while is_no_lf s = take_while_split is_no_lf s ∙ ap (λ (l : List ℕ). take_while is_no_lf s ++ l) e ∙ append-nil (take_while is_no_lf s) in
    subst (λ (l : List ℕ). list_all is_no_lf l ≡ true) (sym whole) (take_while_passes is_no_lf s)
last_by s (b ∷ bs) e stops none =
    let lf : eqb b 10 ≡ true = not-false _ stops in
    let some : ended_line_at s ≡ Some (without_cr (take_while is_no_lf s), bs) = rw (e, lf) refl in
    let both : ◌≡◌ {A = Option (List ℕ × List ℕ)} None (Some (without_cr (take_while is_no_lf s), bs)) = sym none ∙ some in
    absurd cc

last_line : (s : List ℕ) → ended_line_at s ≡ None → list_all is_no_lf s ≡ true
last_line s none = last_by s (drop_while is_no_lf s) refl (behind_stops is_no_lf s) none

pub lines_step : (s : List ℕ) (line r : List ℕ) → ended_line_at s ≡ Some (line, r) → lines_of s ≡ line ∷ lines_of r
unfolding lines_of
lines_step s line r e = rw (parts_step ended_line_at ended_shrinks s (line, r) e) refl

pub lines_stop : (s : List ℕ) → ended_line_at s ≡ None → lines_of s ≡ s ∷ []
unfolding lines_of
lines_stop s e = rw (parts_stop ended_line_at s e) refl

pub split_again : (bytes : List ℕ) (lines : List (List ℕ)) → IsSplit bytes lines → lines_of bytes ≡ lines
unfolding lines_of
split_again bytes lines (front, last, ended, are, all, e, f) =
    let read : parts_of ended_line_at bytes ≡ (ended, last) = ap (parts_of ended_line_at) e ∙ parts_again ended_line_at IsEndedLine Any ended_shrinks ended_again (λ t r a is any. tt) ended front last are tt (no_line last all) in
    rw read (sym f)

pub split_takes : (bytes : List ℕ) → IsSplit bytes (lines_of bytes)
unfolding lines_of
split_takes bytes =
    let read = parts_of ended_line_at bytes in
    let spelled = parts_take ended_line_at IsEndedLine ended_takes bytes in
    (spelled.0, read.1, read.0, spelled.1, last_line read.1 (parts_left ended_line_at ended_shrinks bytes), spelled.2, refl)

-- ---- the search for an LF

pub lf_none : (s : List ℕ) → IsFirstByte (is_byte 10) s None → ended_line_at s ≡ None
lf_none s none =
    let n = byte_len 10 s None (length s) none refl in
    let e : drop_while is_no_lf s ≡ [] = sym (drop_while_is is_no_lf s) ∙ ap (λ (k : ℕ). drop k s) (sym n) ∙ drop_all (length s) s (le_refl (length s)) in
    rw e refl

pub lf_some : (s : List ℕ) (k : ℕ) → IsFirstByte (is_byte 10) s (Some k) → ended_line_at s ≡ Some (without_cr (take k s), drop (k + 1) s)
lf_some s k found =
    let n = byte_len 10 s (Some k) k found refl in
    let front : take_while is_no_lf s ≡ take k s = sym (take_while_is is_no_lf s) ∙ ap (λ (i : ℕ). take i s) (sym n) in
    let back : drop_while is_no_lf s ≡ 10 ∷ drop (k + 1) s =
    sym (drop_while_is is_no_lf s) ∙ ap (λ (i : ℕ). drop i s) (sym n) ∙ drop_more s k 0 found.0.high ∙ ap (λ (b : ℕ). b ∷ drop (k + 1) s) (eqb-true (get_or s k 0) 10 found.1) in
    rw (front, back) refl

pub lf_found : (s : List ℕ) (k : ℕ) (line : List ℕ) → IsFirstByte (is_byte 10) s (Some k) → line ≡ without_cr (take k s) → ended_line_at s ≡ Some (line, take (length s - (k + 1)) (drop (k + 1) s))
lf_found s k line found is =
    let rest : take (length s - (k + 1)) (drop (k + 1) s) ≡ drop (k + 1) s = take_all (length s - (k + 1)) (drop (k + 1) s) (omega (arith, length-drop (k + 1) s)) in
    lf_some s k found ∙ ap (λ (l : List ℕ). Some (l, drop (k + 1) s)) (sym is) ∙ ap (λ (r : List ℕ). Some (line, r)) (sym rest)

-- ---- a line by its tests

pub line_no_utf8 : (line : List ℕ) → (IsUtf8 line → ⊥) → line_of line ≡ None
unfolding line_of
line_no_utf8 line no_text =
    elim (cases_Bool (is_utf8 line)) [
      | inl e ↦ absurd (no_text (IsUtf8-from_is_utf8 line e))
      | inr e ↦ rw e refl
    ]

pub line_over : (line : List ℕ) → IsUtf8 line → (text : List ℕ) → text ≡ line → is_passed_over (drop_while is_blank text) ≡ true → line_of line ≡ Some None
unfolding line_of
line_over line utf8 text is over =
    let passed : is_passed_over (drop_while is_blank line) ≡ true = subst (λ (t : List ℕ). is_passed_over (drop_while is_blank t) ≡ true) is over in
    rw (is_utf8-from_IsUtf8 line utf8, passed) refl

line_command : (line : List ℕ) → IsUtf8 line → (text : List ℕ) → text ≡ line → is_passed_over (drop_while is_blank text) ≡ false → line_of line ≡ option_some (command_at text)
unfolding line_of
line_command line utf8 text is over =
    let passed : is_passed_over (drop_while is_blank line) ≡ false = subst (λ (t : List ℕ). is_passed_over (drop_while is_blank t) ≡ false) is over in
    rw (is_utf8-from_IsUtf8 line utf8, passed) (ap (λ (t : List ℕ). option_some (command_at t)) (sym is))

pub line_found : (line : List ℕ) → IsUtf8 line → (text : List ℕ) → text ≡ line → is_passed_over (drop_while is_blank text) ≡ false → (c : Command) → command_at text ≡ Some c → line_of line ≡ Some (Some c)
line_found line utf8 text is over c found = line_command line utf8 text is over ∙ ap option_some found

pub line_stopped : (line : List ℕ) → IsUtf8 line → (text : List ℕ) → text ≡ line → is_passed_over (drop_while is_blank text) ≡ false → command_at text ≡ None → line_of line ≡ None
line_stopped line utf8 text is over none = line_command line utf8 text is over ∙ ap option_some none
