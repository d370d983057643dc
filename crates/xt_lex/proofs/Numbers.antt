-- Numbers of character references, of any length.
use Rattle.std.proofs.Common.{◌≡◌, ℕ, ◌+◌, ◌*◌, ◌<◌, ◌≤◌, min, List, [], ◌∷◌, drop, get_or, length, true, false, refl, ap, sym, ◌∙◌, arith, inl, inr, Some, None, le_refl}
use Rattle.std.proofs.Math.Nat.{mul-le-mul_left}
use Rattle.std.proofs.lemmas.Bool.{cases_lt, cases_Bool}
use Rattle.std.proofs.lemmas.Bool.Decides.{nat_tests}
use Rattle.std.proofs.lemmas.List.{drop_more}
use Rattle.xt_spec.specs.Char.{is_char}
use Rattle.xt_spec.specs.Reference.{digit_value, number_behind}
use Rattle.xt_lex.specs.Scan.{named}

-- a further digit makes no number smaller
grown : (base n d : ℕ) → 0 < base → n ≤ n * base + d
grown base n d some = let one : 1 ≤ base = omega arith in let more : n * 1 ≤ n * base = mul-le-mul_left n one in omega arith

pub number_grows : (base n : ℕ) (cs : List ℕ) → 0 < base → n ≤ number_behind base n cs
number_grows base n [] some = le_refl n
number_grows base n (c ∷ cs) some =
    let first = grown base n (digit_value c) some in
    let rest = number_grows base (n * base + digit_value c) cs some in
    omega arith

-- a number may be cut down to the bound at each step
capped : (base n : ℕ) (cs : List ℕ) → 0 < base → min (number_behind base (min n 1114112) cs) 1114112 ≡ min (number_behind base n cs) 1114112
capped base n cs some =
    elim (cases_lt n 1114112) [
      | inl small ↦ let e : min n 1114112 ≡ n = omega arith in ap (λ n. min (number_behind base n cs) 1114112) e
      | inr large ↦
          let e : min n 1114112 ≡ 1114112 = omega arith in
          let one = number_grows base n cs some in
          let two = number_grows base 1114112 cs some in
          let front : min (number_behind base (min n 1114112) cs) 1114112 ≡ min (number_behind base 1114112 cs) 1114112 = ap (λ n. min (number_behind base n cs) 1114112) e in
          front ∙ omega arith
    ]

pub next_digit : (base n k : ℕ) (ds : List ℕ) (d : ℕ) → 0 < base → k < length ds → get_or ds k 0 ≡ d → min (number_behind base (min (n * base + digit_value d) 1114112) (drop (k + 1) ds)) 1114112 ≡ min (number_behind base n (drop k ds)) 1114112
next_digit base n k ds d some within is =
    capped base (n * base + digit_value d) (drop (k + 1) ds) some
    ∙ ap (λ d. min (number_behind base (n * base + digit_value d) (drop (k + 1) ds)) 1114112) (sym is)
    ∙ ap (λ r. min (number_behind base n r) 1114112) (sym (drop_more ds k 0 within))

char_small : (c : ℕ) → is_char c ≡ true → c < 1114112
char_small c h = grind (arith, nat_tests)

large_no_char : (c : ℕ) → 1114112 ≤ c → is_char c ≡ false
large_no_char c large =
    elim (cases_Bool (is_char c)) [
      | inl e ↦ let small = char_small c e in absurd (omega arith)
      | inr e ↦ e
    ]

capped_char : (n : ℕ) → is_char (min n 1114112) ≡ is_char n
capped_char n =
    elim (cases_lt n 1114112) [
      | inl small ↦ let e : min n 1114112 ≡ n = omega arith in ap is_char e
      | inr large ↦
          let e : min n 1114112 ≡ 1114112 = omega arith in
          ap is_char e ∙ sym (large_no_char n large)
    ]

pub named_is : (base : ℕ) (digits : List ℕ) (c : ℕ) → c ≡ min (number_behind base 0 digits) 1114112 → is_char c ≡ true → Some c ≡ named base digits
named_is base digits c e h =
    let n = number_behind base 0 digits in
    let test : is_char n ≡ true = sym (capped_char n) ∙ ap is_char (sym e) ∙ h in
    let small = char_small n test in
    let same : c ≡ n = omega arith in
    rw test (ap (λ n. Some n) same)

pub named_not : (base : ℕ) (digits : List ℕ) (c : ℕ) → c ≡ min (number_behind base 0 digits) 1114112 → is_char c ≡ false → None ≡ named base digits
named_not base digits c e h =
    let n = number_behind base 0 digits in
    let test : is_char n ≡ false = sym (capped_char n) ∙ ap is_char (sym e) ∙ h in
    rw test refl
