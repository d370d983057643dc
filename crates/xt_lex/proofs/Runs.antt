-- The longest front of a text whose bytes pass a test.
use Rattle.std.proofs.Common.{◌≡◌, ◌≢◌, ℕ, ◌<◌, List, [], ◌∷◌, true, false, eqb, refl, ap, arith, leb-false, Option, Some, None, eq-eqb, ne_eqb}
use Rattle.std.proofs.lemmas.Bool.{or_parts}
use Rattle.std.proofs.lemmas.Bool.Decides.{nat_tests}
use Rattle.std.specs.Option.{MatchOption, option_copied}
use denote.Ref.{Bor}
use Rattle.xt_spec.specs.Reference.{is_decimal_digit, is_hexadecimal_digit}
use Rattle.xt_lex.specs.NameTest.{is_name_byte}
use Rattle.xt_lex.specs.Scan.{after, is_plain_in_subset}
pub use Rattle.xt_scan.proofs.Theorems.{take_while_is, boundary_at_stop, drop_while_is, space_ascii, boundary_behind, boundary_behind_or_start, byte_len}

pub stop_ascii : (b : ℕ) → is_name_byte b ≡ false → b < 128
stop_ascii b h = leb-false 128 b (or_parts _ _ h).0

pub mark_ascii : (b : ℕ) → is_plain_in_subset b ≡ false → b < 128
mark_ascii b h = grind (arith, nat_tests)

pub decimal_ascii : (b : ℕ) → is_decimal_digit b ≡ true → b < 128
decimal_ascii b h = grind (arith, nat_tests)

pub hexadecimal_ascii : (b : ℕ) → is_hexadecimal_digit b ≡ true → b < 128
hexadecimal_ascii b h = grind (arith, nat_tests)

pub after_is : (c : ℕ) (s : List ℕ) (r : Option (Bor (List ℕ))) → MatchOption r ((rest : List ℕ) → s ≢ c ∷ rest) (λ x. s ≡ c ∷ x.now) → option_copied r ≡ after c s
after_is c [] None h = refl
after_is c (b ∷ bs) None h =
    let e : eqb b c ≡ false = ne_eqb b c (λ e. h bs (ap (λ x. x ∷ bs) e)) in
    rw e refl
after_is c s (Some x) h =
    let e : eqb c c ≡ true = eq-eqb c c refl in
    rw (h, e) refl
