-- Where a name has its colon.
use Rattle.std.proofs.Common.{◌≡◌, ℕ, ◌<◌, ◌+◌, suc, Bool, true, false, List, [], ◌∷◌, length, get_or, refl, arith}
use Rattle.std.proofs.lemmas.Bool.Decides.{nat_tests}
use Rattle.std.proofs.lemmas.List.Folds.{list_any_at}
use Rattle.std.proofs.lemmas.List.Sums.{passes_at_first}
use Rattle.std.proofs.lemmas.Str.{IsCharBoundary-after_ascii}
use Rattle.std.specs.List.{list_any, position_or_len}
use Rattle.std.specs.Str.{IsUtf8, IsCharBoundary}
use Rattle.xt_spec.specs.Namespace.{is_colon}

-- a search that comes to the end found nothing
pub none_passes : (p : ℕ → Bool) (xs : List ℕ) → position_or_len p xs ≡ length xs → list_any p xs ≡ false
none_passes p [] is = refl
none_passes p (x ∷ xs) is = by (p x) refl (none_passes p xs) is
  where
    by : (b : Bool) → b ≡ p x → (position_or_len p xs ≡ length xs → list_any p xs ≡ false) → position_or_len p (x ∷ xs) ≡ length (x ∷ xs) → list_any p (x ∷ xs) ≡ false
    by true e ih is = let here : 0 ≡ suc (length xs) = rw (← e) at is in absurd (omega arith)
    by false e ih is =
        let there : 1 + position_or_len p xs ≡ suc (length xs) = rw (← e) at is in
        rw (← e) (ih (omega arith))

-- .. and one that ends before found one
pub one_passes : (p : ℕ → Bool) (xs : List ℕ) → position_or_len p xs < length xs → list_any p xs ≡ true
one_passes p xs below = list_any_at p xs (position_or_len p xs) 0 below (passes_at_first p xs 0 below)

pub colon_ascii : (b : ℕ) → is_colon b ≡ true → b < 128
colon_ascii b is = grind (arith, nat_tests)

-- a name may be cut behind its colon
pub may_cut_behind_colon : (name : List ℕ) (at : ℕ) → IsUtf8 name → at ≡ position_or_len is_colon name → at < length name → IsCharBoundary name (at + 1)
may_cut_behind_colon name at utf8 is below =
    let colon : is_colon (get_or name at 0) ≡ true = rw is (passes_at_first is_colon name 0 (omega arith)) in
    IsCharBoundary-after_ascii name at utf8 below (colon_ascii (get_or name at 0) colon)
