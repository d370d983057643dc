-- The longest front whose bytes pass a test, and what follows it.
use Rattle.std.proofs.Common.{◌≡◌, ℕ, ◌<◌, List, [], ◌∷◌, ◌++◌, Bool, true, false, refl, ap, ◌∙◌, arith, inl, inr, eqb-true, append-nil}
use Rattle.std.proofs.lemmas.Bool.{cases_Bool, not-false}
use Rattle.std.proofs.lemmas.Bool.Decides.{nat_tests}
use Rattle.std.specs.List.{list_all}
use Rattle.xt_scan.specs.Step.{take_while, drop_while}
use Rattle.xt_lex.proofs.Theorems.{take_while_append, drop_while_append}
use Rattle.bk_script.specs.Word.{is_blank, is_plain}
use Rattle.bk_script.specs.Reading.{is_no_blank}

-- the test fails at the front, or nothing is there
abbrev pub StopsAt : (ℕ → Bool) → List ℕ → Type 0
StopsAt p [] = Unit {0}
StopsAt p (b ∷ bs) = p b ≡ false

run_none : (p : ℕ → Bool) (r : List ℕ) → StopsAt p r → take_while p r ≡ []
run_none p [] stops = refl
run_none p (b ∷ bs) stops = rw stops refl

behind_none : (p : ℕ → Bool) (r : List ℕ) → StopsAt p r → drop_while p r ≡ r
behind_none p [] stops = refl
behind_none p (b ∷ bs) stops = rw stops refl

pub run_whole : (p : ℕ → Bool) (a r : List ℕ) → list_all p a ≡ true → StopsAt p r → take_while p (a ++ r) ≡ a
run_whole p a r all stops = take_while_append p a r all ∙ ap (λ t. a ++ t) (run_none p r stops) ∙ append-nil a

pub behind_whole : (p : ℕ → Bool) (a r : List ℕ) → list_all p a ≡ true → StopsAt p r → drop_while p (a ++ r) ≡ r
behind_whole p a r all stops = drop_while_append p a r all ∙ behind_none p r stops

pub behind_stops : (p : ℕ → Bool) (s : List ℕ) → StopsAt p (drop_while p s)
behind_stops p [] = tt
behind_stops p (b ∷ bs) =
    elim (cases_Bool (p b)) [
      | inl e ↦ rw e (behind_stops p bs)
      | inr e ↦ rw e e
    ]

pub blank_ascii : (b : ℕ) → is_blank b ≡ true → b < 128
blank_ascii b h = let e = eqb-true b 32 h in omega arith

pub no_blank_ascii : (b : ℕ) → is_no_blank b ≡ false → b < 128
no_blank_ascii b h = let e = eqb-true b 32 (not-false _ h) in omega arith

pub no_plain_ascii : (b : ℕ) → is_plain b ≡ false → b < 128
no_plain_ascii b h = grind (arith, nat_tests)
