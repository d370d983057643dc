-- A name of a desk is the same as itself and as no other.
use Rattle.std.proofs.Common.{◌≡◌, List, ℕ, Bool, true, false, refl, sym, ap}
use Rattle.std.specs.Cmp.Lexicographic.{bytes_decides}
use Rattle.bk_desk.specs.declared.desk_name.DeskName.{DeskName}
use Rattle.bk_desk.specs.declared.desk_name.DeskName.TheVariants.{Book, Journal, Gate}
use Rattle.bk_desk.specs.DeskNames.{same_name}

pub same_name-own : (name : DeskName) → same_name name name ≡ true
same_name-own (Book name) = (bytes_decides name name).1 refl
same_name-own Journal = refl
same_name-own Gate = refl

pub same_name-equal : (a b : DeskName) → same_name a b ≡ true → a ≡ b
same_name-equal (Book a) (Book b) e = ap (λ (n : List ℕ). Book n) ((bytes_decides a b).0 e)
same_name-equal (Book a) Journal e = absurd cc
same_name-equal (Book a) Gate e = absurd cc
same_name-equal Journal (Book b) e = absurd cc
same_name-equal Journal Journal e = refl
same_name-equal Journal Gate e = absurd cc
same_name-equal Gate (Book b) e = absurd cc
same_name-equal Gate Journal e = absurd cc
same_name-equal Gate Gate e = refl

pub same_name-other : (name other : DeskName) → (other ≡ name → ⊥) → same_name name other ≡ false
same_name-other name other apart = by (same_name name other) refl
  where
    by : (b : Bool) → same_name name other ≡ b → b ≡ false
    by true is = absurd (apart (sym (same_name-equal name other is)))
    by false is = refl
