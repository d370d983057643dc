-- What stands behind an element's entries.
use Rattle.std.proofs.Common.{◌≡◌, ◌∙◌, ℕ, zero, suc, List, [], ◌∷◌, drop, sym, subst}
use Rattle.xt_tree.specs.declared.entry.Entry.{Entry}
use Rattle.xt_tree.specs.Levels.{AreSized}

pub drop_sized : (n : ℕ) (es : List Entry) → AreSized es → AreSized (drop n es)
drop_sized zero es sized = sized
drop_sized (suc n) [] sized = sized
drop_sized (suc n) (e ∷ es) sized = drop_sized n es sized.1

pub behind_end : (n : ℕ) (es behind rest : List Entry) (end : Entry) → behind ≡ drop n es → behind ≡ end ∷ rest → AreSized es → AreSized rest
behind_end n es behind rest end is cons sized = let all : AreSized (end ∷ rest) = subst AreSized (sym is ∙ cons) (drop_sized n es sized) in all.1
