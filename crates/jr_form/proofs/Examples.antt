-- The journal computed on the example of its format, and on wrong cases.
use Rattle.std.proofs.Common.{◌≡◌, [], ◌∷◌, ◌++◌, true, false, Some, None, refl}
use Rattle.std.specs.Prelude.{codes}
use Rattle.jr_form.specs.declared.item.Item.{Item}
use Rattle.jr_form.specs.Journal.{entry, spelling, comes_after}
use Rattle.jr_form.specs.Condition.{ascends, files_fit}
use Rattle.jr_form.specs.Reading.{mark_at, reading}

-- c.xml is written as <c>new</c>
abbrev written : Item
written = record { name = codes "c.xml"; bytes = Some (codes "<c>new</c>") }

-- and a.xml removed
abbrev removed : Item
removed = record { name = codes "a.xml"; bytes = None }

-- 34 bytes: the mark, one item, kind 1, five bytes of name, ten bytes of file
spelling-written : spelling (written ∷ []) ≡ codes "BKBURST1" ++ 0 ∷ 0 ∷ 0 ∷ 1 ∷ 1 ∷ 0 ∷ 5 ∷ codes "c.xml" ++ 0 ∷ 0 ∷ 0 ∷ 10 ∷ codes "<c>new</c>"
spelling-written = refl

-- a removal has no length and no bytes
entry-removed : entry removed ≡ 0 ∷ 0 ∷ 5 ∷ codes "a.xml"
entry-removed = refl

-- byte order: a name stands behind its own front, and upper case before lower case
comes_after-right : comes_after (Some (codes "a.xml")) (codes "a.xml.bak") ≡ true
comes_after-right = refl

comes_after-case : comes_after (Some (codes "a")) (codes "B") ≡ false
comes_after-case = refl

comes_after-twice : comes_after (Some (codes "a.xml")) (codes "a.xml") ≡ false
comes_after-twice = refl

ascends-right : ascends None (removed ∷ written ∷ []) ≡ true
ascends-right = refl

ascends-wrong : ascends None (written ∷ removed ∷ []) ≡ false
ascends-wrong = refl

-- ten bytes fit into ten, and not into nine
files_fit-right : files_fit 10 (removed ∷ written ∷ []) ≡ true
files_fit-right = refl

files_fit-wrong : files_fit 9 (removed ∷ written ∷ []) ≡ false
files_fit-wrong = refl

-- bytes without the mark are no journal
reading-wrong : reading (codes "BKBURST2") ≡ None
unfolding reading mark_at
reading-wrong = refl
