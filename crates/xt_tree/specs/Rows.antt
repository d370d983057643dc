-- Entries that are whole items, whatever stands behind them, and what a builder has of a tape while elements are open.
use Rattle.std.specs.Prelude.{◌≡◌, ◌<◌, ◌+◌, ℕ, List, [], ◌∷◌, ◌++◌, length, map, reverse, false}
use Rattle.xt_lex.specs.declared.attribute.AttrSrc.{AttrSrc}
use Rattle.xt_tree.specs.declared.source.Tag.{Tag}
use Rattle.xt_tree.specs.declared.source.Src.{Src}
use Rattle.xt_tree.specs.declared.entry.Entry.{Entry}
use Rattle.xt_tree.specs.declared.entry.Entry.TheVariants.{Elem, Attr}
use Rattle.xt_tree.specs.declared.building.Building.{Building}
use Rattle.xt_tree.specs.Levels.{span, Levels, levels, AreSized}

-- each attribute begins where the one before ended, the first here, and ends with its value
abbrev pub AreChained : ℕ → List AttrSrc → Type 0
AreChained from [] = Unit {0}
AreChained from (a ∷ others) = (a.whole ≡ span from a.value.to) × AreChained a.value.to others

-- the name stands behind the `<`, and the attributes behind the name
pub record IsShaped (head : Tag) : Type 0 where
  pub order : head.span.from < head.span.to
  pub name : head.name ≡ span (head.span.from + 1) head.name.to
  pub attrs : AreChained head.name.to head.attrs

abbrev pub attr_entry : AttrSrc → Entry
attr_entry a = Attr a.name.from a.name.to a.value.from a.value.to

-- items in front of the innermost level
abbrev pub plug : List Src → Levels → Levels
plug items l = record { attrs = []; inner = record { items = items ++ l.inner.items; tail = l.inner.tail }; outer = l.outer }

-- the entries are these items, whatever stands behind them, if no attribute does
pub record IsRow (row : List Entry) (items : List Src) : Type 0 where
  pub levels : (more : List Entry) → (levels more).attrs ≡ [] → levels (row ++ more) ≡ plug items (levels more)
  pub sized : (more : List Entry) → AreSized more → AreSized (row ++ more)

-- an element that is open: its tag, and the items before it
pub record OpenTag : Type 0 where
  pub head : Tag
  pub before : List Src

-- at these places, the innermost first, these tags stand, with no size yet, and each in front of it has the items before it
abbrev pub Stands : List Entry → List ℕ → List OpenTag → List Src → Type 0
Stands entries [] [] items = IsRow entries items
Stands entries [] (o ∷ os) items = ⊥
Stands entries (at ∷ ats) [] items = ⊥
Stands entries (at ∷ ats) (o ∷ os) items =
    (front : List Entry) × (row : List Entry) × (entries ≡ front ++ Elem o.head.span.from o.head.span.to o.head.name.to 0 ∷ (map attr_entry o.head.attrs ++ row)) × (at ≡ length front) × (o.head.empty ≡ false) × IsShaped o.head × IsRow row items × Stands front ats os o.before

-- what was built: the elements that are open, the innermost first, and the items of the innermost
abbrev pub IsAt : Building → List OpenTag → List Src → Type 0
IsAt b os items = Stands b.entries.items (reverse b.opened.items) os items
