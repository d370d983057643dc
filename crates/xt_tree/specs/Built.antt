-- What a tape stands for while elements are open, computed from its entries: an open element is the last item of its level,
-- and has no end-tag.
use Rattle.std.specs.Prelude.{ℕ, zero, suc, List, [], ◌∷◌, ◌++◌, length, reverse, Option, None, Some}
use Rattle.xt_lex.specs.declared.token.Span.{Span}
use Rattle.xt_tree.specs.declared.source.Tag.{Tag}
use Rattle.xt_tree.specs.declared.source.Src.TheVariants as src
use Rattle.xt_tree.specs.declared.source.Src.{Src, out-Src}
use Rattle.xt_tree.specs.declared.source.Src.TheOpen.{Src-F, Elem, Text, Ref, Comment, Pi, Gap}
use Rattle.xt_tree.specs.Spans.{kids_of}
use Rattle.xt_tree.specs.declared.building.Building.{Building}
use Rattle.xt_tree.specs.Levels.{levels}
use Rattle.xt_tree.specs.Rows.{OpenTag, IsAt}

-- the elements that are open, the innermost first, and the items of the innermost
pub record Built : Type 0 where
  pub opened : List OpenTag
  pub items : List Src

abbrev pub last_kids : List Src → List Src
last_kids [] = []
last_kids (item ∷ before) = kids_of item

abbrev pub tag_of : List Src → Src-F Src → List OpenTag
tag_of before (Elem tail head kids) = record { head = head; before = reverse before } ∷ []
tag_of before (Text span) = []
tag_of before (Ref span) = []
tag_of before (Comment span) = []
tag_of before (Pi span) = []
tag_of before (Gap span) = []

abbrev pub last_tag : List Src → List OpenTag
last_tag [] = []
last_tag (item ∷ before) = tag_of before (out-Src item)

-- the last items of so many levels are open
abbrev pub spine : ℕ → List Src → Built
spine zero all = record { opened = []; items = all }
spine (suc n) all = record { opened = (spine n (last_kids (reverse all))).opened ++ last_tag (reverse all); items = (spine n (last_kids (reverse all))).items }

abbrev pub built : Building → Built
built b = spine (length b.opened.items) (levels b.entries.items).inner.items

-- the entries and the places of open tags are those of what was built
abbrev pub IsSound : Building → Type 0
IsSound b = IsAt b (built b).opened (built b).items

-- the next steps
abbrev pub with_item : Built → Src → Built
with_item b item = record { opened = b.opened; items = b.items ++ item ∷ [] }

abbrev pub with_tag : Built → Tag → Built
with_tag b head = record { opened = record { head = head; before = b.items } ∷ b.opened; items = [] }

abbrev pub IsOpen : List OpenTag → Type 0
IsOpen [] = ⊥
IsOpen (o ∷ os) = Unit {0}

abbrev closed_in : Span → List OpenTag → List Src → Built
closed_in span [] items = record { opened = []; items = items }
closed_in span (o ∷ os) items = record { opened = os; items = o.before ++ src.Elem (Some span) o.head items ∷ [] }

abbrev pub closed : Span → Built → Built
closed span b = closed_in span b.opened b.items

-- the name of the innermost element that is open
abbrev pub innermost : List OpenTag → Option Span
innermost [] = None
innermost (o ∷ os) = Some o.head.name
