-- Which items the entries from one place on are: those side by side there, and behind them those of each level outside.
use Rattle.std.specs.Prelude.{◌≡◌, ◌<◌, ◌≤◌, ◌+◌, ℕ, List, [], ◌∷◌, drop, length, Option, Some, None, Bool, true, false}
use Rattle.xt_lex.specs.declared.token.Span.{Span}
use Rattle.xt_lex.specs.declared.attribute.AttrSrc.{AttrSrc}
use Rattle.xt_tree.specs.declared.source.Tag.{Tag}
use Rattle.xt_tree.specs.declared.source.Src.{Src}
use Rattle.xt_tree.specs.declared.source.Src.TheVariants as src
use Rattle.xt_tree.specs.declared.entry.Entry.{Entry}
use Rattle.xt_tree.specs.declared.entry.Entry.TheVariants.{Elem, Empty, Attr, End, Text, Ref, Comment, Pi, Gap}

abbrev pub span : ℕ → ℕ → Span
span from to = record { from = from; to = to }

-- items side by side, and the end-tag behind them, where there is one
pub record Level : Type 0 where
  pub items : List Src
  pub tail : Option Span

-- the attributes that stand first, the innermost level, and those outside
pub record Levels : Type 0 where
  pub attrs : List AttrSrc
  pub inner : Level
  pub outer : List Level

abbrev pub nothing : Level
nothing = record { items = []; tail = None }

abbrev pub first : List Level → Level
first [] = nothing
first (level ∷ others) = level

-- the first attribute begins here, with the white space before it
abbrev pub starts_at : ℕ → List AttrSrc → List AttrSrc
starts_at from [] = []
starts_at from (a ∷ others) = record { name = a.name; value = a.value; whole = span from a.whole.to } ∷ others

abbrev pub tag_at : ℕ → ℕ → ℕ → List AttrSrc → Bool → Tag
tag_at from to name_to attrs empty = record { name = span (from + 1) name_to; attrs = starts_at name_to attrs; span = span from to; empty = empty }

abbrev pub with_item : Src → Level → Level
with_item item level = record { items = item ∷ level.items; tail = level.tail }

abbrev pub adds : Src → Levels → Levels
adds item l = record { attrs = []; inner = with_item item l.inner; outer = l.outer }

abbrev pub entry_step : Entry → Levels → Levels
entry_step (Elem from to name_to inside) l = record {
  attrs = [];
  inner = with_item (src.Elem l.inner.tail (tag_at from to name_to l.attrs false) l.inner.items) (first l.outer);
  outer = drop 1 l.outer;
}
entry_step (Empty from to name_to attrs) l = adds (src.Elem None (tag_at from to name_to l.attrs true) []) l
entry_step (Attr at name_to from to) l = record {
  attrs = record { name = span at name_to; value = span from to; whole = span at to } ∷ starts_at to l.attrs;
  inner = l.inner;
  outer = l.outer;
}
entry_step (End from to) l = record { attrs = []; inner = record { items = []; tail = Some (span from to) }; outer = l.inner ∷ l.outer }
entry_step (Text from to) l = adds (src.Text (span from to)) l
entry_step (Ref from to) l = adds (src.Ref (span from to)) l
entry_step (Comment from to) l = adds (src.Comment (span from to)) l
entry_step (Pi from to) l = adds (src.Pi (span from to)) l
entry_step (Gap from to) l = adds (src.Gap (span from to)) l

abbrev pub levels : List Entry → Levels
levels [] = record { attrs = []; inner = nothing; outer = [] }
levels (e ∷ es) = entry_step e (levels es)

-- behind so many entries the innermost level's end-tag stands, and behind that the level outside goes on
pub record EndsBehind (inside : ℕ) (es : List Entry) : Type 0 where
  pub from : ℕ
  pub to : ℕ
  pub rest : List Entry
  pub is : drop inside es ≡ End from to ∷ rest
  pub tail : (levels es).inner.tail ≡ Some (span from to)
  pub leads : (levels rest).inner ≡ first (levels es).outer

-- a tag tells where to go on
abbrev pub IsSized : Entry → List Entry → Type 0
IsSized (Elem from to name_to inside) es = (from < to) × (inside ≤ length es) × EndsBehind inside es
IsSized (Empty from to name_to attrs) es = (from < to) × (attrs ≤ length es) × ((levels (drop attrs es)).inner ≡ (levels es).inner)
IsSized (Attr at name_to from to) es = Unit {0}
IsSized (End from to) es = Unit {0}
IsSized (Text from to) es = Unit {0}
IsSized (Ref from to) es = Unit {0}
IsSized (Comment from to) es = Unit {0}
IsSized (Pi from to) es = Unit {0}
IsSized (Gap from to) es = Unit {0}

abbrev pub AreSized : List Entry → Type 0
AreSized [] = Unit {0}
AreSized (e ∷ es) = IsSized e es × AreSized es

abbrev pub is_attr : Entry → Bool
is_attr (Elem from to name_to inside) = false
is_attr (Empty from to name_to attrs) = false
is_attr (Attr at name_to from to) = true
is_attr (End from to) = false
is_attr (Text from to) = false
is_attr (Ref from to) = false
is_attr (Comment from to) = false
is_attr (Pi from to) = false
is_attr (Gap from to) = false

abbrev pub begins_attr : List Entry → Bool
begins_attr [] = false
begins_attr (e ∷ es) = is_attr e
