-- How entries that are whole items grow.
use Rattle.std.proofs.Common.{◌≡◌, ◌≤◌, ◌∙◌, ◌+◌, ℕ, List, [], ◌∷◌, ◌++◌, drop, length, map, Some, None, Bool, true, false, refl, sym, ap, subst, arith, append_assoc, append-nil, length-append}
use Rattle.std.proofs.lemmas.List.{length-map}
use Rattle.std.proofs.Math.Seq.{drop-append_seam}
use Rattle.xt_lex.specs.declared.token.Span.{Span}
use Rattle.xt_lex.specs.declared.attribute.AttrSrc.{AttrSrc}
use Rattle.xt_tree.specs.declared.source.Tag.{Tag}
use Rattle.xt_tree.specs.declared.source.Src.{Src}
use Rattle.xt_tree.specs.declared.source.Src.TheVariants as src
use Rattle.xt_tree.specs.declared.entry.Entry.{Entry}
use Rattle.xt_tree.specs.declared.entry.Entry.TheVariants.{Elem, Empty, End}
use Rattle.xt_tree.specs.declared.building.Leaf.{Leaf}
use Rattle.xt_tree.specs.declared.building.Leaf.TheVariants as leaf
use Rattle.xt_tree.specs.Leaves.{leaf_entry, leaf_item}
use Rattle.xt_tree.specs.Levels.{span, Level, Levels, levels, first, starts_at, tag_at, with_item, entry_step, AreSized}
use Rattle.xt_tree.specs.Rows.{AreChained, IsShaped, attr_entry, plug, IsRow, OpenTag, Stands}

pub row_none : IsRow [] []
row_none = record { levels = λ more none. ap (λ (a : List AttrSrc). record { attrs = a; inner = (levels more).inner; outer = (levels more).outer }) none; sized = λ more sized. sized }

pub row_leaf : (leaf : Leaf) (s : Span) → IsRow (leaf_entry leaf s ∷ []) (leaf_item leaf s ∷ [])
row_leaf leaf.Text s = record { levels = λ more none. refl; sized = λ more sized. (tt, sized) }
row_leaf leaf.Ref s = record { levels = λ more none. refl; sized = λ more sized. (tt, sized) }
row_leaf leaf.Comment s = record { levels = λ more none. refl; sized = λ more sized. (tt, sized) }
row_leaf leaf.Pi s = record { levels = λ more none. refl; sized = λ more sized. (tt, sized) }
row_leaf leaf.Gap s = record { levels = λ more none. refl; sized = λ more sized. (tt, sized) }

pub row_append : (a b : List Entry) (xs ys : List Src) → IsRow a xs → IsRow b ys → IsRow (a ++ b) (xs ++ ys)
row_append a b xs ys one two = record {
  levels = λ more none.
      let behind : levels (b ++ more) ≡ plug ys (levels more) = two.levels more none in
      ap levels (append_assoc a b more) ∙ one.levels (b ++ more) (ap (λ (l : Levels). l.attrs) behind) ∙ ap (plug xs) behind
      ∙ ap (λ (i : List Src). record { attrs = []; inner = record { items = i; tail = (levels more).inner.tail }; outer = (levels more).outer }) (sym (append_assoc xs ys (levels more).inner.items));
  sized = λ more sized. subst AreSized (sym (append_assoc a b more)) (one.sized (b ++ more) (two.sized more sized));
}

-- the entries of attributes stand for them, and change nothing else
pub record AreAttrs (from : ℕ) (attrs : List AttrSrc) : Type 0 where
  pub attrs_are : (more : List Entry) → (levels more).attrs ≡ [] → starts_at from (levels (map attr_entry attrs ++ more)).attrs ≡ attrs
  pub inner : (more : List Entry) → (levels (map attr_entry attrs ++ more)).inner ≡ (levels more).inner
  pub outer : (more : List Entry) → (levels (map attr_entry attrs ++ more)).outer ≡ (levels more).outer
  pub sized : (more : List Entry) → AreSized more → AreSized (map attr_entry attrs ++ more)

pub are_attrs : (from : ℕ) (attrs : List AttrSrc) → AreChained from attrs → AreAttrs from attrs
are_attrs from [] chained = record { attrs_are = λ more none. ap (starts_at from) none; inner = λ more. refl; outer = λ more. refl; sized = λ more sized. sized }
are_attrs from (a ∷ others) chained =
    let rest = are_attrs a.value.to others chained.1 in
    record {
      attrs_are = λ more none.
          ap (λ (l : List AttrSrc). record { name = a.name; value = a.value; whole = span from a.value.to } ∷ l) (rest.attrs_are more none)
          ∙ ap (λ (s : Span). record { name = a.name; value = a.value; whole = s } ∷ others) (sym chained.0);
      inner = rest.inner;
      outer = rest.outer;
      sized = λ more sized. (tt, rest.sized more sized);
    }

pub shaped_tag : (head : Tag) (attrs : List AttrSrc) (empty : Bool) → IsShaped head → starts_at head.name.to attrs ≡ head.attrs → head.empty ≡ empty → tag_at head.span.from head.span.to head.name.to attrs empty ≡ head
shaped_tag head attrs empty shaped are is =
    ap (λ (l : List AttrSrc). record { name = span (head.span.from + 1) head.name.to; attrs = l; span = head.span; empty = empty }) are
    ∙ ap (λ (s : Span). record { name = s; attrs = head.attrs; span = head.span; empty = empty }) (sym shaped.name)
    ∙ ap (λ (b : Bool). record { name = head.name; attrs = head.attrs; span = head.span; empty = b }) (sym is)

pub row_empty : (head : Tag) → IsShaped head → head.empty ≡ true → IsRow (Empty head.span.from head.span.to head.name.to (length head.attrs) ∷ map attr_entry head.attrs) (src.Elem None head [] ∷ [])
row_empty head shaped is =
    let are = are_attrs head.name.to head.attrs shaped.attrs in
    record {
      levels = λ more none.
          ap (λ (t : Tag). record { attrs = []; inner = with_item (src.Elem None t []) (levels (map attr_entry head.attrs ++ more)).inner; outer = (levels (map attr_entry head.attrs ++ more)).outer }) (shaped_tag head (levels (map attr_entry head.attrs ++ more)).attrs true shaped (are.attrs_are more none) is)
          ∙ ap (λ (l : Level). record { attrs = []; inner = with_item (src.Elem None head []) l; outer = (levels (map attr_entry head.attrs ++ more)).outer }) (are.inner more)
          ∙ ap (λ (o : List Level). record { attrs = []; inner = with_item (src.Elem None head []) (levels more).inner; outer = o }) (are.outer more);
      sized = λ more sized.
          let long : length (map attr_entry head.attrs) ≡ length head.attrs = length-map head.attrs attr_entry in
          let within : length head.attrs ≤ length (map attr_entry head.attrs ++ more) = rw (length-append (map attr_entry head.attrs) more) (omega (arith, long)) in
          let behind : drop (length head.attrs) (map attr_entry head.attrs ++ more) ≡ more = ap (λ (n : ℕ). drop n (map attr_entry head.attrs ++ more)) (sym long) ∙ drop-append_seam (map attr_entry head.attrs) more in
          ((shaped.order, within, ap (λ (l : List Entry). (levels l).inner) behind ∙ sym (are.inner more)), are.sized more sized);
    }

pub row_element : (head : Tag) (row : List Entry) (items : List Src) (from to : ℕ) → IsShaped head → head.empty ≡ false → IsRow row items
    → IsRow (Elem head.span.from head.span.to head.name.to (length (map attr_entry head.attrs ++ row)) ∷ (map attr_entry head.attrs ++ row) ++ End from to ∷ []) (src.Elem (Some (span from to)) head items ∷ [])
row_element head row items from to shaped is kids =
    let attrs = map attr_entry head.attrs in
    let are = are_attrs head.name.to head.attrs shaped.attrs in
    let inside : (more : List Entry) → ((attrs ++ row) ++ End from to ∷ []) ++ more ≡ attrs ++ (row ++ End from to ∷ more) =
    λ more. append_assoc (attrs ++ row) (End from to ∷ []) more ∙ append_assoc attrs row (End from to ∷ more) in
    let closed : (more : List Entry) → levels (row ++ End from to ∷ more) ≡ plug items (levels (End from to ∷ more)) = λ more. kids.levels (End from to ∷ more) refl in
    let level : (more : List Entry) → (levels (attrs ++ (row ++ End from to ∷ more))).inner ≡ record { items = items; tail = Some (span from to) } =
    λ more. are.inner (row ++ End from to ∷ more) ∙ ap (λ (l : Levels). l.inner) (closed more) ∙ ap (λ (i : List Src). record { items = i; tail = Some (span from to) }) (append-nil items) in
    let around : (more : List Entry) → (levels (attrs ++ (row ++ End from to ∷ more))).outer ≡ (levels more).inner ∷ (levels more).outer =
    λ more. are.outer (row ++ End from to ∷ more) ∙ ap (λ (l : Levels). l.outer) (closed more) in
    let tagged : (more : List Entry) → starts_at head.name.to (levels (attrs ++ (row ++ End from to ∷ more))).attrs ≡ head.attrs =
    λ more. are.attrs_are (row ++ End from to ∷ more) (ap (λ (l : Levels). l.attrs) (closed more)) in
    record {
      levels = λ more none.
          ap (λ (es : List Entry). entry_step (Elem head.span.from head.span.to head.name.to (length (attrs ++ row))) (levels es)) (inside more)
          ∙ ap (λ (t : Tag). record { attrs = []; inner = with_item (src.Elem (levels (attrs ++ (row ++ End from to ∷ more))).inner.tail t (levels (attrs ++ (row ++ End from to ∷ more))).inner.items) (first (levels (attrs ++ (row ++ End from to ∷ more))).outer); outer = drop 1 (levels (attrs ++ (row ++ End from to ∷ more))).outer })
          (shaped_tag head (levels (attrs ++ (row ++ End from to ∷ more))).attrs false shaped (tagged more) is)
          ∙ ap (λ (l : Level). record { attrs = []; inner = with_item (src.Elem l.tail head l.items) (first (levels (attrs ++ (row ++ End from to ∷ more))).outer); outer = drop 1 (levels (attrs ++ (row ++ End from to ∷ more))).outer }) (level more)
          ∙ ap (λ (o : List Level). record { attrs = []; inner = with_item (src.Elem (Some (span from to)) head items) (first o); outer = drop 1 o }) (around more);
      sized = λ more sized.
          let behind : drop (length (attrs ++ row)) (attrs ++ (row ++ End from to ∷ more)) ≡ End from to ∷ more =
          ap (drop (length (attrs ++ row))) (sym (append_assoc attrs row (End from to ∷ more))) ∙ drop-append_seam (attrs ++ row) (End from to ∷ more) in
          let within : length (attrs ++ row) ≤ length (attrs ++ (row ++ End from to ∷ more)) = rw (sym (append_assoc attrs row (End from to ∷ more))) (rw (length-append (attrs ++ row) (End from to ∷ more)) (omega arith)) in
          subst (λ (es : List Entry). AreSized (Elem head.span.from head.span.to head.name.to (length (attrs ++ row)) ∷ es)) (sym (inside more)) (
            (
              shaped.order,
              within,
              record { from = from; to = to; rest = more; is = behind; tail = ap (λ (l : Level). l.tail) (level more); leads = sym (ap first (around more)) },
            ),
            are.sized (row ++ End from to ∷ more) (kids.sized (End from to ∷ more) (tt, sized)),
          );
    }

-- more whole items behind what was built
pub grow : (entries more : List Entry) (ats : List ℕ) (os : List OpenTag) (items others : List Src) → Stands entries ats os items → IsRow more others → Stands (entries ++ more) ats os (items ++ others)
grow entries more [] [] items others stands is = row_append entries more items others stands is
grow entries more [] (o ∷ os) items others stands is = absurd stands
grow entries more (at ∷ ats) [] items others stands is = absurd stands
grow entries more (at ∷ ats) (o ∷ os) items others stands is =
    let (front, row, are, place, start, shaped, kids, outer) = stands in
    let attrs = map attr_entry o.head.attrs in
    let tail : (Elem o.head.span.from o.head.span.to o.head.name.to 0 ∷ (attrs ++ row)) ++ more ≡ Elem o.head.span.from o.head.span.to o.head.name.to 0 ∷ (attrs ++ (row ++ more)) =
    ap (λ (l : List Entry). Elem o.head.span.from o.head.span.to o.head.name.to 0 ∷ l) (append_assoc attrs row more) in (
      front,
      row ++ more,
      ap (λ (l : List Entry). l ++ more) are ∙ append_assoc front (Elem o.head.span.from o.head.span.to o.head.name.to 0 ∷ (attrs ++ row)) more ∙ ap (λ (l : List Entry). front ++ l) tail,
      place,
      start,
      shaped,
      row_append row more items others kids is,
      outer,
    )
