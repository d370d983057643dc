-- The builder's steps.
use Rattle.std.proofs.Common.{◌≡◌, ◌∙◌, ◌+◌, ◌-◌, ℕ, suc, List, [], ◌∷◌, ◌++◌, length, map, reverse, get_or, Some, false, refl, sym, ap, subst, arith, append_assoc, append-nil, length-append}
use Rattle.std.proofs.Math.ListN.{set}
use Rattle.std.proofs.Math.Seq.{set-append_seam, get_or-append_seam}
use Rattle.std.proofs.lemmas.List.{reverse-append}
use Rattle.xt_lex.specs.declared.token.Span.{Span}
use Rattle.xt_tree.specs.declared.source.Tag.{Tag}
use Rattle.xt_tree.specs.declared.source.Src.{Src}
use Rattle.xt_tree.specs.declared.source.Src.TheVariants as src
use Rattle.xt_tree.specs.declared.entry.Entry.{Entry}
use Rattle.xt_tree.specs.declared.entry.Entry.TheVariants.{Elem, Empty, Attr, End, Text, Ref, Comment, Pi, Gap}
use Rattle.xt_tree.specs.declared.building.Building.{Building}
use Rattle.xt_tree.specs.Levels.{Levels, levels, AreSized}
use Rattle.xt_tree.specs.Rows.{IsShaped, attr_entry, IsRow, OpenTag, Stands, IsAt}
use Rattle.xt_tree.proofs.RowLemmas.{row_none, row_element, grow}

pub adds_row : (old new : Building) (more : List Entry) (others : List Src) (os : List OpenTag) (items : List Src) → IsRow more others → new.entries.items ≡ old.entries.items ++ more → new.opened.items ≡ old.opened.items → IsAt old os items → IsAt new os (items ++ others)
adds_row old new more others os items is added same at =
    subst (λ (l : List ℕ). Stands new.entries.items (reverse l) os (items ++ others)) (sym same)
    (subst (λ (l : List Entry). Stands l (reverse old.opened.items) os (items ++ others)) (sym added) (grow old.entries.items more (reverse old.opened.items) os items others at is))

pub opens_tag : (old new : Building) (at : ℕ) (head : Tag) (mid : List Entry) (os : List OpenTag) (items : List Src) → IsShaped head → head.empty ≡ false → at ≡ length old.entries.items → new.opened.items ≡ old.opened.items ++ at ∷ []
    → mid ≡ old.entries.items ++ Elem head.span.from head.span.to head.name.to 0 ∷ [] → new.entries.items ≡ mid ++ map attr_entry head.attrs → IsAt old os items → IsAt new (record { head = head; before = items } ∷ os) []
opens_tag old new at head mid os items shaped is at_is pushed first rest stands =
    let turned : reverse new.opened.items ≡ at ∷ reverse old.opened.items = ap reverse pushed ∙ reverse-append old.opened.items (at ∷ []) in
    let attrs = map attr_entry head.attrs in
    let tag : Entry = Elem head.span.from head.span.to head.name.to 0 in
    let are : new.entries.items ≡ old.entries.items ++ tag ∷ (attrs ++ []) =
    rest ∙ ap (λ (l : List Entry). l ++ attrs) first ∙ append_assoc old.entries.items (tag ∷ []) attrs ∙ ap (λ (l : List Entry). old.entries.items ++ tag ∷ l) (sym (append-nil attrs)) in
    subst (λ (l : List ℕ). Stands new.entries.items l (record { head = head; before = items } ∷ os) []) (sym turned)
    (old.entries.items, [], are, at_is, is, shaped, row_none, stands)

-- an element's entry with another size
abbrev sized_as : ℕ → Entry → Entry
sized_as n (Elem from to name_to inside) = Elem from to name_to n
sized_as n (Empty from to name_to attrs) = Empty from to name_to attrs
sized_as n (Attr at name_to from to) = Attr at name_to from to
sized_as n (End from to) = End from to
sized_as n (Text from to) = Text from to
sized_as n (Ref from to) = Ref from to
sized_as n (Comment from to) = Comment from to
sized_as n (Pi from to) = Pi from to
sized_as n (Gap from to) = Gap from to

closes_in : (entries new : List Entry) (at inside from to name_to was : ℕ) (end : Span) (e : Entry) (ats : List ℕ) (o : OpenTag) (os : List OpenTag) (items : List Src) → Stands entries (at ∷ ats) (o ∷ os) items
    → e ≡ get_or entries at e → e ≡ Elem from to name_to was → inside ≡ length entries - at - 1 → new ≡ set entries at (Elem from to name_to inside) ++ End end.from end.to ∷ []
    → Stands new ats os (o.before ++ src.Elem (Some end) o.head items ∷ [])
closes_in entries new at inside from to name_to was end e ats o os items stands found is size pushed =
    let (front, row, are, place, start, shaped, kids, outer) = stands in
    let attrs = map attr_entry o.head.attrs in
    let tag : Entry = Elem o.head.span.from o.head.span.to o.head.name.to 0 in
    let there : e ≡ tag = found ∙ ap (λ (l : List Entry). get_or l at e) are ∙ ap (λ (n : ℕ). get_or (front ++ tag ∷ (attrs ++ row)) n e) place ∙ get_or-append_seam front tag (attrs ++ row) e in
    let same : Elem from to name_to inside ≡ Elem o.head.span.from o.head.span.to o.head.name.to inside = ap (sized_as inside) (sym is ∙ there) in
    let put : set entries at (Elem from to name_to inside) ≡ front ++ Elem o.head.span.from o.head.span.to o.head.name.to inside ∷ (attrs ++ row) =
    ap (set entries at) same ∙ ap (λ (l : List Entry). set l at (Elem o.head.span.from o.head.span.to o.head.name.to inside)) are
    ∙ ap (λ (n : ℕ). set (front ++ tag ∷ (attrs ++ row)) n (Elem o.head.span.from o.head.span.to o.head.name.to inside)) place ∙ set-append_seam front tag (attrs ++ row) (Elem o.head.span.from o.head.span.to o.head.name.to inside) in
    let long : length entries ≡ length front + suc (length (attrs ++ row)) = ap length are ∙ length-append front (tag ∷ (attrs ++ row)) in
    let counted : inside ≡ length (attrs ++ row) = omega (arith, size, long, place) in
    let whole : new ≡ front ++ (Elem o.head.span.from o.head.span.to o.head.name.to (length (attrs ++ row)) ∷ (attrs ++ row) ++ End end.from end.to ∷ []) =
    pushed ∙ ap (λ (l : List Entry). l ++ End end.from end.to ∷ []) put ∙ append_assoc front (Elem o.head.span.from o.head.span.to o.head.name.to inside ∷ (attrs ++ row)) (End end.from end.to ∷ [])
    ∙ ap (λ (n : ℕ). front ++ (Elem o.head.span.from o.head.span.to o.head.name.to n ∷ (attrs ++ row) ++ End end.from end.to ∷ [])) counted in
    subst (λ (l : List Entry). Stands l ats os (o.before ++ src.Elem (Some end) o.head items ∷ [])) (sym whole)
    (grow front (Elem o.head.span.from o.head.span.to o.head.name.to (length (attrs ++ row)) ∷ (attrs ++ row) ++ End end.from end.to ∷ []) ats os o.before (src.Elem (Some end) o.head items ∷ []) outer
    (row_element o.head row items end.from end.to shaped start kids))

pub closes_tag : (old new : Building) (at inside from to name_to was : ℕ) (end : Span) (e : Entry) (o : OpenTag) (os : List OpenTag) (items : List Src) → IsAt old (o ∷ os) items → old.opened.items ≡ new.opened.items ++ at ∷ []
    → e ≡ get_or old.entries.items at e → e ≡ Elem from to name_to was → inside ≡ length old.entries.items - at - 1 → new.entries.items ≡ set old.entries.items at (Elem from to name_to inside) ++ End end.from end.to ∷ []
    → IsAt new os (o.before ++ src.Elem (Some end) o.head items ∷ [])
closes_tag old new at inside from to name_to was end e o os items stands popped found is inside_is pushed =
    let turned : reverse old.opened.items ≡ at ∷ reverse new.opened.items = ap reverse popped ∙ reverse-append new.opened.items (at ∷ []) in
    closes_in old.entries.items new.entries.items at inside from to name_to was end e (reverse new.opened.items) o os items
    (subst (λ (l : List ℕ). Stands old.entries.items l (o ∷ os) items) turned stands) found is inside_is pushed

-- whole entries are sized, and the items that were built
pub record IsWhole (entries : List Entry) (items : List Src) : Type 0 where
  pub are : (levels entries).inner.items ≡ items
  pub sized : AreSized entries

whole : (entries : List Entry) (ats : List ℕ) (items : List Src) → Stands entries ats [] items → IsWhole entries items
whole entries [] items is = record {
  are = ap (λ (l : List Entry). (levels l).inner.items) (sym (append-nil entries)) ∙ ap (λ (l : Levels). l.inner.items) (is.levels [] refl) ∙ append-nil items;
  sized = subst AreSized (append-nil entries) (is.sized [] tt);
}
whole entries (at ∷ ats) items is = absurd is

pub whole_built : (b : Building) (items : List Src) → IsAt b [] items → IsWhole b.entries.items items
whole_built b items at = whole b.entries.items (reverse b.opened.items) items at
