-- What a tape stands for while elements are open.
use Rattle.std.proofs.Common.{◌≡◌, ◌<◌, ◌∙◌, ◌+◌, ◌-◌, take, get_or, ℕ, suc, List, [], ◌∷◌, ◌++◌, length, map, reverse, None, Some, false, refl, sym, ap, subst, arith, append_assoc, append-nil}
use Rattle.std.proofs.lemmas.List.{reverse-append, reverse-reverse, length-reverse, take-append-drop, drop_all}
use Rattle.std.proofs.Math.Seq.{drop-cons, get_or-append_seam}
use Rattle.xt_lex.specs.declared.token.Span.{Span}
use Rattle.xt_tree.specs.declared.source.Tag.{Tag}
use Rattle.xt_tree.specs.declared.source.Src.{Src, out-Src}
use Rattle.xt_tree.specs.declared.source.Src.TheVariants as src
use Rattle.xt_tree.specs.declared.source.Src.TheOpen.{Src-F}
use Rattle.xt_tree.specs.Spans.{kids_at}
use Rattle.xt_tree.specs.declared.entry.Entry.{Entry}
use Rattle.xt_tree.specs.declared.entry.Entry.TheVariants.{Elem, Empty, Attr, End, Text, Ref, Comment, Pi, Gap}
use Rattle.xt_tree.specs.declared.building.Building.{Building}
use Rattle.xt_tree.specs.Levels.{span, Level, Levels, levels, entry_step}
use Rattle.xt_tree.specs.Rows.{IsShaped, attr_entry, plug, OpenTag, Stands, IsAt}
use Rattle.xt_tree.specs.Built.{Built, last_kids, tag_of, last_tag, spine, built, IsSound, IsOpen, closed, innermost}
use Rattle.xt_tree.proofs.RowLemmas.{are_attrs, shaped_tag}

-- the items, each open element the last of its level
abbrev pub tree : List OpenTag → List Src → List Src
tree [] items = items
tree (o ∷ os) items = tree os (o.before ++ src.Elem None o.head items ∷ [])

abbrev plain : List Src → Levels
plain items = record { attrs = []; inner = record { items = items; tail = None }; outer = [] }

open_levels : (entries : List Entry) (ats : List ℕ) (os : List OpenTag) (items : List Src) → Stands entries ats os items → (more : List Entry) (xs : List Src) → levels more ≡ plain xs → levels (entries ++ more) ≡ plain (tree os (items ++ xs))
open_levels entries [] [] items stands more xs are = stands.levels more (ap (λ (l : Levels). l.attrs) are) ∙ ap (plug items) are
open_levels entries [] (o ∷ os) items stands more xs are = absurd stands
open_levels entries (at ∷ ats) [] items stands more xs are = absurd stands
open_levels entries (at ∷ ats) (o ∷ os) items stands more xs are =
    let (front, row, cut, place, start, shaped, kids, outer) = stands in
    let attrs = map attr_entry o.head.attrs in
    let of_attrs = are_attrs o.head.name.to o.head.attrs shaped.attrs in
    let inner : levels (row ++ more) ≡ plain (items ++ xs) = kids.levels more (ap (λ (l : Levels). l.attrs) are) ∙ ap (plug items) are in
    let whole : levels (attrs ++ (row ++ more)) ≡ record { attrs = (levels (attrs ++ (row ++ more))).attrs; inner = record { items = items ++ xs; tail = None }; outer = [] } =
    ap (λ (l : Level). record { attrs = (levels (attrs ++ (row ++ more))).attrs; inner = l; outer = (levels (attrs ++ (row ++ more))).outer }) (of_attrs.inner (row ++ more) ∙ ap (λ (l : Levels). l.inner) inner)
    ∙ ap (λ (l : List Level). record { attrs = (levels (attrs ++ (row ++ more))).attrs; inner = record { items = items ++ xs; tail = None }; outer = l }) (of_attrs.outer (row ++ more) ∙ ap (λ (l : Levels). l.outer) inner) in
    let tag : Entry = Elem o.head.span.from o.head.span.to o.head.name.to 0 in
    let element : levels (tag ∷ (attrs ++ (row ++ more))) ≡ plain (src.Elem None o.head (items ++ xs) ∷ []) =
    ap (entry_step tag) whole
    ∙ ap (λ (t : Tag). plain (src.Elem None t (items ++ xs) ∷ [])) (shaped_tag o.head (levels (attrs ++ (row ++ more))).attrs false shaped (of_attrs.attrs_are (row ++ more) (ap (λ (l : Levels). l.attrs) inner)) start) in
    let tail : (tag ∷ (attrs ++ row)) ++ more ≡ tag ∷ (attrs ++ (row ++ more)) = ap (λ (l : List Entry). tag ∷ l) (append_assoc attrs row more) in
    ap (λ (l : List Entry). levels (l ++ more)) cut ∙ ap levels (append_assoc front (tag ∷ (attrs ++ row)) more ∙ ap (λ (l : List Entry). front ++ l) tail)
    ∙ open_levels front ats os o.before outer (tag ∷ (attrs ++ (row ++ more))) (src.Elem None o.head (items ++ xs) ∷ []) element

turned : (items : List Src) (item : Src) → reverse (items ++ item ∷ []) ≡ item ∷ reverse items
turned items item = reverse-append items (item ∷ [])

-- the last item's tag and kids, where it is an open element
elem_out : (head : Tag) (items : List Src) → out-Src (src.Elem None head items) ≡ Src-F.Elem None head items
elem_out head items = src.outs-Elem None head items

-- the last item's tag and kids, where it is an open element
one_level : (m : ℕ) (o : OpenTag) (items : List Src) → spine (suc m) (o.before ++ src.Elem None o.head items ∷ []) ≡ record { opened = (spine m items).opened ++ o ∷ []; items = (spine m items).items }
one_level m o items =
    ap (λ (r : List Src). record { opened = (spine m (last_kids r)).opened ++ last_tag r; items = (spine m (last_kids r)).items }) (turned o.before (src.Elem None o.head items))
    ∙ ap (λ (f : Src-F Src). record { opened = (spine m (kids_at f)).opened ++ tag_of (reverse o.before) f; items = (spine m (kids_at f)).items }) (elem_out o.head items)
    ∙ ap (λ (b : List Src). record { opened = (spine m items).opened ++ record { head = o.head; before = b } ∷ []; items = (spine m items).items }) (reverse-reverse o.before)

all_levels : (os : List OpenTag) (m : ℕ) (items : List Src) → spine (length os + m) (tree os items) ≡ record { opened = (spine m items).opened ++ os; items = (spine m items).items }
all_levels [] m items = let none : 0 + m ≡ m = omega arith in ap (λ (n : ℕ). spine n items) none ∙ ap (λ (o : List OpenTag). record { opened = o; items = (spine m items).items }) (sym (append-nil (spine m items).opened))
all_levels (o ∷ os) m items =
    let sum : suc (length os) + m ≡ length os + suc m = omega arith in
    ap (λ (n : ℕ). spine n (tree os (o.before ++ src.Elem None o.head items ∷ []))) sum ∙ all_levels os (suc m) (o.before ++ src.Elem None o.head items ∷ [])
    ∙ ap (λ (b : Built). record { opened = b.opened ++ os; items = b.items }) (one_level m o items)
    ∙ ap (λ (l : List OpenTag). record { opened = l; items = (spine m items).items }) (append_assoc (spine m items).opened (o ∷ []) os)

as_many : (entries : List Entry) (ats : List ℕ) (os : List OpenTag) (items : List Src) → Stands entries ats os items → length ats ≡ length os
as_many entries [] [] items stands = refl
as_many entries [] (o ∷ os) items stands = absurd stands
as_many entries (at ∷ ats) [] items stands = absurd stands
as_many entries (at ∷ ats) (o ∷ os) items stands = let (front, row, cut, place, start, shaped, kids, outer) = stands in ap suc (as_many front ats os o.before outer)

pub built_is : (b : Building) (os : List OpenTag) (items : List Src) → IsAt b os items → built b ≡ record { opened = os; items = items }
built_is b os items at =
    let count : length b.opened.items ≡ length os + 0 = sym (length-reverse b.opened.items) ∙ as_many b.entries.items (reverse b.opened.items) os items at ∙ omega arith in
    let all : (levels b.entries.items).inner.items ≡ tree os items =
    ap (λ (l : List Entry). (levels l).inner.items) (sym (append-nil b.entries.items)) ∙ ap (λ (l : Levels). l.inner.items) (open_levels b.entries.items (reverse b.opened.items) os items at [] [] refl) ∙ ap (tree os) (append-nil items) in
    ap (λ (n : ℕ). spine n (levels b.entries.items).inner.items) count ∙ ap (spine (length os + 0)) all ∙ all_levels os 0 items

-- what is known of a builder, told by what it built
pub told : (b : Building) (os : List OpenTag) (items : List Src) → IsAt b os items → IsSound b × (built b ≡ record { opened = os; items = items })
told b os items at = (subst (λ (u : Built). IsAt b u.opened u.items) (sym (built_is b os items at)) at, built_is b os items at)

close_in : (old new : Building) (span : Span) (os : List OpenTag) (items : List Src) → IsOpen os → ((o : OpenTag) (rest : List OpenTag) (all : List Src) → IsAt old (o ∷ rest) all → IsAt new rest (o.before ++ src.Elem (Some span) o.head all ∷ [])) → IsAt old os items → IsSound new × (built new ≡ closed span (record { opened = os; items = items }))
close_in old new span [] items some closes at = absurd some
close_in old new span (o ∷ os) items some closes at = told new os (o.before ++ src.Elem (Some span) o.head items ∷ []) (closes o os items at)

pub told_close : (old new : Building) (span : Span) → IsOpen (built old).opened → ((o : OpenTag) (os : List OpenTag) (items : List Src) → IsAt old (o ∷ os) items → IsAt new os (o.before ++ src.Elem (Some span) o.head items ∷ [])) → IsSound old → IsSound new × (built new ≡ closed span (built old))
told_close old new span some closes sound = close_in old new span (built old).opened (built old).items some closes sound

abbrev from_in : Entry → ℕ
from_in (Elem from to name_to inside) = from
from_in (Empty from to name_to attrs) = 0
from_in (Attr at name_to from to) = 0
from_in (End from to) = 0
from_in (Text from to) = 0
from_in (Ref from to) = 0
from_in (Comment from to) = 0
from_in (Pi from to) = 0
from_in (Gap from to) = 0

abbrev to_in : Entry → ℕ
to_in (Elem from to name_to inside) = to
to_in (Empty from to name_to attrs) = 0
to_in (Attr at name_to from to) = 0
to_in (End from to) = 0
to_in (Text from to) = 0
to_in (Ref from to) = 0
to_in (Comment from to) = 0
to_in (Pi from to) = 0
to_in (Gap from to) = 0

abbrev name_to_in : Entry → ℕ
name_to_in (Elem from to name_to inside) = name_to
name_to_in (Empty from to name_to attrs) = 0
name_to_in (Attr at name_to from to) = 0
name_to_in (End from to) = 0
name_to_in (Text from to) = 0
name_to_in (Ref from to) = 0
name_to_in (Comment from to) = 0
name_to_in (Pi from to) = 0
name_to_in (Gap from to) = 0

split_last : (l : List ℕ) (d : ℕ) → 0 < length l → l ≡ take (length l - 1) l ++ get_or l (length l - 1) d ∷ []
split_last l d some =
    sym (take-append-drop (length l - 1) l)
    ∙ ap (λ (t : List ℕ). take (length l - 1) l ++ t) (drop-cons l (length l - 1) d (omega (arith, some)) ∙ ap (λ (t : List ℕ). get_or l (length l - 1) d ∷ t) (drop_all (suc (length l - 1)) l (omega arith)))

-- the entry of the innermost element that is open
pub record IsInnermost (os : List OpenTag) (e : Entry) : Type 0 where
  pub o : OpenTag
  pub rest : List OpenTag
  pub are : os ≡ o ∷ rest
  pub is : e ≡ Elem o.head.span.from o.head.span.to o.head.name.to 0
  pub shaped : IsShaped o.head

entry_in : (entries : List Entry) (at : ℕ) (ats : List ℕ) (os : List OpenTag) (items : List Src) (e : Entry) → Stands entries (at ∷ ats) os items → e ≡ get_or entries at e → IsInnermost os e
entry_in entries at ats [] items e stands found = absurd stands
entry_in entries at ats (o ∷ os) items e stands found =
    let (front, row, are, place, start, shaped, kids, outer) = stands in
    let tag : Entry = Elem o.head.span.from o.head.span.to o.head.name.to 0 in
    record {
      o = o;
      rest = os;
      are = refl;
      is = found ∙ ap (λ (l : List Entry). get_or l at e) are ∙ ap (λ (n : ℕ). get_or (front ++ tag ∷ (map attr_entry o.head.attrs ++ row)) n e) place ∙ get_or-append_seam front tag (map attr_entry o.head.attrs ++ row) e;
      shaped = shaped;
    }

pub innermost_entry : (b : Building) (opened : List ℕ) (at : ℕ) (e : Entry) → IsSound b → opened ≡ b.opened.items → at ≡ get_or opened (length opened - 1) at → 0 < length opened → e ≡ get_or b.entries.items at e → IsInnermost (built b).opened e
innermost_entry b opened at e sound same last some found =
    let rest = take (length opened - 1) opened in
    let turned_too : reverse b.opened.items ≡ at ∷ reverse rest = ap reverse (sym same) ∙ ap reverse (split_last opened at some) ∙ reverse-append rest (get_or opened (length opened - 1) at ∷ []) ∙ ap (λ (n : ℕ). n ∷ reverse rest) (sym last) in
    entry_in b.entries.items at (reverse rest) (built b).opened (built b).items e (subst (λ (l : List ℕ). Stands b.entries.items l (built b).opened (built b).items) turned_too sound) found

pub innermost_named : (os : List OpenTag) (e : Entry) (from to name_to inside : ℕ) → e ≡ Elem from to name_to inside → IsInnermost os e → (from < to) × (Some (span (from + 1) name_to) ≡ innermost os)
innermost_named os e from to name_to inside is it =
    let same : Elem from to name_to inside ≡ Elem it.o.head.span.from it.o.head.span.to it.o.head.name.to 0 = sym is ∙ it.is in
    let a : from ≡ it.o.head.span.from = ap from_in same in
    let b : to ≡ it.o.head.span.to = ap to_in same in
    let n : name_to ≡ it.o.head.name.to = ap name_to_in same in (
      omega (arith, a, b, it.shaped.order),
      ap (λ (x : ℕ). Some (span (x + 1) name_to)) a ∙ ap (λ (x : ℕ). Some (span (it.o.head.span.from + 1) x)) n ∙ ap Some (sym it.shaped.name) ∙ ap innermost (sym it.are),
    )

pub not_elem : (os : List OpenTag) (e : Entry) → IsInnermost os e → ((from to name_to inside : ℕ) → e ≡ Elem from to name_to inside → ⊥) → ⊥
not_elem os e it never = never it.o.head.span.from it.o.head.span.to it.o.head.name.to 0 it.is

pub depth_is : (b : Building) (len : ℕ) → IsSound b → len ≡ length b.opened.items → len ≡ length (built b).opened
depth_is b len sound is = is ∙ sym (length-reverse b.opened.items) ∙ as_many b.entries.items (reverse b.opened.items) (built b).opened (built b).items sound
