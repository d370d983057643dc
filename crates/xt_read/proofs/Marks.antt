-- What each step of the reader adds to the marks.
use Rattle.std.proofs.Common.{◌≡◌, ◌∙◌, true, if◌then◌else◌, bytes_eq, ℕ, ◌≤◌, List, [], ◌∷◌, ◌++◌, Some, None, Option, refl, ap, sym, subst, append_assoc, append-nil, arith, map, option_map, slice_range, take, drop, ◌-◌, ◌+◌}
use Rattle.std.proofs.lemmas.List.{drop-drop}
use Rattle.std.proofs.Math.Seq.{take-add}  -- the first n + m: the first n, then the first m of the rest
use Rattle.xt_lex.specs.declared.token.Span.{Span}
use Rattle.xt_tree.specs.declared.source.Tag.{Tag}
use Rattle.xt_tree.specs.declared.source.Src.{Src}
use Rattle.xt_tree.specs.declared.source.Src.TheVariants as src
use Rattle.xt_tree.specs.declared.source.Src.TheOpen.{Src-F}
use Rattle.xt_tree.specs.declared.source.Src.TheFolds.{fold-roll-Src}
use Rattle.xt_tree.specs.Meaning.{at_span, item_of, item_step}
use Rattle.xt_tree.specs.Places.{Mark, tag_mark, span_mark, tail_marks, mark_step, marks_in, marks_of}
use Rattle.xt_tree.specs.declared.building.Leaf.{Leaf}
use Rattle.xt_tree.specs.declared.building.Leaf.TheVariants as leaf
use Rattle.xt_tree.specs.Leaves.{leaf_item}
use Rattle.xt_tree.specs.Rows.{OpenTag}
use Rattle.xt_tree.specs.Built.{Built, built, with_tag, IsOpen, closed, innermost}
use Rattle.xt_tree.specs.Built.{with_item as tape_with_item}
use Rattle.xt_spec.specs.Tree.{Item, items_of, text_item, element_item, nil}
use Rattle.xt_spec.specs.Tree.{leaf_item as spec_leaf}
use Rattle.std.proofs.lemmas.List.{map-append}
use Rattle.xt_read.specs.declared.reader.Reader.{Reader}
use Rattle.xt_read.specs.Progress.{open_marks, marks_built, Joins, element_of, stage_of, state_of, kind_of_leaf}
use Rattle.xt_read.specs.Run.{State, longer, with_text, with_item}
use Rattle.xt_read.specs.Run.{closed as run_closed}

pub text_marks : (s : Span) → marks_in (src.Text s) ≡ span_mark s ∷ []
text_marks s = ap marks_in (sym (src.rolls-Text s)) ∙ fold-roll-Src (List Mark) mark_step (Src-F.Text s)

pub comment_marks : (s : Span) → marks_in (src.Comment s) ≡ span_mark s ∷ []
comment_marks s = ap marks_in (sym (src.rolls-Comment s)) ∙ fold-roll-Src (List Mark) mark_step (Src-F.Comment s)

pub pi_marks : (s : Span) → marks_in (src.Pi s) ≡ span_mark s ∷ []
pi_marks s = ap marks_in (sym (src.rolls-Pi s)) ∙ fold-roll-Src (List Mark) mark_step (Src-F.Pi s)

pub reference_marks : (s : Span) → marks_in (src.Ref s) ≡ span_mark s ∷ []
reference_marks s = ap marks_in (sym (src.rolls-Ref s)) ∙ fold-roll-Src (List Mark) mark_step (Src-F.Ref s)

pub gap_marks : (s : Span) → marks_in (src.Gap s) ≡ span_mark s ∷ []
gap_marks s = ap marks_in (sym (src.rolls-Gap s)) ∙ fold-roll-Src (List Mark) mark_step (Src-F.Gap s)

pub element_marks : (head : Tag) (kids : List Src) (tail : Option Span) → marks_in (src.Elem tail head kids) ≡ tag_mark head ∷ marks_of kids ++ tail_marks tail
element_marks head kids tail = ap marks_in (sym (src.rolls-Elem tail head kids)) ∙ fold-roll-Src (List Mark) mark_step (Src-F.Elem tail head kids)

pub marks_push : (items : List Src) (item : Src) → marks_of (items ++ item ∷ []) ≡ marks_of items ++ marks_in item
marks_push [] item = append-nil (marks_in item)
marks_push (first ∷ items) item = ap (λ m. marks_in first ++ m) (marks_push items item) ∙ sym (append_assoc (marks_in first) (marks_of items) (marks_in item))

pub marks_item : (b : Built) (item : Src) → marks_built (tape_with_item b item) ≡ marks_built b ++ marks_in item
marks_item b item = ap (λ m. open_marks b.opened ++ m) (marks_push b.items item) ∙ sym (append_assoc (open_marks b.opened) (marks_of b.items) (marks_in item))

pub marks_text : (b : Built) (span : Span) → marks_built (tape_with_item b (src.Text span)) ≡ marks_built b ++ span_mark span ∷ []
marks_text b span = marks_item b (src.Text span) ∙ ap (λ m. marks_built b ++ m) (text_marks span)

pub marks_leaf : (b : Built) (leaf : Leaf) (span : Span) → marks_built (tape_with_item b (leaf_item leaf span)) ≡ marks_built b ++ span_mark span ∷ []
marks_leaf b leaf.Text span = marks_text b span
marks_leaf b leaf.Ref span = marks_item b (src.Ref span) ∙ ap (λ m. marks_built b ++ m) (reference_marks span)
marks_leaf b leaf.Comment span = marks_item b (src.Comment span) ∙ ap (λ m. marks_built b ++ m) (comment_marks span)
marks_leaf b leaf.Pi span = marks_item b (src.Pi span) ∙ ap (λ m. marks_built b ++ m) (pi_marks span)
marks_leaf b leaf.Gap span = marks_item b (src.Gap span) ∙ ap (λ m. marks_built b ++ m) (gap_marks span)

pub marks_empty : (b : Built) (head : Tag) → marks_built (tape_with_item b (src.Elem None head [])) ≡ marks_built b ++ tag_mark head ∷ []
marks_empty b head = marks_item b (src.Elem None head []) ∙ ap (λ m. marks_built b ++ m) (element_marks head [] None)

pub marks_tag : (b : Built) (head : Tag) → marks_built (with_tag b head) ≡ marks_built b ++ tag_mark head ∷ []
marks_tag b head = append-nil (open_marks b.opened ++ (marks_of b.items ++ tag_mark head ∷ [])) ∙ sym (append_assoc (open_marks b.opened) (marks_of b.items) (tag_mark head ∷ []))

regrouped : (a b k : List Mark) (x y : Mark) → (a ++ b) ++ (x ∷ k ++ (y ∷ [])) ≡ ((a ++ (b ++ (x ∷ []))) ++ k) ++ (y ∷ [])
regrouped a b k x y = simp append_assoc

pub marks_closed : (os : List OpenTag) (items : List Src) (span : Span) → IsOpen os → marks_built (closed span (record { opened = os; items = items })) ≡ marks_built (record { opened = os; items = items }) ++ span_mark span ∷ []
marks_closed [] items span some = absurd some
marks_closed (o ∷ os) items span some =
    ap (λ m. open_marks os ++ m) (marks_push o.before (src.Elem (Some span) o.head items) ∙ ap (λ m. marks_of o.before ++ m) (element_marks o.head items (Some span)))
    ∙ sym (append_assoc (open_marks os) (marks_of o.before) (tag_mark o.head ∷ marks_of items ++ span_mark span ∷ []))
    ∙ regrouped (open_marks os) (marks_of o.before) (marks_of items) (tag_mark o.head) (span_mark span)

-- the same, where the text item is settled
pub on_marks : (old new : Built) (marks more : List Mark) (text : Option Span) → text ≡ None → marks_built new ≡ marks_built old ++ more → marks_built old ≡ marks → marks_built new ++ tail_marks text ≡ marks ++ more
on_marks old new marks more text none step before = ap (λ t. marks_built new ++ tail_marks t) none ∙ append-nil (marks_built new) ∙ step ∙ ap (λ m. m ++ more) before

-- two spans of which the second begins where the first ends
pub joined_range : (bytes : List ℕ) (a b c : ℕ) → a ≤ b → b ≤ c → slice_range bytes a c ≡ slice_range bytes a b ++ slice_range bytes b c
joined_range bytes a b c first second =
    let size : c - a ≡ (b - a) + (c - b) = omega arith in
    let place : (b - a) + a ≡ b = omega arith in
    ap (λ n. take n (drop a bytes)) size ∙ take-add (b - a) (c - b) (drop a bytes)
    ∙ ap (λ d. take (b - a) (drop a bytes) ++ take (c - b) d) (drop-drop (b - a) a bytes ∙ (let e : a + (b - a) ≡ b = omega arith in ap (λ n. drop n bytes) e))

pub lengthens : (bytes : List ℕ) (old : Option Span) (text span : Span) → old ≡ Some text → Joins old span → ◌≡◌ {A = Option (List ℕ)} (Some (at_span bytes (record { from = text.from; to = span.to }))) (Some (longer (option_map (at_span bytes) old) (at_span bytes span)))
lengthens bytes old text span is joins =
    let j : Joins (Some text) span = subst (λ o. Joins o span) is joins in
    let second : text.to ≤ span.to = omega (arith, j.1, j.2) in
    let range = joined_range bytes text.from text.to span.to j.0 second in
    let next : slice_range bytes text.to span.to ≡ slice_range bytes span.from span.to = ap (λ n. slice_range bytes n span.to) j.1 in
    ap Some (range ∙ ap (λ r. slice_range bytes text.from text.to ++ r) next) ∙ ap (λ o. Some (longer (option_map (at_span bytes) o) (at_span bytes span))) (sym is)

-- ---- items of a state

pub text_is : (bytes : List ℕ) (s : Span) → item_of bytes (src.Text s) ≡ spec_leaf text_item (at_span bytes s)
text_is bytes s = ap (item_of bytes) (sym (src.rolls-Text s)) ∙ fold-roll-Src Item (item_step bytes) (Src-F.Text s)

pub items_push : (bytes : List ℕ) (items : List Src) (item : Src) → map (item_of bytes) (items ++ item ∷ []) ≡ map (item_of bytes) items ++ item_of bytes item ∷ []
items_push bytes items item = map-append (item_of bytes) items (item ∷ [])

-- the state behind an item of its own
pub item_state : (bytes : List ℕ) (old mid new : Reader) (item : Src) → built new.tape ≡ tape_with_item (built mid.tape) item → new.text ≡ mid.text → new.stage ≡ mid.stage → mid.text ≡ None
    → map (item_of bytes) (built mid.tape).items ≡ with_text (map (item_of bytes) (built old.tape).items) (option_map (at_span bytes) old.text) → (built mid.tape).opened ≡ (built old.tape).opened → mid.stage ≡ old.stage
    → state_of bytes new ≡ with_item (state_of bytes old) (item_of bytes item)
item_state bytes old mid new item is same_text same_stage none items opened stage =
    ap (λ b. record { opened = map (element_of bytes) b.opened; items = map (item_of bytes) b.items; text = option_map (at_span bytes) new.text; stage = option_map stage_of new.stage }) is
    ∙ ap (λ l. record { opened = map (element_of bytes) (built mid.tape).opened; items = l; text = option_map (at_span bytes) new.text; stage = option_map stage_of new.stage }) (items_push bytes (built mid.tape).items item ∙ ap (λ l. l ++ item_of bytes item ∷ []) items)
    ∙ ap (λ o. record { opened = map (element_of bytes) o; items = with_text (map (item_of bytes) (built old.tape).items) (option_map (at_span bytes) old.text) ++ item_of bytes item ∷ []; text = option_map (at_span bytes) new.text; stage = option_map stage_of new.stage }) opened
    ∙ ap (λ t. record { opened = map (element_of bytes) (built old.tape).opened; items = with_text (map (item_of bytes) (built old.tape).items) (option_map (at_span bytes) old.text) ++ item_of bytes item ∷ []; text = option_map (at_span bytes) t; stage = option_map stage_of new.stage }) (same_text ∙ none)
    ∙ ap (λ g. record { opened = map (element_of bytes) (built old.tape).opened; items = with_text (map (item_of bytes) (built old.tape).items) (option_map (at_span bytes) old.text) ++ item_of bytes item ∷ []; text = None; stage = option_map stage_of g }) (same_stage ∙ stage)

pub leaf_is : (bytes : List ℕ) (l : Leaf) (s : Span) → item_of bytes (leaf_item l s) ≡ spec_leaf (kind_of_leaf l) (at_span bytes s)
leaf_is bytes leaf.Text s = text_is bytes s
leaf_is bytes leaf.Ref s = ap (item_of bytes) (sym (src.rolls-Ref s)) ∙ fold-roll-Src Item (item_step bytes) (Src-F.Ref s)
leaf_is bytes leaf.Comment s = ap (item_of bytes) (sym (src.rolls-Comment s)) ∙ fold-roll-Src Item (item_step bytes) (Src-F.Comment s)
leaf_is bytes leaf.Pi s = ap (item_of bytes) (sym (src.rolls-Pi s)) ∙ fold-roll-Src Item (item_step bytes) (Src-F.Pi s)
leaf_is bytes leaf.Gap s = ap (item_of bytes) (sym (src.rolls-Gap s)) ∙ fold-roll-Src Item (item_step bytes) (Src-F.Gap s)

pub leaf_state : (bytes : List ℕ) (old : Reader) (l : Leaf) (s : Span) → with_item (state_of bytes old) (item_of bytes (leaf_item l s)) ≡ with_item (state_of bytes old) (spec_leaf (kind_of_leaf l) (at_span bytes s))
leaf_state bytes old l s = ap (with_item (state_of bytes old)) (leaf_is bytes l s)

empty_is : (bytes : List ℕ) (head : Tag) → item_of bytes (src.Elem None head []) ≡ element_item (at_span bytes head.span) nil None
empty_is bytes head = ap (item_of bytes) (sym (src.rolls-Elem None head [])) ∙ fold-roll-Src Item (item_step bytes) (Src-F.Elem None head [])

pub empty_state : (bytes : List ℕ) (old : Reader) (head : Tag) → with_item (state_of bytes old) (item_of bytes (src.Elem None head [])) ≡ with_item (state_of bytes old) (element_item (at_span bytes head.span) nil None)
empty_state bytes old head = ap (with_item (state_of bytes old)) (empty_is bytes head)

pub some_open : (os : List OpenTag) (own : Span) → ◌≡◌ {A = Option Span} (Some own) (innermost os) → IsOpen os
some_open [] own is = absurd (cc)
some_open (o ∷ os) own is = tt

abbrev span_or : Span → Option Span → Span
span_or d None = d
span_or d (Some s) = s

element_is : (bytes : List ℕ) (head : Tag) (items : List Src) (span : Span) → item_of bytes (src.Elem (Some span) head items) ≡ element_item (at_span bytes head.span) (items_of (map (item_of bytes) items)) (Some (at_span bytes span))
element_is bytes head items span = ap (item_of bytes) (sym (src.rolls-Elem (Some span) head items)) ∙ fold-roll-Src Item (item_step bytes) (Src-F.Elem (Some span) head items)

closed_levels : (bytes : List ℕ) (os : List OpenTag) (items : List Src) (s : State) (own span name : Span) → map (element_of bytes) os ≡ s.opened → map (item_of bytes) items ≡ with_text s.items s.text → ◌≡◌ {A = Option Span} (Some own) (innermost os) → bytes_eq (at_span bytes own) (at_span bytes name) ≡ true
    → run_closed s.opened s (at_span bytes span) (at_span bytes name) ≡ Some (record { opened = map (element_of bytes) (closed span (record { opened = os; items = items })).opened; items = map (item_of bytes) (closed span (record { opened = os; items = items })).items; text = None; stage = s.stage })
closed_levels bytes [] items s own span name opened are is same = absurd (cc)
closed_levels bytes (o ∷ os) items s own span name opened are is same =
    let named : own ≡ o.head.name = ap (span_or own) is in
    let made : State = record { opened = map (element_of bytes) os; items = map (item_of bytes) o.before ++ element_item (at_span bytes o.head.span) (items_of (with_text s.items s.text)) (Some (at_span bytes span)) ∷ []; text = None; stage = s.stage } in
    ap (λ l. run_closed l s (at_span bytes span) (at_span bytes name)) (sym opened)
    ∙ ap (λ b. if b then Some made else None) (ap (λ n. bytes_eq (at_span bytes n) (at_span bytes name)) (sym named) ∙ same)
    ∙ ap (λ l. Some (record { opened = map (element_of bytes) os; items = l; text = None; stage = s.stage }))
    (ap (λ l. map (item_of bytes) o.before ++ element_item (at_span bytes o.head.span) (items_of l) (Some (at_span bytes span)) ∷ []) (sym are)
    ∙ ap (λ i. map (item_of bytes) o.before ++ i ∷ []) (sym (element_is bytes o.head items span)) ∙ sym (items_push bytes o.before (src.Elem (Some span) o.head items)))

pub closed_state : (bytes : List ℕ) (old mid new : Reader) (own span name : Span) → built new.tape ≡ closed span (built mid.tape) → new.text ≡ mid.text → new.stage ≡ mid.stage → mid.text ≡ None
    → map (item_of bytes) (built mid.tape).items ≡ with_text (map (item_of bytes) (built old.tape).items) (option_map (at_span bytes) old.text) → (built mid.tape).opened ≡ (built old.tape).opened → mid.stage ≡ old.stage
    → ◌≡◌ {A = Option Span} (Some own) (innermost (built mid.tape).opened) → bytes_eq (at_span bytes own) (at_span bytes name) ≡ true
    → run_closed (state_of bytes old).opened (state_of bytes old) (at_span bytes span) (at_span bytes name) ≡ Some (state_of bytes new)
closed_state bytes old mid new own span name is same_text same_stage none items opened stage inner same =
    closed_levels bytes (built mid.tape).opened (built mid.tape).items (state_of bytes old) own span name (ap (map (element_of bytes)) opened) items inner same
    ∙ ap (λ b. Some (record { opened = map (element_of bytes) b.opened; items = map (item_of bytes) b.items; text = None; stage = option_map stage_of old.stage })) (sym is)
    ∙ ap (λ t. Some (record { opened = map (element_of bytes) (built new.tape).opened; items = map (item_of bytes) (built new.tape).items; text = option_map (at_span bytes) t; stage = option_map stage_of old.stage })) (sym (same_text ∙ none))
    ∙ ap (λ g. Some (record { opened = map (element_of bytes) (built new.tape).opened; items = map (item_of bytes) (built new.tape).items; text = option_map (at_span bytes) new.text; stage = option_map stage_of g })) (sym (same_stage ∙ stage))
