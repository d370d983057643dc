-- How many tags and leaves there are, by which a walk down a tree ends.
use Rattle.std.proofs.Common.{◌≡◌, ◌∙◌, ◌<◌, ◌≤◌, ◌++◌, List, ◌∷◌, length, ap, arith, length-append, Option}
use Rattle.xt_lex.specs.declared.token.Span.{Span}
use Rattle.xt_tree.specs.declared.source.Tag.{Tag}
use Rattle.xt_tree.specs.declared.source.Src.{Src}
use Rattle.xt_tree.specs.declared.source.Src.TheVariants as src
use Rattle.xt_tree.specs.Places.{tag_mark, marks_in, marks_of, tail_marks}
use Rattle.xt_tree.proofs.ItemPlaces.{element_marks}

-- what an element holds has fewer
pub kids_fewer : (item : Src) (head : Tag) (kids : List Src) (tail : Option Span) → item ≡ src.Elem tail head kids → length (marks_of kids) < length (marks_in item)
kids_fewer item head kids tail is =
    let whole = ap length (ap marks_in is ∙ element_marks head kids tail) in
    omega (arith, whole, length-append (marks_of kids) (tail_marks tail))

-- an item has no more than those that it stands in front of, and those behind it no more either
pub item_fewer : (items rest : List Src) (item : Src) → items ≡ item ∷ rest → (length (marks_in item) ≤ length (marks_of items)) × (length (marks_of rest) ≤ length (marks_of items))
item_fewer items rest item is =
    let both = ap (λ (l : List Src). length (marks_of l)) is in
    (omega (arith, both, length-append (marks_in item) (marks_of rest)), omega (arith, both, length-append (marks_in item) (marks_of rest)))
