-- Which syntax item an item of the code is, in the bytes of its file.
--
--   at_span   the text at a span
--   item_of   the item
--   items_in  the items of a list
use Rattle.std.specs.Prelude.{ℕ, List, map, option_map, slice_range}
use Rattle.xt_spec.specs.Tree.{Item, element_item, leaf_item, Items, items_of, text_item, reference_item, comment_item, pi_item, gap}
use Rattle.xt_lex.specs.declared.token.Span.{Span}
use Rattle.xt_tree.specs.declared.source.Src.{Src}
use Rattle.xt_tree.specs.declared.source.Src.TheOpen.{Src-F, Elem, Text, Ref, Comment, Pi, Gap}
use Rattle.xt_tree.specs.declared.source.Src.TheFolds.{fold-Src}

-- the bytes at a span, as far as there are any
abbrev pub at_span : List ℕ → Span → List ℕ
at_span bytes span = slice_range bytes span.from span.to

-- one item, with the items of the model in the place of those that it holds
abbrev pub item_step : List ℕ → Src-F Item → Item
item_step bytes (Elem tail head kids) = element_item (at_span bytes head.span) (items_of kids) (option_map (at_span bytes) tail)
item_step bytes (Text span) = leaf_item text_item (at_span bytes span)
item_step bytes (Ref span) = leaf_item reference_item (at_span bytes span)
item_step bytes (Comment span) = leaf_item comment_item (at_span bytes span)
item_step bytes (Pi span) = leaf_item pi_item (at_span bytes span)
item_step bytes (Gap span) = leaf_item gap (at_span bytes span)

abbrev pub item_of : List ℕ → Src → Item
item_of bytes = fold-Src Item (item_step bytes)

abbrev pub items_in : List ℕ → List Src → Items
items_in bytes items = items_of (map (item_of bytes) items)
