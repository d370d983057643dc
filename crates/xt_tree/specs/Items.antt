-- Which item an item that is come by in a row is.
--
--   head_in   the tag
--   item_in   the item
use Rattle.xt_tree.specs.declared.source.Tag.{Tag}
use Rattle.xt_tree.specs.declared.source.Src.{Src}
use Rattle.xt_tree.specs.declared.source.Src.TheVariants as src
use Rattle.xt_tree.specs.declared.row.Head.{Head}
use Rattle.xt_tree.specs.declared.row.Item.{Item}
use Rattle.xt_tree.specs.declared.row.Item.TheVariants.{Elem, Text, Ref, Comment, Pi, Gap}

abbrev pub head_in : Head → Tag
head_in head = record { name = head.name; attrs = head.attrs; span = head.span; empty = head.empty }

abbrev pub item_in : Item → Src
item_in (Elem head kids tail) = src.Elem tail (head_in head) kids
item_in (Text span) = src.Text span
item_in (Ref span) = src.Ref span
item_in (Comment span) = src.Comment span
item_in (Pi span) = src.Pi span
item_in (Gap span) = src.Gap span
