-- The entry and the item of a leaf.
use Rattle.xt_lex.specs.declared.token.Span.{Span}
use Rattle.xt_tree.specs.declared.source.Src.{Src}
use Rattle.xt_tree.specs.declared.source.Src.TheVariants as src
use Rattle.xt_tree.specs.declared.entry.Entry.{Entry}
use Rattle.xt_tree.specs.declared.entry.Entry.TheVariants as entry
use Rattle.xt_tree.specs.declared.building.Leaf.{Leaf}
use Rattle.xt_tree.specs.declared.building.Leaf.TheVariants.{Text, Ref, Comment, Pi, Gap}

abbrev pub leaf_entry : Leaf → Span → Entry
leaf_entry Text s = entry.Text s.from s.to
leaf_entry Ref s = entry.Ref s.from s.to
leaf_entry Comment s = entry.Comment s.from s.to
leaf_entry Pi s = entry.Pi s.from s.to
leaf_entry Gap s = entry.Gap s.from s.to

abbrev pub leaf_item : Leaf → Span → Src
leaf_item Text s = src.Text s
leaf_item Ref s = src.Ref s
leaf_item Comment s = src.Comment s
leaf_item Pi s = src.Pi s
leaf_item Gap s = src.Gap s
