-- A syntax item by itself: whether it gives a node. How many items stand side by side. Of this project,
-- over the trees of `xt_spec`.
--
--   gives_node_item  whether the item gives a node
--   IsChild          the item of a list that gives the node of a number, and what it holds
--   item_count       how many items stand side by side
--   AreNarrowWithin  no more than so many in each element among the items
--   IsNarrow         .. and among the items themselves
use Rattle.std.specs.Prelude.{◌≡◌, ℕ, ◌≤◌, suc, List, Bool, true, Some}
use Rattle.xt_spec.specs.Tree.{Item, element_item, leaf_item, Items, nil, element, leaf}
use Rattle.bk_spec.specs.NodePaths.{gives_node}
use Rattle.ed_spec.specs.Place.{index_of, content_of}
use Rattle.xt_tree.specs.declared.source.Src.{Src}
use Rattle.xt_tree.specs.Meaning.{items_in}

abbrev pub gives_node_item : Item → Bool
gives_node_item (element_item open_tag kids close) = true
gives_node_item (leaf_item kind text) = gives_node kind text

-- the item of this index gives the node of this number, and holds these items
pub record IsChild (bytes : List ℕ) (level : List Src) (number index : ℕ) (held : List Src) : Type 0 where
  pub found : index_of (items_in bytes level) number ≡ Some index
  pub holds : content_of (items_in bytes level) index ≡ items_in bytes held

abbrev pub item_count : Items → ℕ
item_count nil = 0
item_count (element open_tag kids close rest) = suc (item_count rest)
item_count (leaf kind text rest) = suc (item_count rest)

-- .. in each element among the items
abbrev pub AreNarrowWithin : ℕ → Items → Type 0
AreNarrowWithin most nil = Unit {0}
AreNarrowWithin most (leaf kind text rest) = AreNarrowWithin most rest
AreNarrowWithin most (element open_tag kids close rest) = (item_count kids ≤ most) × AreNarrowWithin most kids × AreNarrowWithin most rest

abbrev pub IsNarrow : ℕ → Items → Type 0
IsNarrow most items = (item_count items ≤ most) × AreNarrowWithin most items
