-- What a session keeps of its root, as contracts see it; of this project.
--
--   Kept      the root's name, its bytes as edited, and as last saved
--   saved_of  the bytes last saved, of what the code keeps of them
--   kept      what contracts see of what the code keeps
--   Opens     the bytes open, and read as these items
--   IsMadeOf    nodes that were made of the items, each with its path and through no reference
--   IsOpenRoot  a root that opens: its tags and leaves stand in their places, and its nodes are these where they are kept
use Rattle.std.specs.Prelude.{◌≡◌, ℕ, ◌≤◌, List, [], length, Option, Some, None, Vec, IfSome}
use Rattle.std.specs.Global.{Global}
use Rattle.xt_spec.specs.Limit.{most_file_bytes}
use Rattle.xt_spec.specs.Tree.{Items}
use Rattle.bk_spec.specs.Node.{Nodes}
use Rattle.bk_spec.specs.NodePaths.{node_paths}
use Rattle.bk_spec.specs.Opening.{IsOpen}
use Rattle.bk_info.specs.declared.node.Node.{Node}
use Rattle.bk_info.specs.Nodes.{nodes_in}
use Rattle.bk_info.specs.Paths.{paths_in}
use Rattle.bk_info.specs.Vias.{HaveVia}
use Rattle.xt_tree.specs.declared.source.Src.{Src}
use Rattle.xt_tree.specs.Meaning.{items_in}
use Rattle.xt_tree.specs.Places.{marks_of, AreInPlace}

pub record Kept : Type 0 where
  pub root : List ℕ
  pub bytes : List ℕ
  pub saved : List ℕ

-- the bytes last saved: those that are there, where no edit came since
abbrev pub saved_of : Option (Vec ℕ Global) → List ℕ → List ℕ
saved_of None bytes = bytes
saved_of (Some saved) bytes = saved.items

abbrev pub kept : List ℕ → List ℕ → Option (Vec ℕ Global) → Kept
kept root bytes saved = record { root = root; bytes = bytes; saved = saved_of saved bytes }

-- the file of these bytes opens, and reads as these items
abbrev pub Opens : List ℕ → List ℕ → Items → Type 0
Opens root bytes items = (nodes : Nodes) × IsOpen root bytes items nodes

-- the nodes are those of the items, each has the path of its item, and came through no reference
pub record IsMadeOf (root bytes : List ℕ) (items : List Src) (nodes : List Node) : Type 0 where
  pub opens : IsOpen root bytes (items_in bytes items) (nodes_in nodes)
  pub paths : paths_in nodes ≡ node_paths [] 0 (items_in bytes items)
  pub via : HaveVia [] nodes

-- a file that a save may write, and its nodes where they are kept
pub record IsOpenRoot (root bytes : List ℕ) (items : List Src) (nodes : Option (List Node)) (saved : Option (Vec ℕ Global)) : Type 0 where
  pub opens : Opens root bytes (items_in bytes items)
  pub nodes_are : IfSome nodes (IsMadeOf root bytes items)
  pub place : AreInPlace bytes 0 (marks_of items) (length bytes)
  pub size : length (saved_of saved bytes) ≤ most_file_bytes
