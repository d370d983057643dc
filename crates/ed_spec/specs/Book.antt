-- A book: the bytes of the file under each name, where there is one; of this project. How its root opens.
--
--   Book        the files
--   with_file   the book with other bytes in a file
--   Opens       the root is there, opens, and reads as these items
use Rattle.std.specs.Prelude.{◌≡◌, ℕ, List, nat_eq, if◌then◌else◌, Option, Some}
use Rattle.std.specs.Cmp.Lexicographic.{pointwise}
use Rattle.xt_spec.specs.Tree.{Items}
use Rattle.bk_spec.specs.Node.{Nodes}
use Rattle.bk_spec.specs.Opening.{IsOpen}

abbrev pub Book : Type 0
Book = List ℕ → Option (List ℕ)

-- the book in which the file of this name has these bytes
abbrev pub with_file : List ℕ → List ℕ → Book → Book
with_file name bytes book other = if pointwise nat_eq name other then Some bytes else book other

-- the root opens, has these bytes and reads as these items
pub record Opens (root : List ℕ) (book : Book) (bytes : List ℕ) (items : Items) : Type 0 where
  pub found : book root ≡ Some bytes
  pub nodes : Nodes
  pub opens : IsOpen root bytes items nodes
