-- A session in which each command has a reply; of this project.
--
--   IsRootEdit     a book whose root opens, and that differs from another in its root at most
--   AreRootEdits   books in a row
--   HasOpenBooks   a session of such books
use Rattle.std.specs.Prelude.{◌≡◌, ◌≢◌, ℕ, List, [], ◌∷◌}
use Rattle.xt_spec.specs.Tree.{Items}
use Rattle.ed_spec.specs.Book.{Book, Opens}
use Rattle.ed_spec.specs.Session.{Session}

pub record IsRootEdit (root : List ℕ) (saved book : Book) : Type 0 where
  pub opens : (bytes : List ℕ) × (items : Items) × Opens root book bytes items
  pub others : (name : List ℕ) → name ≢ root → book name ≡ saved name

abbrev pub AreRootEdits : List ℕ → Book → List Book → Type 0
AreRootEdits root saved [] = Unit {0}
AreRootEdits root saved (book ∷ books) = IsRootEdit root saved book × AreRootEdits root saved books

-- the book as edited, and each to go back or forth to, is the one last saved but for its root
pub record HasOpenBooks (root : List ℕ) (s : Session) : Type 0 where
  pub book : IsRootEdit root s.saved s.book
  pub past : AreRootEdits root s.saved s.past
  pub future : AreRootEdits root s.saved s.future
