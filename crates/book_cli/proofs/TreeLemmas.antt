-- The tree that is told is that of the book.
use Rattle.std.proofs.Common.{◌≡◌, ◌∙◌, ℕ, List, subst}
use Rattle.ed_spec.specs.Book.{Book}
use Rattle.bk_desk.specs.Disk.{DiskState, CrashState}
use Rattle.book_cli.specs.Output.{IsTree}
use Rattle.book_cli.specs.Ends.{IsToldWith}
use Rattle.book_cli.proofs.OutputLemmas.{tree_once}

-- a root has one tree
pub tree_told : (root : List ℕ) (book : Book) (status code : ℕ) (text view tree : List ℕ) (old new : DiskState) (points : (CrashState → Type 0) → Type 0) (answer : ℕ) → status ≡ code → view ≡ text
    → IsTree root book text → IsTree root book tree → IsToldWith status view old new points answer → IsToldWith code tree old new points answer
tree_told root book status code text view tree old new points answer same viewed one other told =
    subst (λ (s : ℕ). IsToldWith s tree old new points answer) same
    (subst (λ (l : List ℕ). IsToldWith status l old new points answer) (viewed ∙ tree_once root book text tree one other) told)
