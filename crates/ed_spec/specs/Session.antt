-- A session: the book as edited, the book last saved, and the books to go back and forth to; of this project.
--
--   Session          what a session keeps
--   Command          what it is told to do
--   Reply            what it answers
--   AreDifferences   the names of the files in which two books differ
--   Does             a command, in one session, gives this answer and the next session
--   DoesAll          commands, the first of them first
use Rattle.std.specs.Prelude.{◌≡◌, ◌≢◌, ℕ, List, [], ◌∷◌, length, true, IsTrue, bytes_eq}
use Rattle.std.specs.List.{list_any}
use Rattle.xt_spec.specs.Reading.{are_distinct}
use Rattle.ed_spec.specs.Book.{Book}
use Rattle.ed_spec.specs.Edit.{Edit, Refusal, RefusesIn, AcceptsIn}

-- past and future have the book that was left last first; kept has the names asked by the opening, and those made since
pub record Session : Type 0 where
  pub book : Book
  pub saved : Book
  pub past : List Book
  pub future : List Book
  pub kept : List (List ℕ)

-- a session in which nothing was done
abbrev pub opened : List ℕ → Book → Session
opened root book = record { book = book; saved = book; past = []; future = []; kept = root ∷ [] }

-- tree and owner tell of the book, and change nothing
pub data Command : Type 0 where
  edit : Edit → Command
  undo : Command
  redo : Command
  burst : Command

pub data Reply : Type 0 where
  done : Reply
  refused : Refusal → Reply
  nothing_to_undo : Reply
  nothing_to_redo : Reply
  saved_files : (count : ℕ) → Reply

-- exactly at these names the books differ
pub record AreDifferences (a b : Book) (names : List (List ℕ)) : Type 0 where
  pub distinct : IsTrue (are_distinct names)
  pub only : (name : List ℕ) → list_any (bytes_eq name) names ≡ true → a name ≢ b name
  pub all : (name : List ℕ) → a name ≢ b name → list_any (bytes_eq name) names ≡ true

-- after an edit that was accepted
abbrev pub after_edit : Session → Book → Session
after_edit s next = record { book = next; saved = s.saved; past = s.book ∷ s.past; future = []; kept = s.kept }

-- after the way back to this book, with these left to go back to
abbrev pub after_undo : Session → Book → List Book → Session
after_undo s book past = record { book = book; saved = s.saved; past = past; future = s.book ∷ s.future; kept = s.kept }

abbrev pub after_redo : Session → Book → List Book → Session
after_redo s book future = record { book = book; saved = s.saved; past = s.book ∷ s.past; future = future; kept = s.kept }

-- after the files were saved
abbrev pub after_burst : Session → Session
after_burst s = record { book = s.book; saved = s.book; past = s.past; future = s.future; kept = s.kept }

pub data Does (root : List ℕ) (s : Session) : Command → Reply → Session → Type 0 where
  accepts : (e : Edit) (next : Book) → AcceptsIn root s.book e next → Does root s (edit e) done (after_edit s next)
  refuses : (e : Edit) (refusal : Refusal) → RefusesIn root s.book e refusal → Does root s (edit e) (refused refusal) s
  undoes : (book : Book) (past : List Book) → s.past ≡ book ∷ past → Does root s undo done (after_undo s book past)
  undoes_nothing : s.past ≡ [] → Does root s undo nothing_to_undo s
  redoes : (book : Book) (future : List Book) → s.future ≡ book ∷ future → Does root s redo done (after_redo s book future)
  redoes_nothing : s.future ≡ [] → Does root s redo nothing_to_redo s
  saves : (names : List (List ℕ)) → AreDifferences s.book s.saved names → Does root s burst (saved_files (length names)) (after_burst s)

-- what was answered, and the session afterwards
pub record Step : Type 0 where
  pub reply : Reply
  pub session : Session

pub data DoesAll (root : List ℕ) : Session → List Command → List Step → Session → Type 0 where
  nothing : (s : Session) → DoesAll root s [] [] s
  then : (s next last : Session) (command : Command) (commands : List Command) (reply : Reply) (steps : List Step) → Does root s command reply next
      → DoesAll root next commands steps last → DoesAll root s (command ∷ commands) (record { reply = reply; session = next } ∷ steps) last
