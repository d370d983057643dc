-- Each command has a reply, where the books of the session open.
use Rattle.std.proofs.Common.{◌≡◌, ◌≢◌, ◌∙◌, ℕ, List, [], ◌∷◌, Bool, true, false, Some, None, Option, length, refl, sym, ap, bytes_eq, ◌⊎◌, inl, inr, ⊎_elim}
use Rattle.std.specs.Cmp.Lexicographic.{bytes_decides}
use Rattle.xt_spec.specs.Tree.{Items, source_text}
use Rattle.ed_spec.specs.Book.{Book, with_file, Opens}
use Rattle.ed_spec.specs.Edit.{Edit, Accepts}
use Rattle.ed_spec.specs.Session.{Session, opened, Command, edit, undo, redo, burst, Reply, done, refused, nothing_to_undo, nothing_to_redo, saved_files, AreDifferences, after_edit, after_undo, after_redo, after_burst, Step, Does, accepts, refuses, undoes, undoes_nothing, redoes, redoes_nothing, saves, DoesAll, nothing, then}
use Rattle.ed_laws.specs.Outcome as outcome
use Rattle.ed_laws.specs.Outcome.{Outcome, HasOutcome}
use Rattle.ed_laws.proofs.Theorems.{has_an_outcome, an_edited_document_opens}
use Rattle.bk_run.specs.Runs.{IsRootEdit, AreRootEdits, HasOpenBooks}
use Rattle.bk_run.proofs.DoingLemmas.{file_there, other_file, none_differ, names_root, all_same}

-- ---- books

edits_in : (root : List ℕ) (saved now : Book) (books : List Book) → ((name : List ℕ) → name ≢ root → saved name ≡ now name) → AreRootEdits root saved books → AreRootEdits root now books
edits_in root saved now [] same are = tt
edits_in root saved now (book ∷ books) same (is, are) = (record { opens = is.opens; others = λ name apart. is.others name apart ∙ same name apart }, edits_in root saved now books same are)

edited_book : (root : List ℕ) (saved book : Book) (bytes : List ℕ) (items others : Items) (e : Edit) → IsRootEdit root saved book → Opens root book bytes items → Accepts items e others → IsRootEdit root saved (with_file root (source_text others) book)
edited_book root saved book bytes items others e is opens gives = let next = an_edited_document_opens root bytes items others opens.nodes e opens.opens gives in record {
  opens = (source_text others, others, record { found = file_there root (source_text others) book; nodes = next.0; opens = next.1 });
  others = λ name apart. other_file root name (source_text others) book apart ∙ is.others name apart;
}

-- two files are the same, or they aren't
decide : (a b : Option (List ℕ)) → (a ≡ b) ⊎ (a ≢ b)
decide None None = inl refl
decide None (Some b) = inr (λ e. cc)
decide (Some a) None = inr (λ e. cc)
decide (Some a) (Some b) = by (bytes_eq a b) refl
  where
    by : (same : Bool) → bytes_eq a b ≡ same → (Some a ≡ Some b) ⊎ (Some a ≢ Some b)
    by true e = inl (ap (λ (l : List ℕ). Some l) ((bytes_decides a b).0 e))
    by false e = inr (λ same.
        let is : a ≡ b = cc in
        let bad : true ≡ false = sym ((bytes_decides a b).1 is) ∙ e in
        cc)

differences : (root : List ℕ) (saved book : Book) → ((name : List ℕ) → name ≢ root → book name ≡ saved name) → (names : List (List ℕ)) × AreDifferences book saved names
differences root saved book others = ⊎_elim same other (decide (book root) (saved root))
  where
    same : book root ≡ saved root → (names : List (List ℕ)) × AreDifferences book saved names
    same e = ([], none_differ book saved (all_same root book saved e others))

    other : book root ≢ saved root → (names : List (List ℕ)) × AreDifferences book saved names
    other e = (root ∷ [], names_root book saved root e others)

-- ---- commands

record IsAnswered (root : List ℕ) (s : Session) (command : Command) : Type 0 where
  reply : Reply
  next : Session
  does : Does root s command reply next
  books : HasOpenBooks root next

undone : (root : List ℕ) (s : Session) → HasOpenBooks root s → (past : List Book) → s.past ≡ past → AreRootEdits root s.saved past → IsAnswered root s undo
undone root s books [] e are = record { reply = nothing_to_undo; next = s; does = undoes_nothing e; books = books }
undone root s books (book ∷ past) e (is, are) = record {
  reply = done;
  next = after_undo s book past;
  does = undoes book past e;
  books = record { book = is; past = are; future = (books.book, books.future) };
}

redone : (root : List ℕ) (s : Session) → HasOpenBooks root s → (future : List Book) → s.future ≡ future → AreRootEdits root s.saved future → IsAnswered root s redo
redone root s books [] e are = record { reply = nothing_to_redo; next = s; does = redoes_nothing e; books = books }
redone root s books (book ∷ future) e (is, are) = record {
  reply = done;
  next = after_redo s book future;
  does = redoes book future e;
  books = record { book = is; past = (books.book, books.past); future = are };
}

answered : (root : List ℕ) (s : Session) (command : Command) → HasOpenBooks root s → IsAnswered root s command
answered root s (edit e) books =
    let (bytes, items, opens) = books.book.opens in
    let (outcome, has) = has_an_outcome root bytes items opens.nodes e opens.opens in
    by bytes items opens outcome has
  where
    by : (bytes : List ℕ) (items : Items) → Opens root s.book bytes items → (outcome : Outcome) → HasOutcome items e outcome → IsAnswered root s (edit e)
    by bytes items opens (outcome.refused refusal) has = record { reply = refused refusal; next = s; does = refuses e refusal (bytes, items, opens, has); books = books }
    by bytes items opens (outcome.gives others) has = record {
      reply = done;
      next = after_edit s (with_file root (source_text others) s.book);
      does = accepts e (with_file root (source_text others) s.book) (bytes, items, others, opens, has, refl);
      books = record { book = edited_book root s.saved s.book bytes items others e books.book opens has; past = (books.book, books.past); future = tt };
    }
answered root s undo books = undone root s books s.past refl books.past
answered root s redo books = redone root s books s.future refl books.future
answered root s burst books =
    let (names, differ) = differences root s.saved s.book books.book.others in
    let same = λ (name : List ℕ) (apart : name ≢ root). sym (books.book.others name apart) in
    record {
      reply = saved_files (length names);
      next = after_burst s;
      does = saves names differ;
      books = record { book = record { opens = books.book.opens; others = λ name apart. refl }; past = edits_in root s.saved s.book s.past same books.past; future = edits_in root s.saved s.book s.future same books.future };
    }

pub steps_exist : (root : List ℕ) (s : Session) (commands : List Command) → HasOpenBooks root s → (steps : List Step) × (last : Session) × DoesAll root s commands steps last × HasOpenBooks root last
steps_exist root s [] books = ([], s, nothing s, books)
steps_exist root s (command ∷ commands) books =
    let one = answered root s command books in
    let (steps, last, does, open_books) = steps_exist root one.next commands one.books in
    ((record { reply = one.reply; session = one.next }) ∷ steps, last, then s one.next last command commands one.reply steps one.does does, open_books)

pub opened_runs : (root bytes : List ℕ) (book : Book) (items : Items) (commands : List Command) → Opens root book bytes items → (steps : List Step) × (last : Session) × DoesAll root (opened root book) commands steps last × HasOpenBooks root last
opened_runs root bytes book items commands opens = steps_exist root (opened root book) commands record {
  book = record { opens = (bytes, items, opens); others = λ name apart. refl };
  past = tt;
  future = tt;
}
