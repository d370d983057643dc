-- What the steps of a session make of the book, one by one; of this project.
--
--   SetsOneText     two books that open: their nodes differ in one text, their files in the bytes of its item
--   IsLocalEdit     .. as an edit asks for
--   IsLocalStep     a command made one such edit, took one back, or left the book as it was
--   AreLocalSteps   commands in a row
use Rattle.std.specs.Prelude.{◌≡◌, ◌≢◌, ℕ, List, [], ◌∷◌, Some, encode_utf8_all}
use Rattle.xt_spec.specs.Tree.{Items, source_text}
use Rattle.bk_spec.specs.Node.{Nodes}
use Rattle.bk_spec.specs.Opening.{IsOpen}
use Rattle.ed_spec.specs.Book.{Book}
use Rattle.ed_spec.specs.Place.{text_set}
use Rattle.ed_spec.specs.Edit.{Edit, text_edit, range_replaced}
use Rattle.ed_spec.specs.Session.{Command, edit, undo, redo, Reply, done, Step}
use Rattle.ed_laws.specs.Bytes.{ChangesOneText}

-- The root opens in both books. The text at the place has the new value in the nodes, or is gone where that is empty, and
-- the other nodes are as before; in the root the bytes of that text's item give way; no other file differs.
pub record SetsOneText (root : List ℕ) (book next : Book) (place : List ℕ) (from to : ℕ) (new : List ℕ) : Type 0 where
  pub items : Items
  pub others : Items
  pub nodes : Nodes
  pub before : book root ≡ Some (source_text items)
  pub opens : IsOpen root (source_text items) items nodes
  pub after : next root ≡ Some (source_text others)
  pub changes : ChangesOneText items others place from to new
  pub opens_next : IsOpen root (source_text others) others (text_set nodes place (encode_utf8_all (range_replaced changes.characters from to new)))
  pub same : (name : List ℕ) → name ≢ root → next name ≡ book name

-- the edit leads from the one book to the other so
abbrev pub IsLocalEdit : List ℕ → Edit → Book → Book → Type 0
IsLocalEdit root (text_edit place from to new) book next = SetsOneText root book next place from to new

-- An edit that was accepted is local; undo takes a local edit back, and redo makes one again; any other reply, and a save,
-- leaves the book as edited as it was.
abbrev pub IsLocalStep : List ℕ → Book → Command → Reply → Book → Type 0
IsLocalStep root book (edit e) done next = IsLocalEdit root e book next
IsLocalStep root book undo done next = (e : Edit) × IsLocalEdit root e next book
IsLocalStep root book redo done next = (e : Edit) × IsLocalEdit root e book next
IsLocalStep root book _ _ next = next ≡ book

-- .. each from the book that the one before it left, as far as there are steps
abbrev pub AreLocalSteps : List ℕ → Book → List Command → List Step → Type 0
AreLocalSteps root book commands [] = Unit {0}
AreLocalSteps root book [] (step ∷ steps) = ⊥
AreLocalSteps root book (command ∷ commands) (step ∷ steps) = IsLocalStep root book command step.reply step.session.book × AreLocalSteps root step.session.book commands steps
