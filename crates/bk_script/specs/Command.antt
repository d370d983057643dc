-- The commands of a script, each with the words that it is written as; of this project.
--
--   Command        what a line can ask for
--   words_of       the words of a command
--   IsCommandLine  the line's text is a command's
--   is_built       the program carries the command out; a line whose command it doesn't has no reading
use Rattle.std.specs.Prelude.{ℕ, Bool, true, false, ◌==◌, List, [], ◌∷◌, codes}
use Rattle.bk_script.specs.Word.{Place, Side, Word, letters, number, place, side, qname, string, file, AreWords}

-- values are UTF-8; numbers of a text's characters count from 0
pub data Command : Type 0 where
  edit_text : Place → ℕ → ℕ → List ℕ → Command
  put : Place → Side → List ℕ → Command
  attr : Place → List ℕ → List ℕ → Command
  drop_attr : Place → List ℕ → Command
  insert : Place → Side → List ℕ → Command
  insert_at : Place → ℕ → List ℕ → Command
  delete : Place → Command
  move : Place → Place → Side → Command
  extract : Place → List ℕ → Command
  inline : Place → Command
  undo : Command
  redo : Command
  burst : Command
  tree : Command
  owner : Place → Command

abbrev pub words_of : Command → List Word
words_of (edit_text p from to value) = letters (codes "text") ∷ place p ∷ number from ∷ number to ∷ string value ∷ []
words_of (put p s value) = letters (codes "put") ∷ place p ∷ side s ∷ string value ∷ []
words_of (attr p name value) = letters (codes "attr") ∷ place p ∷ qname name ∷ string value ∷ []
words_of (drop_attr p name) = letters (codes "drop-attr") ∷ place p ∷ qname name ∷ []
words_of (insert p s fragment) = letters (codes "insert") ∷ place p ∷ side s ∷ string fragment ∷ []
words_of (insert_at p n fragment) = letters (codes "insert") ∷ place p ∷ letters (codes "at") ∷ number n ∷ string fragment ∷ []
words_of (delete p) = letters (codes "delete") ∷ place p ∷ []
words_of (move p to s) = letters (codes "move") ∷ place p ∷ place to ∷ side s ∷ []
words_of (extract p name) = letters (codes "extract") ∷ place p ∷ file name ∷ []
words_of (inline p) = letters (codes "inline") ∷ place p ∷ []
words_of undo = letters (codes "undo") ∷ []
words_of redo = letters (codes "redo") ∷ []
words_of burst = letters (codes "burst") ∷ []
words_of tree = letters (codes "tree") ∷ []
words_of (owner p) = letters (codes "owner") ∷ place p ∷ []

-- the text of a line, without its end, is the command's
abbrev pub IsCommandLine : List ℕ → Command → Type 0
IsCommandLine text command = AreWords text (words_of command)

-- `text` at a place without `^`, and `burst`
abbrev pub is_built : Command → Bool
is_built (edit_text p from to value) = p.carets == 0
is_built burst = true
is_built _ = false
