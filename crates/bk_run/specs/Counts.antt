-- How many steps commands take; of this project.
--
--   size_of     bytes of a file; 0 where there is none
--   steps_of    steps of one command, which had this reply and left this session
--   all_steps   .. of commands in a row
use Rattle.std.specs.Prelude.{ℕ, ◌+◌, List, [], ◌∷◌, length, if◌then◌else◌, Option, None, Some}
use Rattle.ed_spec.specs.Session.{Command, edit, undo, redo, burst, Step}
use Rattle.bk_run.specs.Replies.{is_refusal}

abbrev pub size_of : Option (List ℕ) → ℕ
size_of None = 0
size_of (Some bytes) = length bytes

-- one a byte of the root that an edit made, which is read again; none for a refused edit, nor for any other command
abbrev pub steps_of : List ℕ → Command → Step → ℕ
steps_of root (edit made) step = if is_refusal step.reply then 0 else size_of (step.session.book root)
steps_of root undo step = 0
steps_of root redo step = 0
steps_of root burst step = 0

-- each command with its own reply
abbrev pub all_steps : List ℕ → List Command → List Step → ℕ
all_steps root [] steps = 0
all_steps root (command ∷ commands) [] = 0
all_steps root (command ∷ commands) (step ∷ steps) = steps_of root command step + all_steps root commands steps
