-- What is told of each command of a script; of this project. Each line ends in LF.
--
--   IsCommandOf     what a command of a script asks of the session
--   AreCommandsOf   the commands of a script, as those of the session
--   reply_text      the line that is told of a command
--   replies_text    those of commands in a row
--   is_refusal      the line begins with `refused`
--   any_refused     one of them does
--   reply_of        the reply that one of the code is
use Rattle.std.specs.Prelude.{◌≡◌, ℕ, List, [], ◌∷◌, ◌++◌, Bool, true, false, ◌||◌, codes}
use Rattle.std.specs.Str.{chars}
use Rattle.std.specs.Fmt.{decimal}
use Rattle.bk_script.specs.Command as script
use Rattle.ed_session.specs.Edits.{refusal_of}
use Rattle.bk_run.specs.declared.replies.Reply.{Reply as ReplyOfCode}
use Rattle.bk_run.specs.declared.replies.Reply.TheVariants as code
use Rattle.ed_spec.specs.Edit.{text_edit, Refusal, no_such_place, wrong_kind, bad_range, bad_text, too_large}
use Rattle.ed_spec.specs.Session.{Command, edit, undo, redo, burst, Reply, done, refused, nothing_to_undo, nothing_to_redo, saved_files, Step}

-- what a command of a script asks of the session, where its place has no `^`; one that changes nothing, or isn't there yet,
-- asks nothing of it
abbrev pub IsCommandOf : script.Command → Command → Type 0
IsCommandOf (script.edit_text place from to value) command = (place.carets ≡ 0) × (command ≡ edit (text_edit place.numbers from to (chars value)))
IsCommandOf script.undo command = command ≡ undo
IsCommandOf script.redo command = command ≡ redo
IsCommandOf script.burst command = command ≡ burst
IsCommandOf _ command = ⊥

abbrev pub AreCommandsOf : List script.Command → List Command → Type 0
AreCommandsOf [] commands = commands ≡ []
AreCommandsOf (first ∷ others) [] = ⊥
AreCommandsOf (first ∷ others) (command ∷ commands) = IsCommandOf first command × AreCommandsOf others commands

abbrev pub refusal_name : Refusal → List ℕ
refusal_name no_such_place = codes "NoSuchPlace"
refusal_name wrong_kind = codes "WrongKind"
refusal_name bad_range = codes "BadRange"
refusal_name bad_text = codes "BadText"
refusal_name too_large = codes "TooLarge"

abbrev pub reply_text : Reply → List ℕ
reply_text done = codes "ok\n"
reply_text (refused refusal) = codes "refused " ++ refusal_name refusal ++ codes "\n"
reply_text nothing_to_undo = codes "refused NothingToUndo\n"
reply_text nothing_to_redo = codes "refused NothingToRedo\n"
reply_text (saved_files count) = codes "burst " ++ decimal count ++ codes "\n"

abbrev pub replies_text : List Step → List ℕ
replies_text [] = []
replies_text (step ∷ steps) = reply_text step.reply ++ replies_text steps

abbrev pub is_refusal : Reply → Bool
is_refusal done = false
is_refusal (refused refusal) = true
is_refusal nothing_to_undo = true
is_refusal nothing_to_redo = true
is_refusal (saved_files count) = false

-- some command was refused
abbrev pub any_refused : List Step → Bool
any_refused [] = false
any_refused (step ∷ steps) = is_refusal step.reply || any_refused steps

-- the reply that one of the code is
abbrev pub reply_of : ReplyOfCode → Reply
reply_of code.Done = done
reply_of (code.Refused refusal) = refused (refusal_of refusal)
reply_of (code.Saved count) = saved_files count
