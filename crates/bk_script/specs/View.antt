-- What the types of the code mean.
use Rattle.std.specs.Prelude.{ℕ, List, Option, Some, None}
use Rattle.bk_script.specs.Word.{Place}
use Rattle.bk_script.specs.Command as spec
use Rattle.bk_script.specs.Script.{ScriptFault, too_long, bad_line, too_many}
use Rattle.bk_script.specs.declared.command.Command.{Command}
use Rattle.bk_script.specs.declared.command.Command.TheVariants as command
use Rattle.ed_edit.specs.declared.edit.Edit.{Edit}
use Rattle.ed_edit.specs.declared.edit.Edit.TheVariants.{Text}
use Rattle.bk_script.specs.declared.script.ScriptFault as code
use Rattle.bk_script.specs.declared.script.ScriptFault.TheVariants.{Long, BadLine, Many, NoMemory}

-- a place without `^`
abbrev pub place_from : List ℕ → Place
place_from numbers = record { numbers = numbers; carets = 0 }

-- the command that asks for an edit
abbrev pub edit_command : Edit → spec.Command
edit_command (Text place from to value) = spec.edit_text (place_from place) from to value

-- the command of a script that a command of the code is
abbrev pub command_of : Command → spec.Command
command_of (command.Edit edit) = edit_command edit
command_of command.Burst = spec.burst

-- the fault that an answer of the code is; none where memory ran out
abbrev pub script_fault : code.ScriptFault → Option ScriptFault
script_fault Long = Some too_long
script_fault (BadLine number) = Some (bad_line number)
script_fault Many = Some too_many
script_fault NoMemory = None
