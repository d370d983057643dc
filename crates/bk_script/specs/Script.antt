-- A script: its lines, and its commands or its fault; of this project. Bytes, lines and commands are counted.
--
--   IsSplit    the bytes are these lines, with their ends
--   IsLine     what one line counts: no command, or one that is built
--   AreRead    what some lines count together
--   IsScript   the bytes are a script of these commands
--   ScriptFault  the faults
--   IsFaultOf  the bytes have this fault
use Rattle.std.specs.Prelude.{◌≡◌, ℕ, ◌+◌, ◌<◌, ◌≤◌, Bool, true, false, not, ◌==◌, IsTrue, List, [], ◌∷◌, ◌++◌, ◌⊎◌, length, Option, Some, None, IsUtf8}
use Rattle.std.specs.List.{list_all}
use Rattle.xt_spec.specs.Limit.{most_commands, most_script_bytes}
use Rattle.bk_script.specs.Word.{IsBlank, AreSpelled}
use Rattle.bk_script.specs.Command.{Command, IsCommandLine, is_built}

abbrev pub is_no_lf : ℕ → Bool
is_no_lf b = not (b == 0xA)

abbrev pub ends_in_cr : List ℕ → Bool
ends_in_cr [] = false
ends_in_cr (b ∷ []) = b == 0xD
ends_in_cr (b ∷ next ∷ bytes) = ends_in_cr (next ∷ bytes)

-- a line with its end: an LF, and a CR right before the LF belongs to the end
abbrev pub IsEndedLine : List ℕ → List ℕ → Type 0
IsEndedLine text line =
    IsTrue (list_all is_no_lf line)
    × ((text ≡ line ++ 0xD ∷ 0xA ∷ []) ⊎ ((ends_in_cr line ≡ false) × (text ≡ line ++ 0xA ∷ [])))

-- the lines of the bytes without their ends; the last one is what no LF follows, and may be empty
abbrev pub IsSplit : List ℕ → List (List ℕ) → Type 0
IsSplit bytes lines =
    (front last : List ℕ) × (ended : List (List ℕ)) × AreSpelled IsEndedLine front ended × IsTrue (list_all is_no_lf last)
    × (bytes ≡ front ++ last) × (lines ≡ ended ++ last ∷ [])

-- a line whose first character other than a space is `#`
abbrev pub IsComment : List ℕ → Type 0
IsComment text = (before rest : List ℕ) × IsBlank before × (text ≡ before ++ 0x23 ∷ rest)

-- what a line counts: none where it is of spaces only or a comment, else its command, which has to be built
abbrev pub IsLine : List ℕ → Option Command → Type 0
IsLine text None = IsUtf8 text × (IsBlank text ⊎ IsComment text)
IsLine text (Some command) = IsUtf8 text × IsCommandLine text command × (is_built command ≡ true)

abbrev pub joined : Option Command → List Command → List Command
joined None commands = commands
joined (Some command) commands = command ∷ commands

-- what the lines count together, in order
abbrev pub AreRead : List (List ℕ) → List Command → Type 0
AreRead [] commands = commands ≡ []
AreRead (line ∷ lines) commands =
    (found : Option Command) × (others : List Command) × IsLine line found × AreRead lines others × (commands ≡ joined found others)

-- a script of these commands: at most 1,048,576 bytes, and at most 4,096 commands
pub record IsScript (bytes : List ℕ) (commands : List Command) : Type 0 where
  pub lines : List (List ℕ)
  pub split : IsSplit bytes lines
  pub read : AreRead lines commands
  pub size : length bytes ≤ most_script_bytes
  pub count : length commands ≤ most_commands

-- of bytes that are not too many: the line, those before it and behind it, and the commands of those before it, of
-- which there are not too many
pub record IsReadTo (bytes : List ℕ) (before : List (List ℕ)) (line : List ℕ) (commands : List Command) : Type 0 where
  pub behind : List (List ℕ)
  pub split : IsSplit bytes (before ++ line ∷ behind)
  pub read : AreRead before commands
  pub size : length bytes ≤ most_script_bytes
  pub count : length commands ≤ most_commands

-- why bytes are no script: they are too many; a line has no reading, by its number from 1; the commands are too many
pub data ScriptFault : Type 0 where
  too_long : ScriptFault
  bad_line : (number : ℕ) → ScriptFault
  too_many : ScriptFault

-- too_long: more than 1,048,576 bytes. bad_line: the first line that isn't UTF-8, has no reading or whose command isn't
-- built. too_many: the line with the 4,097th command. Of the last two the one that comes first.
abbrev pub IsFaultOf : List ℕ → ScriptFault → Type 0
IsFaultOf bytes too_long = most_script_bytes < length bytes
IsFaultOf bytes (bad_line number) =
    (before : List (List ℕ)) × (line : List ℕ) × (commands : List Command) × IsReadTo bytes before line commands
    × ((found : Option Command) → ¬ IsLine line found) × (number ≡ length before + 1)
IsFaultOf bytes too_many =
    (before : List (List ℕ)) × (line : List ℕ) × (commands : List Command) × IsReadTo bytes before line commands
    × (length commands ≡ most_commands) × ((command : Command) × IsLine line (Some command))
