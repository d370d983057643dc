-- Lines and columns of a text, as an editor counts them; of this project. A text is the list of its bytes. A line ends where XML
-- reads a line end (XML 1.0, 2.11): at CR LF, at another LF, and at another CR.
--
--   line_of            the line in which a text ends, from 1
--   last_line          what of a text whose line ends are read stands behind the last of them
--   begins_character   whether a byte of UTF-8 begins a character (RFC 3629, section 3)
--   column_of          the column at which a text ends, in characters from 1
--
-- of its own steps:
--
--   ends_line          whether a line ends with a byte, right behind a CR or not
--   fills_column       whether a byte that ends no line begins a character of one
--   Reached            line and column of what was read of a text, and its rest
use Rattle.std.specs.Prelude.{◌≡◌, ℕ, ◌+◌, Bool, not, ◌&&◌, ◌||◌, ◌==◌, List, ◌++◌, reverse, count_by}
use Rattle.std.specs.List.{take_while}
use Rattle.xt_spec.specs.Char.{is_within}
use Rattle.xt_spec.specs.LineEnds.{lines_read, lines_read_behind}

abbrev pub is_line_end : ℕ → Bool
is_line_end b = b == 0xA

abbrev pub line_of : List ℕ → ℕ
line_of text = 1 + count_by is_line_end (lines_read text)

abbrev pub last_line : List ℕ → List ℕ
last_line lines = reverse (take_while (λ b. not (is_line_end b)) (reverse lines))

-- .. it is none of 80 to BF
abbrev pub begins_character : ℕ → Bool
begins_character b = not (is_within 0x80 0xBF b)

abbrev pub column_of : List ℕ → ℕ
column_of text = 1 + count_by begins_character (last_line (lines_read text))

abbrev pub ends_line : Bool → ℕ → Bool
ends_line cr b = b == 0xD || (b == 0xA && not cr)

abbrev pub fills_column : ℕ → Bool
fills_column b = not (b == 0xA) && begins_character b

-- this line and column are those behind the lines that were read of the text; right behind a CR or not, the rest is to be read
pub record Reached (text rest : List ℕ) (cr : Bool) (line column : ℕ) : Type 0 where
  pub lines : List ℕ
  pub are : lines_read text ≡ lines ++ lines_read_behind cr rest
  pub line_is : line ≡ 1 + count_by is_line_end lines
  pub column_is : column ≡ 1 + count_by begins_character (last_line lines)
