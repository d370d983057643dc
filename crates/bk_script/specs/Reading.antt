-- Reading a script from left to right, the commands that are built; of this project. That it gives exactly what the
-- other modules say is `value` and `fault` of `read_script`, and its laws.
--
--   Gives         a reader answers what a definition gives, or memory ran out
--   parts_of      a step that is taken as often as it can be
--   command_at    the built command that a line's text is
--   lines_of      the lines of the bytes
--   lines_read    the commands of lines, or the first fault
use Rattle.std.specs.Prelude.{◌≡◌, ℕ, zero, suc, ◌+◌, ◌-◌, ◌*◌, List, [], ◌∷◌, ◌++◌, length, take, codes, bytes_eq, Bool, true, not, ◌&&◌, ◌==◌, nat_le, nat_lt, Option, Some, None, IfSome, Result, Ok, Err, if◌then◌else◌, encode_utf8}
use Rattle.std.specs.List.{list_all, concat}
use Rattle.std.specs.Str.{is_utf8}
use Rattle.xt_spec.specs.Limit.{most_commands, most_script_bytes}
use Rattle.xt_spec.specs.Reference.{is_decimal_digit, is_hexadecimal_digit, digit_value, number_behind}
use Rattle.xt_scan.specs.Step.{◌>>=◌, take_while, drop_while}
use Rattle.xt_lex.specs.Scan.{maybe, after}
use Rattle.bk_script.specs.Word.{is_blank, is_plain, is_scalar}
use Rattle.bk_script.specs.Command.{Command, edit_text, burst}
use Rattle.bk_script.specs.Script.{is_no_lf, ends_in_cr, ScriptFault, too_long, bad_line, too_many}
use Rattle.bk_script.specs.View.{script_fault}
use Rattle.bk_script.specs.declared.stop.Stop.{Stop}
use Rattle.bk_script.specs.declared.stop.Stop.TheVariants as stop
use Rattle.bk_script.specs.declared.script.ScriptFault as code

-- why a reader stopped: there is no reading, or memory ran out
abbrev pub Stops : {Y : Type 0} → Stop → Option Y → Type 0
Stops stop.NoReading read = read ≡ None
Stops stop.NoMemory read = Unit {0}

-- what a reader answered, seen by view, is what is read there
abbrev pub Gives : {X Y : Type 0} → (X → Y) → Result X Stop → Option Y → Type 0
Gives view (Ok x) read = read ≡ Some (view x)
Gives view (Err stop) read = Stops stop read

abbrev pub consed : {A : Type 0} → A → List A × List ℕ → List A × List ℕ
consed part parts = (part ∷ parts.0, parts.1)

-- the parts that a step takes from the front, as many as it can and at most n, and what is left
abbrev pub parts_in : {A : Type 0} → ℕ → (List ℕ → Option (A × List ℕ)) → List ℕ → List A × List ℕ
parts_in zero step text = ([], text)
parts_in (suc n) step text = maybe ([], text) (λ x. consed x.0 (parts_in n step x.1)) (step text)

unfoldable pub parts_of : {A : Type 0} → (List ℕ → Option (A × List ℕ)) → List ℕ → List A × List ℕ
parts_of step text = parts_in (length text) step text

abbrev pub is_no_blank : ℕ → Bool
is_no_blank b = not (b == 0x20)

-- behind optional spaces: what stands before the next space, and the rest
unfoldable pub word_at : List ℕ → List ℕ × List ℕ
word_at text = (take_while is_no_blank (drop_while is_blank text), drop_while is_no_blank (drop_while is_blank text))

-- the number of one more digit behind a number, where it is at most 4294967295
abbrev pub number_with : ℕ → ℕ → Option ℕ
number_with n b = if is_decimal_digit b && nat_le (n * 10 + digit_value b) 4294967295 then Some (n * 10 + digit_value b) else None

-- .. of digits
abbrev pub number_from : ℕ → List ℕ → Option ℕ
number_from n [] = Some n
number_from n (b ∷ bs) = maybe None (λ m. number_from m bs) (number_with n b)

-- the N that the whole text is
abbrev pub number_of : List ℕ → Option ℕ
number_of [] = None
number_of (b ∷ []) = number_from 0 (b ∷ [])
number_of (b ∷ next ∷ bs) = if b == 0x30 then None else number_from 0 (b ∷ next ∷ bs)

abbrev pub not_zero : ℕ → Option ℕ
not_zero n = if n == 0 then None else Some n

-- a slash and an N that isn't 0, and what follows
unfoldable pub step_at : List ℕ → Option (ℕ × List ℕ)
step_at text = after 0x2F text >>= λ s. number_of (take_while is_decimal_digit s) >>= λ n. not_zero n >>= λ m. Some (m, drop_while is_decimal_digit s)

abbrev pub all_read : List ℕ × List ℕ → Option (List ℕ)
all_read ([], rest) = None
all_read (n ∷ ns, []) = Some (n ∷ ns)
all_read (n ∷ ns, b ∷ bs) = None

-- the numbers of the PLACE without `^` that the whole text is
unfoldable pub place_of : List ℕ → Option (List ℕ)
place_of text = all_read (parts_of step_at text)

-- the first byte where it is ASCII, and what follows
abbrev pub ascii_at : List ℕ → Option (ℕ × List ℕ)
ascii_at [] = None
ascii_at (b ∷ bs) = if nat_lt b 128 then Some (b, bs) else None

-- the scalar value of one to six hexadecimal digits
abbrev pub scalar_of : List ℕ → Option ℕ
scalar_of digits =
    if nat_le 1 (length digits) && nat_le (length digits) 6 && is_scalar (number_behind 16 0 digits) then Some (number_behind 16 0 digits) else None

-- `{H}`, and what follows
unfoldable pub code_point_at : List ℕ → Option (ℕ × List ℕ)
code_point_at text = after 0x7B text >>= λ s. scalar_of (take_while is_hexadecimal_digit s) >>= λ c. after 0x7D (drop_while is_hexadecimal_digit s) >>= λ r. Some (c, r)

-- what the letter behind a backslash stands for, and what follows
abbrev pub escape_by : ℕ → List ℕ → Option (ℕ × List ℕ)
escape_by b rest =
    if b == 0x22 then Some (0x22, rest)
    else (if b == 0x5C then Some (0x5C, rest)
    else (if b == 0x6E then Some (0xA, rest)
    else (if b == 0x74 then Some (0x9, rest)
    else (if b == 0x72 then Some (0xD, rest)
    else (if b == 0x75 then code_point_at rest else None)))))

unfoldable pub escape_at : List ℕ → Option (ℕ × List ℕ)
escape_at text = ascii_at text >>= λ x. escape_by x.0 x.1

-- one part of a string, its value, and what follows
abbrev pub string_part_at : List ℕ → Option (List ℕ × List ℕ)
string_part_at [] = None
string_part_at (b ∷ bs) =
    if b == 0x5C then (escape_at bs >>= λ x. Some (encode_utf8 x.0, x.1))
    else (if is_plain b then Some (b ∷ [], bs) else None)

-- an escape and what stands for itself behind it were appended, and the rest follows
pub record IsPushed (before text now rest : List ℕ) : Type 0 where
  pub c : ℕ
  pub behind_escape : List ℕ
  pub escape : escape_at text ≡ Some (c, behind_escape)
  pub value : now ≡ (before ++ encode_utf8 c) ++ take_while is_plain behind_escape
  pub rest_is : rest ≡ drop_while is_plain behind_escape

-- behind the first quote: the value of the string, and what follows its second quote
unfoldable pub string_body_at : List ℕ → Option (List ℕ × List ℕ)
string_body_at text = after 0x22 (parts_of string_part_at text).1 >>= λ rest. Some (concat (parts_of string_part_at text).0, rest)

unfoldable pub string_at : List ℕ → Option (List ℕ × List ℕ)
string_at text = after 0x22 text >>= λ s. string_body_at s

-- the value of the string that the whole text is, but for spaces round it
unfoldable pub last_string_at : List ℕ → Option (List ℕ)
last_string_at text = string_at (drop_while is_blank text) >>= λ value. if list_all is_blank value.1 then Some value.0 else None

-- behind `text`: PLACE N N STRING
unfoldable pub text_at : List ℕ → Option Command
text_at text =
    let first = word_at text in
    let second = word_at first.1 in
    let third = word_at second.1 in
    place_of first.0 >>= λ numbers. number_of second.0 >>= λ from. number_of third.0 >>= λ to.
    last_string_at third.1 >>= λ value.
    Some (edit_text (record { numbers = numbers; carets = 0 }) from to value)

-- the built command that the whole text is
unfoldable pub command_at : List ℕ → Option Command
command_at text =
    if bytes_eq (word_at text).0 (codes "text") then text_at (word_at text).1
    else (if bytes_eq (word_at text).0 (codes "burst") && list_all is_blank (word_at text).1 then Some burst else None)

-- the rest of a line behind its first spaces has no command
abbrev pub is_passed_over : List ℕ → Bool
is_passed_over [] = true
is_passed_over (b ∷ bs) = b == 0x23

abbrev pub option_some : Option Command → Option (Option Command)
option_some None = None
option_some (Some command) = Some (Some command)

-- what a line counts, where it has a reading
unfoldable pub line_of : List ℕ → Option (Option Command)
line_of line =
    if is_utf8 line then (if is_passed_over (drop_while is_blank line) then Some None else option_some (command_at line)) else None

-- without one CR at the end
abbrev pub without_cr : List ℕ → List ℕ
without_cr bytes = if ends_in_cr bytes then take (length bytes - 1) bytes else bytes

-- the line that an LF ends, and what follows
abbrev pub ended_line_at : List ℕ → Option (List ℕ × List ℕ)
ended_line_at bytes = after 0xA (drop_while is_no_lf bytes) >>= λ rest. Some (without_cr (take_while is_no_lf bytes), rest)

unfoldable pub lines_of : List ℕ → List (List ℕ)
lines_of bytes = (parts_of ended_line_at bytes).0 ++ (parts_of ended_line_at bytes).1 ∷ []

abbrev pub Outcome : Type 0
Outcome = Result (List Command) ScriptFault

-- the commands so far with those of one more line, of this number: what it counts, where it has a reading
abbrev pub added : Option (Option Command) → ℕ → List Command → Outcome
added None number front = Err (bad_line number)
added (Some None) number front = Ok front
added (Some (Some command)) number front = if nat_lt (length front) most_commands then Ok (front ++ command ∷ []) else Err too_many

abbrev pub and_then : Outcome → (List Command → Outcome) → Outcome
and_then (Ok commands) go = go commands
and_then (Err e) go = Err e

-- the commands so far with those of the lines, the first of which has this number, or the first fault
unfoldable pub lines_read : ℕ → List Command → List (List ℕ) → Outcome
lines_read number front [] = Ok front
lines_read number front (line ∷ lines) = and_then (added (line_of line) number front) (λ all. lines_read (number + 1) all lines)

-- the commands of the bytes, or the first fault
unfoldable pub script_read : List ℕ → Outcome
script_read bytes = if nat_lt most_script_bytes (length bytes) then Err too_long else lines_read 1 [] (lines_of bytes)

-- a call that answers this where memory does not run out
abbrev pub Fails : code.ScriptFault → Outcome → Type 0
Fails e read = IfSome (script_fault e) (λ fault. read ≡ Err fault)

abbrev pub Answers : {X : Type 0} → (X → List Command) → Result X code.ScriptFault → Outcome → Type 0
Answers view (Ok x) read = read ≡ Ok (view x)
Answers view (Err e) read = Fails e read
