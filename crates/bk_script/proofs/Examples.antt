-- The definitions computed on right and on wrong cases.
use Rattle.std.proofs.Common.{◌≡◌, ℕ, List, [], ◌∷◌, ◌++◌, Option, Some, None, refl, sym, ◌∙◌, codes, inl, inr, arith}
use lib.Utf8.{encode}
use Rattle.std.specs.Str.{is_utf8, chars}
use Rattle.bk_script.specs.Word.{IsNumber, IsPlace}
use Rattle.bk_script.specs.Command.{Command, edit_text, drop_attr, undo, burst, IsCommandLine}
use Rattle.bk_script.specs.Script.{IsLine, IsSplit, IsScript, bad_line, IsFaultOf}
use Rattle.bk_script.specs.Reading.{parts_of, word_at, step_at, place_of, code_point_at, escape_at, string_body_at, string_at, last_string_at, text_at, command_at, line_of, lines_of, lines_read, script_read}
use Rattle.bk_script.specs.View.{place_from}
use Rattle.bk_script.proofs.Lines.{line_takes, line_again, split_takes}
use Rattle.bk_script.proofs.Scripts.{script_takes, fault_takes}

-- a line without a reading counts nothing
none_counts : (text : List ℕ) → line_of text ≡ None → (found : Option Command) → IsLine text found → ⊥
none_counts text none found is =
    let both : ◌≡◌ {A = Option (Option Command)} None (Some found) = sym none ∙ line_again text found is in
    absurd cc

-- a string in quotes
abbrev quoted : List ℕ → List ℕ
quoted body = 34 ∷ (body ++ 34 ∷ [])

-- `text /1/2 0 10 "a\u{FEFF}\n"`: FEFF is three bytes in UTF-8
text_line : IsLine (codes "text /1/2 0 10 " ++ quoted (codes "a" ++ 92 ∷ codes "u{FEFF}" ++ 92 ∷ codes "n")) (Some (edit_text (place_from (1 ∷ 2 ∷ [])) 0 10 (97 ∷ 0xEF ∷ 0xBB ∷ 0xBF ∷ 10 ∷ [])))
unfolding line_of is_utf8 chars encode command_at word_at text_at place_of parts_of step_at last_string_at string_at string_body_at escape_at code_point_at
text_line = line_takes (codes "text /1/2 0 10 " ++ quoted (codes "a" ++ 92 ∷ codes "u{FEFF}" ++ 92 ∷ codes "n")) (Some (edit_text (place_from (1 ∷ 2 ∷ [])) 0 10 (97 ∷ 0xEF ∷ 0xBB ∷ 0xBF ∷ 10 ∷ []))) refl

-- a number has no leading zero, and a place no zero
leading_zero : (found : Option Command) → IsLine (codes "text /01 0 0 " ++ quoted (codes "x")) found → ⊥
unfolding line_of is_utf8 chars encode command_at word_at text_at place_of parts_of step_at last_string_at string_at string_body_at escape_at code_point_at
leading_zero = none_counts _ refl

zero_step : (found : Option Command) → IsLine (codes "text /0 0 0 " ++ quoted (codes "x")) found → ⊥
unfolding line_of is_utf8 chars encode command_at word_at text_at place_of parts_of step_at last_string_at string_at string_body_at escape_at code_point_at
zero_step = none_counts _ refl

-- 4294967295 is a number, and 4294967296 is none
great_number : (found : Option Command) → IsLine (codes "text /1 0 4294967296 " ++ quoted (codes "x")) found → ⊥
unfolding line_of is_utf8 chars encode command_at word_at text_at place_of parts_of step_at last_string_at string_at string_body_at escape_at code_point_at
great_number = none_counts _ refl

greatest_number : IsLine (codes "text /1 0 4294967295 " ++ quoted (codes "x")) (Some (edit_text (place_from (1 ∷ [])) 0 4294967295 (codes "x")))
unfolding line_of is_utf8 chars encode command_at word_at text_at place_of parts_of step_at last_string_at string_at string_body_at escape_at code_point_at
greatest_number = line_takes (codes "text /1 0 4294967295 " ++ quoted (codes "x")) (Some (edit_text (place_from (1 ∷ [])) 0 4294967295 (codes "x"))) refl

-- a surrogate is no scalar value, and `\x` no escape
surrogate : (found : Option Command) → IsLine (codes "text /1 0 0 " ++ quoted (92 ∷ codes "u{D800}")) found → ⊥
unfolding line_of is_utf8 chars encode command_at word_at text_at place_of parts_of step_at last_string_at string_at string_body_at escape_at code_point_at
surrogate = none_counts _ refl

other_escape : (found : Option Command) → IsLine (codes "text /1 0 0 " ++ quoted (92 ∷ codes "x")) found → ⊥
unfolding line_of is_utf8 chars encode command_at word_at text_at place_of parts_of step_at last_string_at string_at string_body_at escape_at code_point_at
other_escape = none_counts _ refl

-- one command a line; a tab is no space, nor is a CR that no LF follows
burst_line : IsLine (codes "  burst ") (Some burst)
unfolding line_of is_utf8 chars encode command_at word_at
burst_line = line_takes (codes "  burst ") (Some burst) refl

burst_twice : (found : Option Command) → IsLine (codes "burst burst") found → ⊥
unfolding line_of is_utf8 chars encode command_at word_at
burst_twice = none_counts _ refl

tab_before : (found : Option Command) → IsLine (9 ∷ codes "burst") found → ⊥
unfolding line_of is_utf8 chars encode command_at word_at
tab_before = none_counts _ refl

lone_cr : (found : Option Command) → IsLine (32 ∷ 13 ∷ []) found → ⊥
unfolding line_of is_utf8 chars encode command_at word_at
lone_cr = none_counts _ refl

-- a comment has no command, but has to be UTF-8
comment : IsLine (codes " # undo") None
unfolding line_of is_utf8 chars encode
comment = line_takes (codes " # undo") None refl

comment_cut : (found : Option Command) → IsLine (35 ∷ 0xC3 ∷ []) found → ⊥
unfolding line_of is_utf8 chars encode
comment_cut = none_counts _ refl

-- `undo` is a command, which isn't built
undo_line : IsCommandLine (codes "undo ") undo
undo_line = ([], codes "undo", codes " ", refl, refl, refl, refl, refl)

undo_counts : (found : Option Command) → IsLine (codes "undo ") found → ⊥
unfolding line_of is_utf8 chars encode command_at word_at
undo_counts = none_counts _ refl

-- a place may have carets: `drop-attr /1^ a`
one : IsNumber (codes "1") 1
one = record { digits = record { some = λ e. absurd cc; all = refl; spell = refl }; plain = inr refl; small = omega arith }

caret_place : IsPlace (codes "/1^") (record { numbers = 1 ∷ []; carets = 1 })
caret_place = (codes "/1", (codes "/1", [], (codes "1", one, (λ e. omega (arith, e)), refl), refl, refl), (λ e. absurd cc), refl)

drop_line : IsCommandLine (codes "drop-attr /1^ a") (drop_attr (record { numbers = 1 ∷ []; carets = 1 }) (codes "a"))
unfolding encode
drop_line = ([], codes "drop-attr", codes " /1^ a", refl, refl, refl, (codes " ", codes "/1^", codes " a", refl, caret_place, refl, (codes " ", codes "a", [], refl, (inl (codes "a", refl, refl), refl), tt, refl, refl), refl), refl)

-- a CR right before an LF belongs to the end of a line, and no other does
cut_lines : lines_of (codes "a" ++ 13 ∷ 13 ∷ 10 ∷ 10 ∷ codes "b" ++ 13 ∷ []) ≡ (codes "a" ++ 13 ∷ []) ∷ [] ∷ (codes "b" ++ 13 ∷ []) ∷ []
unfolding lines_of parts_of
cut_lines = refl

split_lines : IsSplit (codes "a" ++ 13 ∷ 10 ∷ []) (codes "a" ∷ [] ∷ [])
unfolding lines_of parts_of
split_lines = split_takes (codes "a" ++ 13 ∷ 10 ∷ [])

-- two commands; and a fault in the second line
script : IsScript (codes "burst" ++ 10 ∷ 10 ∷ codes "burst") (burst ∷ burst ∷ [])
unfolding script_read lines_read lines_of parts_of line_of is_utf8 chars encode command_at word_at
script = script_takes _ _ refl

second_line : IsFaultOf (codes "burst" ++ 10 ∷ codes "undo" ++ 10 ∷ codes "Undo") (bad_line 2)
unfolding script_read lines_read lines_of parts_of line_of is_utf8 chars encode command_at word_at
second_line = fault_takes (codes "burst" ++ 10 ∷ codes "undo" ++ 10 ∷ codes "Undo") (bad_line 2) refl
