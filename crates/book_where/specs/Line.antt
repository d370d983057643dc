-- The line that is told of a fault: `FILE:LINE:COLUMN: RULE`, or `FILE: RULE` where it has no place; of this project.
use Rattle.std.specs.Prelude.{ℕ, List, [], ◌++◌, take, codes, Option, Some, None}
use Rattle.std.specs.Fmt.{decimal}
use Rattle.book_where.specs.Position.{line_of, column_of}
use Rattle.book_where.specs.declared.fault.Rule.{Rule}
use Rattle.book_where.specs.declared.fault.Rule.TheVariants as rule
use Rattle.book_where.specs.declared.fault.Found.{Found}

-- each rule in words
abbrev pub rule_text : Rule → List ℕ
rule_text rule.NotUtf8 = codes "the bytes from here on are no UTF-8"
rule_text rule.Encoding = codes "another encoding than UTF-8 is declared"
rule_text rule.TooDeep = codes "more than 128 elements stand in one another"
rule_text rule.End = codes "the file ends here, too early: an element, a tag or other markup is not ended"
rule_text rule.EndTag = codes "this end-tag does not end the element that is open here"
rule_text rule.Markup = codes "no tag or other markup that may stand here begins with this <"
rule_text rule.Reference = codes "no reference that may stand here begins with this &"
rule_text rule.Bracket = codes "]]> may not stand in a text"
rule_text rule.Characters = codes "the text that begins here may not stand here"

-- the line and column of the place behind a front
abbrev pub place_text : List ℕ → Option ℕ → List ℕ
place_text bytes None = []
place_text bytes (Some at) = codes ":" ++ decimal (line_of (take at bytes)) ++ codes ":" ++ decimal (column_of (take at bytes))

abbrev pub found_line : List ℕ → List ℕ → Found → List ℕ
found_line file bytes found = file ++ place_text bytes found.at ++ codes ": " ++ rule_text found.rule ++ codes "\n"
