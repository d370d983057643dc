-- What the printing functions add to the output, in steps.
--
--   is_unescaped   a byte that prints as itself
--   escaped        a value, as it stands between the quotes
--   IsIndent       spaces alone
--   own_lines      an element's own lines
--   space_text     what stands before a local name
--   value_end      a value with its quotes, and where it came from
use Rattle.std.specs.Prelude.{◌≡◌, ℕ, Bool, not, ◌&&◌, ◌==◌, List, [], ◌∷◌, ◌++◌, Option, length, codes, bytes_eq, if◌then◌else◌}
use Rattle.std.specs.List.{flat_map}
use Rattle.bk_spec.specs.Node.{Head, Origin}
use Rattle.bk_spec.specs.Print.{quoted_byte, quoted_text, owner_text, deeper, element_line, base_line, attribute_lines}

-- a byte that prints as itself
abbrev pub is_unescaped : ℕ → Bool
is_unescaped b = not (b == 0x22) && not (b == 0x5C) && not (b == 0xA) && not (b == 0x9) && not (b == 0xD)

-- a value, as it stands between the quotes
abbrev pub escaped : List ℕ → List ℕ
escaped value = flat_map quoted_byte value

-- spaces alone, so that one more before them is one more behind them
abbrev pub IsIndent : List ℕ → Type 0
IsIndent indent = indent ++ (0x20 ∷ []) ≡ 0x20 ∷ indent

-- an element's own lines, and those of its attributes
abbrev pub own_lines : List ℕ → Option (List ℕ) → Head → List ℕ
own_lines indent parent head =
    element_line indent head ++ base_line (deeper indent) parent head.base ++ attribute_lines (deeper indent) head.attributes

-- what stands before a local name of this namespace
abbrev pub space_text : List ℕ → List ℕ
space_text space =
    if length space == 0 then []
    else (if bytes_eq space (codes "http://www.w3.org/XML/1998/namespace") then codes "xml:" else codes "{" ++ space ++ codes "}")

-- a value with its quotes, and where it came from
abbrev pub value_end : List ℕ → Origin → List ℕ
value_end value origin = quoted_text value ++ codes " in " ++ owner_text origin ++ codes "\n"
