-- Line ends, after XML 1.0 (Fifth Edition), section 2.11. A text is the list of its bytes.
--
--   lines_read   the text as an application sees it: each CR LF, and each other CR, is an LF
use Rattle.std.specs.Prelude.{ℕ, Bool, true, false, List, [], ◌∷◌, ◌==◌, if◌then◌else◌}

-- .. of the rest of a text, right behind a CR or not
abbrev pub lines_read_behind : Bool → List ℕ → List ℕ
lines_read_behind cr [] = []
lines_read_behind cr (b ∷ bytes) =
    if b == 0xD then 0xA ∷ lines_read_behind true bytes
    else (if b == 0xA then (if cr then lines_read_behind false bytes else 0xA ∷ lines_read_behind false bytes) else b ∷ lines_read_behind false bytes)

abbrev pub lines_read : List ℕ → List ℕ
lines_read bytes = lines_read_behind false bytes
