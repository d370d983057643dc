-- How a text is written in content, so that it reads back as itself; of this project, over XML 1.0 (Fifth Edition),
-- sections 2.4, 2.11 and 4.6. A text is here the list of its characters, by code points, and so is what is written.
--
--   escape_char   a character that is neither first nor last
--   escape_text   the whole text
use Rattle.std.specs.Prelude.{ℕ, Bool, true, false, ◌&&◌, ◌==◌, List, [], ◌∷◌, ◌++◌, length, codes, if◌then◌else◌}

-- what would begin markup, could end `]]>`, is read as another line end, or could be taken for a byte order mark, is written
-- as a reference
abbrev pub escape_char : ℕ → List ℕ
escape_char c =
    if c == 0x26 then codes "&amp;"
    else (if c == 0x3C then codes "&lt;"
    else (if c == 0x3E then codes "&gt;"
    else (if c == 0xD then codes "&#13;"
    else (if c == 0xFEFF then codes "&#65279;"
    else c ∷ []))))

-- an LF in front and a `]` at the end are references too, so that neither joins with what stands beside the text
abbrev pub escape_at : Bool → Bool → ℕ → List ℕ
escape_at first last c =
    if first && c == 0xA then codes "&#10;"
    else (if last && c == 0x5D then codes "&#93;"
    else escape_char c)

-- the characters of the rest of a text, of which the next is the first or not
abbrev pub escape_from : Bool → List ℕ → List ℕ
escape_from first [] = []
escape_from first (c ∷ cs) = escape_at first (length cs == 0) c ++ escape_from false cs

abbrev pub escape_text : List ℕ → List ℕ
escape_text cs = escape_from true cs
