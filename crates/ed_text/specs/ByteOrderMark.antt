-- A new value and the byte order mark, in a file that is read as a text. XML 1.0 (Fifth Edition), section 4.3.3: U+FEFF at
-- the very front of a file is such a mark, and no part of its text. A value is here UTF-8.
--
--   AddsNoByteOrderMark  with the value for its text, the file begins with a byte order mark only if it did before
use Rattle.std.specs.Prelude.{◌≡◌, ℕ, List, true, nat_eq}
use Rattle.std.specs.List.{starts_with}
use Rattle.xt_spec.specs.Reading.{mark}

-- a value that begins with U+FEFF stands behind a byte order mark of the file, so that it isn't read as one (4.3.3)
abbrev pub AddsNoByteOrderMark : List ℕ → List ℕ → Type 0
AddsNoByteOrderMark file value = starts_with nat_eq value mark ≡ true → starts_with nat_eq file mark ≡ true
