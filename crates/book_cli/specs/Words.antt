-- The words of a command line, as far as they have a reading; of this project. A word is the list of its bytes.
--
--   is_root      a word that names the book's first file
--   root_of      the name that the words give
use Rattle.std.specs.Prelude.{ℕ, Bool, ◌&&◌, ◌||◌, ◌==◌, not, List, [], ◌∷◌, codes, Option, Some, None, nat_eq, if◌then◌else◌}
use Rattle.std.specs.List.{list_all, starts_with}
use Rattle.std.specs.Char.{is_ascii_alphanumeric}
use Rattle.bk_name.specs.FileName.{is_file_name}

-- an ASCII letter or digit, or one of - . _ ~
abbrev pub is_word_byte : ℕ → Bool
is_word_byte b = is_ascii_alphanumeric b || b == 0x2D || b == 0x2E || b == 0x5F || b == 0x7E

-- the word is a file's name, in one segment of such characters, and no option
abbrev pub is_root : List ℕ → Bool
is_root word = list_all is_word_byte word && not (starts_with nat_eq word (codes "-")) && is_file_name word

-- the words have a reading where they are one such name
abbrev pub root_of : List (List ℕ) → Option (List ℕ)
root_of [] = None
root_of (word ∷ []) = if is_root word then Some word else None
root_of (_ ∷ _ ∷ _) = None
