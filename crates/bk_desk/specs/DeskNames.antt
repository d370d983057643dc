-- When two names of a desk are the same; of this project.
--
--   same_name    whether both are one book file's name, byte for byte, or one control file
use Rattle.std.specs.Prelude.{Bool, true, false, bytes_eq}
use Rattle.bk_desk.specs.declared.desk_name.DeskName.{DeskName}
use Rattle.bk_desk.specs.declared.desk_name.DeskName.TheVariants.{Book, Journal, Gate}

-- two book files of equal bytes, or the same control file
abbrev pub same_name : DeskName → DeskName → Bool
same_name (Book a) (Book b) = bytes_eq a b
same_name Journal Journal = true
same_name Gate Gate = true
same_name (Book a) Journal = false
same_name (Book a) Gate = false
same_name Journal (Book b) = false
same_name Journal Gate = false
same_name Gate (Book b) = false
same_name Gate Journal = false
