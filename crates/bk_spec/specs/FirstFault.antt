-- The first fault of a document and of a book; of this project. Which fault the bytes of a file have first is said by
-- `xt_spec`. Here: a book of one file.
--
--   fault_of_reading  the fault that one of a reading is
--   IsDocumentFault   the first fault of a document of these bytes
--   IsRootFault       the first fault of a book's root, of which this file was found, or none
use Rattle.std.specs.Prelude.{◌≡◌, ◌<◌, ◌≤◌, ℕ, List, length, Option, Some, None}
use Rattle.xt_spec.specs.Limit.{most_file_bytes}
use Rattle.xt_spec.specs.Tree.{Items}
use Rattle.xt_spec.specs.Reading.{document, IsReading}
use Rattle.xt_spec.specs.FirstFault as reading
use Rattle.xt_spec.specs.FirstFault.{ReadingFault, IsFirstFault}
use Rattle.bk_spec.specs.Fault.{Fault, missing, too_large, encoding, not_well_formed, too_deep}
use Rattle.bk_spec.specs.Opening.{IsUnopened}

-- bytes that aren't UTF-8 are in another encoding
abbrev pub fault_of_reading : List ℕ → ReadingFault → Fault
fault_of_reading file (reading.not_utf8 at) = encoding file
fault_of_reading file reading.encoding = encoding file
fault_of_reading file (reading.not_well_formed at) = not_well_formed file
fault_of_reading file reading.too_deep = too_deep file

-- the bytes have no reading; or they have one, and its items do not open
pub data IsDocumentFault (file bytes : List ℕ) (fault : Fault) : Type 0 where
  no_reading : (cause : ReadingFault) → IsFirstFault document bytes cause → fault ≡ fault_of_reading file cause → IsDocumentFault file bytes fault
  unopened : (items : Items) → IsReading document bytes items → IsUnopened file items fault → IsDocumentFault file bytes fault

-- the root isn't there; it is longer than a file may be; or its bytes have this first fault
pub data IsRootFault (root : List ℕ) (file : Option (List ℕ)) (fault : Fault) : Type 0 where
  absent : file ≡ None → fault ≡ missing root → IsRootFault root file fault
  longer : (bytes : List ℕ) → file ≡ Some bytes → most_file_bytes < length bytes → fault ≡ too_large root → IsRootFault root file fault
  faulty : (bytes : List ℕ) → file ≡ Some bytes → length bytes ≤ most_file_bytes → IsDocumentFault root bytes fault → IsRootFault root file fault
