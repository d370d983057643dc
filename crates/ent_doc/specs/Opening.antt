-- What the faults of the code mean; which fault a document has is said by `bk_spec` (`FirstFault`, `Opening`).
--
--   open_fault      the fault that an answer of the code is; none where memory ran out
--   IsReadingFault  the fault of a file that has no reading
use Rattle.std.specs.Prelude.{◌≡◌, ℕ, List, Option, Some, None, option_map}
use Rattle.bk_spec.specs.Fault.{Fault}
use Rattle.bk_spec.specs.FirstFault.{fault_of_reading}
use Rattle.bk_info.specs.declared.fault.BookFault.{BookFault}
use Rattle.bk_info.specs.Nodes.{fault_in}
use Rattle.xt_read.specs.declared.unread.Unread.{Unread}
use Rattle.xt_read.specs.Faults.{reading_fault}
use Rattle.ent_doc.specs.declared.fault.OpenFault.{OpenFault}
use Rattle.ent_doc.specs.declared.fault.OpenFault.TheVariants.{Book, NoMemory}

abbrev pub open_fault : OpenFault → Option Fault
open_fault (Book fault) = Some (fault_in fault)
open_fault NoMemory = None

abbrev pub IsReadingFault : List ℕ → Unread → BookFault → Type 0
IsReadingFault file cause fault = option_map (fault_of_reading file) (reading_fault cause) ≡ Some (fault_in fault)
