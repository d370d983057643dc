-- What a stop leaves of a desk in memory, where each pending file becomes one thing; of this project.
--
--   synced_files   the files at the last sync that worked, or else at the start
--   wanted_file    what the last write or removal of a name was to leave, whether it failed or not
--   left_image     the files after a stop
--   restarted      a disk after a restart: these files, nothing pending, nothing told
use Rattle.std.specs.Prelude.{ℕ, List, [], ◌∷◌, Bool, false, ◌||◌, if◌then◌else◌, Option, Some, None}
use Rattle.bk_desk.specs.declared.desk_name.DeskName.{DeskName}
use Rattle.bk_desk.specs.declared.log.Call.{Call}
use Rattle.bk_desk.specs.declared.log.Call.TheVariants.{Read, Put, Sync, Tell}
use Rattle.bk_desk.specs.declared.log.Entry.{Entry}
use Rattle.bk_desk.specs.declared.stop.Left.{Left}
use Rattle.bk_desk.specs.declared.stop.Left.TheVariants.{Absent, Old, New, Bytes}
use Rattle.bk_desk.specs.DeskNames.{same_name}
use Rattle.bk_desk.specs.Disk.{DiskImage, DiskState}
use Rattle.bk_desk.specs.Calls.{step, after, opening}

-- a sync that worked
abbrev pub is_sync : Call → Bool
is_sync (Read done) = false
is_sync (Put other bytes done) = false
is_sync (Sync done) = done
is_sync (Tell bytes done) = false

-- the files at the last sync that worked, or else those given
abbrev pub synced_files : DiskState → DiskImage → List Call → DiskImage
synced_files standing files [] = files
synced_files standing files (call ∷ calls) = synced_files (step standing call) (if is_sync call then (step standing call).files else files) calls

abbrev pub wanted_after : Call → DeskName → Option (List ℕ) → Option (List ℕ)
wanted_after (Read done) name file = file
wanted_after (Put other bytes done) name file = if same_name other name then bytes else file
wanted_after (Sync done) name file = file
wanted_after (Tell bytes done) name file = file

-- what the last write or removal of the name was to leave, or else the file given
abbrev pub wanted_file : List Call → DeskName → Option (List ℕ) → Option (List ℕ)
wanted_file [] name file = file
wanted_file (call ∷ calls) name file = wanted_file calls name (wanted_after call name file)

-- what a pending file becomes, of the file at the last sync and the one that was to be
abbrev pub left_file : Left → Option (List ℕ) → Option (List ℕ) → Option (List ℕ)
left_file Absent old new = None
left_file Old old new = old
left_file New old new = new
left_file (Bytes bytes) old new = Some bytes

-- the files after a stop behind these calls: a pending one becomes what is said, every other is as reads give it
abbrev pub left_image : List Entry → List Call → Left → DiskImage
left_image entries calls left name =
    if (after (opening entries) calls).pending name then left_file left (synced_files (opening entries) (opening entries).files calls name) (wanted_file calls name None)
    else (after (opening entries) calls).files name

-- a disk after a restart
abbrev pub restarted : DiskImage → DiskState
restarted image = record { files = image; pending = λ name. false; told = [] }

-- whether a file of this name stood there before the first call
abbrev pub is_named : List Entry → DeskName → Bool
is_named [] name = false
is_named (entry ∷ entries) name = same_name entry.name name || is_named entries name

-- whether a call writes or removes the file of this name
abbrev pub is_put : Call → DeskName → Bool
is_put (Read done) name = false
is_put (Put other bytes done) name = same_name other name
is_put (Sync done) name = false
is_put (Tell bytes done) name = false

-- whether one of the calls does
abbrev pub is_written : List Call → DeskName → Bool
is_written [] name = false
is_written (call ∷ calls) name = is_put call name || is_written calls name

-- the file of the image under this name as an entry, where there is one
abbrev pub entry_of : DeskName → Option (List ℕ) → List Entry
entry_of name None = []
entry_of name (Some bytes) = record { name = name; bytes = bytes } ∷ []
