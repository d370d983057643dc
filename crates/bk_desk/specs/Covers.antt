-- Entries that hold an image under some of its names; of this project.
use Rattle.std.specs.Prelude.{◌≡◌, List, Bool, if◌then◌else◌, None}
use Rattle.bk_desk.specs.declared.desk_name.DeskName.{DeskName}
use Rattle.bk_desk.specs.declared.log.Entry.{Entry}
use Rattle.bk_desk.specs.Disk.{DiskImage}
use Rattle.bk_desk.specs.Calls.{file_in}

-- under the names of the test the files of the image, and no other file
abbrev pub Covers : DiskImage → (DeskName → Bool) → List Entry → Type 0
Covers image seen entries = (name : DeskName) → file_in entries name None ≡ (if seen name then image name else None)
