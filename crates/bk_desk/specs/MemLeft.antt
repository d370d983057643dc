-- What a stop leaves of a desk in memory, by its record of calls; of this project.
use Rattle.std.specs.Prelude.{ℕ, take}
use Rattle.bk_desk.specs.declared.mem_desk.MemDesk.{MemDesk}
use Rattle.bk_desk.specs.declared.stop.Left.{Left}
use Rattle.bk_desk.specs.Disk.{DiskImage}
use Rattle.bk_desk.specs.Left.{left_image}

-- the files after a stop behind so many calls, where every pending one becomes this
abbrev pub mem_left_image : MemDesk → ℕ → Left → DiskImage
mem_left_image desk count left = left_image desk.log.start.items (take count desk.log.calls.items) left
