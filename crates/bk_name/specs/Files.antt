-- What a look-up answers, of this project's own.
--
--   found_by   the entry of a map that an answer stands for
use Rattle.std.specs.Prelude.{Option, None, Some}
use Rattle.bk_name.specs.declared.files.Entry.{Entry}
use Rattle.bk_name.specs.declared.files.Entry.TheVariants as entry
use Rattle.bk_name.specs.declared.files.Look.{Look}
use Rattle.bk_name.specs.declared.files.Look.TheVariants as answer

-- Known: the bytes of the file. Absent: the file isn't there. Need: the map has no entry
abbrev pub found_by : Look → Option Entry
found_by (answer.Known bytes) = Some (entry.Bytes bytes.now)
found_by answer.Absent = Some entry.Absent
found_by answer.Need = None
