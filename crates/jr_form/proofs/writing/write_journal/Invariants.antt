use Rattle.std.proofs.Common.{◌≡◌, ◌++◌, length, take}
use Rattle.std.specs.Int.{w32, to_be_bytes}
use Rattle.std.specs.List.{flat_map, AllByRecursion}
use Rattle.jr_form.specs.Journal.{mark, entry, IsNamed}
use Rattle.jr_form.proofs.writing.write_journal.Given as goal

abbrev pub invariant-loop-item : goal.invariant-loop-item
invariant-loop-item l = record {
  written : l.out.items ≡ (mark ++ to_be_bytes w32 (length l.items)) ++ flat_map entry (take l.item-index l.items);
  named : AllByRecursion IsNamed (take l.item-index l.items);
}
