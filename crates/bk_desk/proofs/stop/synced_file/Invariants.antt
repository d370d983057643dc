use Rattle.std.proofs.Common.{◌≡◌, take}
use Rattle.std.specs.Option.{option_map}
use Rattle.bk_desk.specs.Calls.{after, opening}
use Rattle.bk_desk.specs.Left.{synced_files}
use Rattle.bk_desk.proofs.stop.synced_file.Given as goal

abbrev pub invariant-loop-call : goal.invariant-loop-call
invariant-loop-call l = record {
  reads : option_map (λ bytes. bytes.now) l.file ≡ (after (opening l.start) (take l.call-index l.calls)).files l.name;
  synced : option_map (λ bytes. bytes.now) l.synced ≡ synced_files (opening l.start) (opening l.start).files (take l.call-index l.calls) l.name;
}
