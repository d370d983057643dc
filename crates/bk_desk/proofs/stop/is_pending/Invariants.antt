use Rattle.std.proofs.Common.{◌≡◌, List, take}
use Rattle.bk_desk.specs.declared.log.Entry.{Entry}
use Rattle.bk_desk.specs.Calls.{after, opening}
use Rattle.bk_desk.proofs.stop.is_pending.Given as goal

abbrev pub invariant-loop-call : goal.invariant-loop-call
invariant-loop-call l = (entries : List Entry) → l.pending ≡ (after (opening entries) (take l.call-index l.calls)).pending l.name
