use Rattle.std.proofs.Common.{◌≡◌, ◌++◌, drop, option_map}
use Rattle.xt_spec.specs.Limit.{most_file_bytes}
use Rattle.ed_spec.specs.Place as spec
use Rattle.xt_tree.specs.Meaning.{items_in}
use Rattle.ed_session.specs.Items.{IsNarrow}
use Rattle.ed_session.proofs.place.path_of.Given as goal

-- the path so far, and the one that is left to find
abbrev pub invariant-loop-number : goal.invariant-loop-number
invariant-loop-number l = record {
  along : spec.path_along (items_in l.bytes l.items) l.place ≡ option_map (λ path. l.path.items ++ path) (spec.path_along (items_in l.bytes l.level) (drop l.number-index l.place));
  few : IsNarrow most_file_bytes (items_in l.bytes l.level);
}
