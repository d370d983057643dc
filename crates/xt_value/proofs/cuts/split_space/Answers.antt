use Rattle.std.proofs.Common.{◌≡◌}
use Rattle.std.specs.List.{position_or_len}
use Rattle.xt_spec.specs.Char.{is_space}
use Rattle.xt_lex.proofs.Theorems.{space_ascii}
use Rattle.xt_value.proofs.Searches.{cut_at, may_cut}
use Rattle.xt_value.proofs.cuts.split_space.Goals as goal

pub split_at-requires : goal.split_at-requires
split_at-requires c =
    let n : c.place_of_space.result ≡ position_or_len is_space c.args.text.now = cc in
    may_cut is_space c.args.text.now c.place_of_space.result space_ascii n

pub returns : goal.returns
returns c =
    let n : c.place_of_space.result ≡ position_or_len is_space c.args.text.now = cc in
    record {
      value = cut_at is_space c.args.text.now c.split_at.result.0.now c.split_at.result.1.now c.place_of_space.result n c.split_at.ensures.front c.split_at.ensures.back;
    }
