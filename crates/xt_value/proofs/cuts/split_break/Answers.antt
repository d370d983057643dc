use Rattle.xt_value.specs.Parts.{is_break}
use Rattle.xt_value.proofs.Searches.{cut_at, may_cut, break_ascii}
use Rattle.xt_value.proofs.cuts.split_break.Goals as goal

pub split_at-requires : goal.split_at-requires
split_at-requires c = may_cut is_break c.args.text.now c.place_of_three.result break_ascii c.place_of_three.ensures.value

pub returns : goal.returns
returns c = record {
  value = cut_at is_break c.args.text.now c.split_at.result.0.now c.split_at.result.1.now c.place_of_three.result c.place_of_three.ensures.value c.split_at.ensures.front c.split_at.ensures.back;
}
