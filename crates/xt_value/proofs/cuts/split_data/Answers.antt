use Rattle.xt_value.specs.Parts.{is_mark}
use Rattle.xt_value.proofs.Searches.{cut_at, may_cut, mark_ascii}
use Rattle.xt_value.proofs.cuts.split_data.Goals as goal

pub split_at-requires : goal.split_at-requires
split_at-requires c = may_cut is_mark c.args.text.now c.place_of_either.result mark_ascii c.place_of_either.ensures.value

pub returns : goal.returns
returns c = record {
  value = cut_at is_mark c.args.text.now c.split_at.result.0.now c.split_at.result.1.now c.place_of_either.result c.place_of_either.ensures.value c.split_at.ensures.front c.split_at.ensures.back;
}
