use Rattle.xt_value.specs.Tokens.{is_blank}
use Rattle.xt_value.proofs.Searches.{cut_at, may_cut, blank_ascii}
use Rattle.xt_value.proofs.cuts.split_blank.Goals as goal

pub split_at-requires : goal.split_at-requires
split_at-requires c = may_cut is_blank c.args.text.now c.place_of.result blank_ascii c.place_of.ensures.value

pub returns : goal.returns
returns c = record {
  value = cut_at is_blank c.args.text.now c.split_at.result.0.now c.split_at.result.1.now c.place_of.result c.place_of.ensures.value c.split_at.ensures.front c.split_at.ensures.back;
}
