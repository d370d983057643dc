use Rattle.xt_value.specs.Parts.{is_ampersand}
use Rattle.xt_value.proofs.Searches.{cut_at, may_cut, ampersand_ascii}
use Rattle.xt_value.proofs.cuts.split_characters.Goals as goal

pub split_at-requires : goal.split_at-requires
split_at-requires c = may_cut is_ampersand c.args.text.now c.place_of.result ampersand_ascii c.place_of.ensures.value

pub returns : goal.returns
returns c = record {
  value = cut_at is_ampersand c.args.text.now c.split_at.result.0.now c.split_at.result.1.now c.place_of.result c.place_of.ensures.value c.split_at.ensures.front c.split_at.ensures.back;
}
