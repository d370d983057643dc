use Rattle.std.proofs.Common.{◌≡◌, ◌∙◌, ◌++◌, ap, sym, Some, rules}
use Rattle.std.specs.Option.{option_copied}
use Rattle.xt_spec.specs.LineEnds.{lines_read}
use Rattle.xt_value.proofs.MarkupLemmas.{pi_cut}
use Rattle.xt_value.proofs.markup.pi_parts.Goals as goal

pub returns : goal.returns
returns c = record {
  exact = λ target inner is.
      let found : option_copied c.between.result ≡ Some (target ++ is.space ++ inner) = c.between.ensures.value (target ++ is.space ++ inner) is.spelled in
      let body : c.unwrap_or.result.now ≡ target ++ is.space ++ inner = search rules in
      let parts = pi_cut c.args.pi.now target inner c.unwrap_or.result.now c.split_space.result.0.now c.split_space.result.1.now is body c.split_space.ensures.value in
      (parts.0, ap lines_read (parts.1 ∙ sym c.behind_space.ensures.value) ∙ sym c.in_ok-value.ensures.value);
}
