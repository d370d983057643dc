use Rattle.std.proofs.Common.{string_bytes}
use Rattle.xt_value.proofs.TokenLemmas.{next_put}
use Rattle.xt_value.proofs.tokens.put_next.Goals as goal

pub returns-clause-value : goal.returns-clause-value
returns-clause-value c =
    next_put c.args.text.now c.split_blank.result.0.now c.split_blank.result.1.now c.behind_ascii.result.now (string_bytes c.args.out.now) (string_bytes c.put_token.new.out) c.split_blank.ensures.value (c.behind_ascii.ensures.none, c.behind_ascii.ensures.value) c.in_ok-put_token.ensures.value
