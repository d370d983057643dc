use Rattle.std.proofs.Common.{◌≡◌, [], length, string_bytes}
use denote.Text.{Utf8}
use denote.Shadow.{shadow}
use Rattle.xt_value.specs.Tokens.{tokens, with_tokens}
use Rattle.xt_value.proofs.tokens.tokenized.Given as goal

abbrev pub invariant-loop-rest : goal.invariant-loop-rest
invariant-loop-rest l = shadow (Utf8 l.rest) × (with_tokens [] (tokens l.fn.value) ≡ with_tokens (string_bytes l.out) (tokens l.rest))

abbrev pub decreases-loop-rest : goal.decreases-loop-rest
decreases-loop-rest l = length l.rest
