use Rattle.std.proofs.Common.{◌∙◌, ap}
use Rattle.std.specs.List.{prefix_len}
use Rattle.xt_escape.specs.Kept.{is_kept_byte}
use Rattle.xt_escape.proofs.Inner.{kept_cut, kept_front}
use Rattle.xt_escape.proofs.content.split_kept.Goals as goal

pub split_at-requires : goal.split_at-requires
split_at-requires c = kept_cut c.args.text.now c.kept_len.result (c.kept_len.ensures.value ∙ ap (prefix_len is_kept_byte) c.as_bytes.ensures.value)

pub returns-clause-value : goal.returns-clause-value
returns-clause-value c =
    rw c.split_at.ensures.front (rw c.split_at.ensures.back (kept_front c.args.text.now c.kept_len.result c.utf8.text (c.kept_len.ensures.value ∙ ap (prefix_len is_kept_byte) c.as_bytes.ensures.value)))
