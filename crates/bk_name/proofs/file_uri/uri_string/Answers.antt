use Rattle.std.proofs.Common.{◌++◌, ap}
use Rattle.bk_name.proofs.EscapeLemmas.{percent_encode-escaped_name}
use Rattle.bk_name.proofs.LawLemmas.{file_uris_name}
use Rattle.bk_name.proofs.file_uri.uri_string.Goals as goal

pub returns-clause-value : goal.returns-clause-value
returns-clause-value c =
    rw (
      c.in_ok-append_to.ensures.ok,
      c.percent_encode.ensures.text,
      c.as_bytes.ensures.value,
      c.as_str-2.ensures.value,
      c.in_ok-text.ensures.ok,
      c.as_str.ensures.value,
    )
    (ap (λ e. c.args.base.now ++ e) (percent_encode-escaped_name c.args.name.now))

pub returns-clause-keeps : goal.returns-clause-keeps
returns-clause-keeps c = file_uris_name c.args.base.now c.args.name.now c.as_str.ensures.keeps c.as_str-2.ensures.keeps
