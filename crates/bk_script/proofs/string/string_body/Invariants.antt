use Rattle.std.proofs.Common.{◌≡◌, length}
use Rattle.std.specs.Prelude.{string_bytes}
use Rattle.std.specs.Str.{IsUtf8}
use Rattle.bk_script.specs.Word.{is_plain}
use Rattle.bk_script.specs.Reading.{string_body_at}
use Rattle.bk_script.proofs.Fronts.{StopsAt}
use Rattle.bk_script.proofs.Strings.{with_value}
use Rattle.bk_script.proofs.string.string_body.Given as goal

abbrev pub invariant-loop-escape : goal.invariant-loop-escape
invariant-loop-escape l = record {
  utf8 : IsUtf8 l.rest;
  stops : StopsAt is_plain l.rest;
  same : with_value (string_bytes l.value) (string_body_at l.rest) ≡ string_body_at l.text;
}

abbrev pub decreases-loop-escape : goal.decreases-loop-escape
decreases-loop-escape l = length l.rest
