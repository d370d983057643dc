use Rattle.std.proofs.Common.{sym, ap, ◌∙◌, Err, subst}
use Rattle.std.specs.Prelude.{string_bytes}
use Rattle.std.specs.Str.{IsUtf8}
use Rattle.bk_script.proofs.Utf8.{plain_behind, pushed_utf8}
use Rattle.bk_script.specs.Word.{is_plain}
use Rattle.bk_script.specs.Reading.{string_body_at}
use Rattle.bk_script.proofs.Fronts.{StopsAt, behind_stops}
use Rattle.bk_script.proofs.Strings.{body_pushed, pushed_stops, pushed_less, body_ends, body_none, body_split, body_stopped}
use Rattle.std.proofs.lemmas.Result.{err_from_is_err_and}
use Rattle.xt_lex.proofs.Theorems.{after_takes}
use Rattle.bk_script.proofs.string.string_body.Goals as goal

pub loop-escape-init : goal.loop-escape-init
loop-escape-init c = record {
  utf8 = subst IsUtf8 (sym c.split_plain.ensures.rest) (plain_behind c.args.text.now c.utf8.text);
  stops = subst (StopsAt is_plain) (sym c.split_plain.ensures.rest) (behind_stops is_plain c.args.text.now);
  same = body_split c.args.text.now (string_bytes c.in-Ok.value) c.split_plain.result.1.now (c.in-Ok.ensures.ok ∙ c.split_plain.ensures.plain) c.split_plain.ensures.rest;
}

pub returns-in_err-rest : goal.returns-in_err-rest
returns-in_err-rest c =
    let p = err_from_is_err_and c.from_residual.result c.from_residual.ensures.1 in
    rw (p.1, p.2) (body_stopped (c.in_err-rest.field-0.0) (string_bytes c.loop-escape.value) c.loop-escape.rest.now c.in-Some.escape.now (string_body_at c.args.text.now) (after_takes 92 c.loop-escape.rest.now c.in-Some.escape.now (sym c.in-Some.ensures)) (λ is. c.in_err-rest.ensures.none (ap (λ s. Err s) is)) c.loop-escape.invariant.same)

pub loop-escape-smaller : goal.loop-escape-smaller
loop-escape-smaller c = pushed_less (string_bytes c.loop-escape.value) c.loop-escape.rest.now c.in-Some.escape.now (string_bytes c.push_escape.new.value) c.in_ok-rest.rest.now (after_takes 92 c.loop-escape.rest.now c.in-Some.escape.now (sym c.in-Some.ensures)) c.in_ok-rest.ensures.value

pub loop-escape-preserved : goal.loop-escape-preserved
loop-escape-preserved c =
    let rest = after_takes 92 c.loop-escape.rest.now c.in-Some.escape.now (sym c.in-Some.ensures) in
    let pushed = c.in_ok-rest.ensures.value in
    record {
      utf8 = pushed_utf8 (string_bytes c.loop-escape.value) c.loop-escape.rest.now c.in-Some.escape.now (string_bytes c.push_escape.new.value) c.in_ok-rest.rest.now rest pushed c.loop-escape.invariant.utf8;
      stops = pushed_stops (string_bytes c.loop-escape.value) c.in-Some.escape.now (string_bytes c.push_escape.new.value) c.in_ok-rest.rest.now pushed;
      same = body_pushed (string_bytes c.loop-escape.value) c.loop-escape.rest.now c.in-Some.escape.now (string_bytes c.push_escape.new.value) c.in_ok-rest.rest.now (string_body_at c.args.text.now) rest pushed c.loop-escape.invariant.same;
    }

pub returns-in-Some-after : goal.returns-in-Some-after
returns-in-Some-after c = body_ends (string_bytes c.loop-escape.value) c.loop-escape.rest.now c.in-Some-after.rest.now (string_body_at c.args.text.now) (sym c.in-Some-after.ensures) c.loop-escape.invariant.same

pub returns : goal.returns
returns c = body_none (string_bytes c.loop-escape.value) c.loop-escape.rest.now (string_body_at c.args.text.now) (sym c.in_default-after.ensures) (sym c.in-None.ensures) c.loop-escape.invariant.stops c.loop-escape.invariant.same
