use Rattle.std.proofs.Common.{◌≡◌, Some, Err, refl, sym, ap, ◌∙◌}
use Rattle.percent_encoding.specs.Percent.{percent_decode}
use Rattle.bk_name.proofs.BaseLemmas.{name_in-outside, name_in-inside, name_spelled-tail, name_spelled-ok, name_spelled-bad}
use Rattle.bk_name.proofs.file_uri.name_of.Goals as goal

pub returns-in_default : goal.returns-in_default
returns-in_default c =
    let cases = rw (c.as_bytes.ensures.value, c.as_bytes-2.ensures.value, c.as_str.ensures.value, c.as_str-2.ensures.value) at c.in_default.ensures.cases in
    record { value = sym (name_in-outside c.args.base.now c.args.uri.now cases) }

pub returns-then-has_tail : goal.returns-then-has_tail
returns-then-has_tail c =
    let cases = rw (c.as_bytes.ensures.value, c.as_bytes-2.ensures.value, c.as_str.ensures.value, c.as_str-2.ensures.value) at c.in-Some.ensures.cases in
    let inside = name_in-inside c.args.base.now c.args.uri.now c.in-Some.rest.now cases.0 cases.1 in
    record { value = sym (inside ∙ name_spelled-tail c.in-Some.rest.now (sym c.has_tail.ensures.value ∙ c.if-has_tail.true)) }

pub returns-in-Ok : goal.returns-in-Ok
returns-in-Ok c =
    let cases = rw (c.as_bytes.ensures.value, c.as_bytes-2.ensures.value, c.as_str.ensures.value, c.as_str-2.ensures.value) at c.in-Some.ensures.cases in
    let inside = name_in-inside c.args.base.now c.args.uri.now c.in-Some.rest.now cases.0 cases.1 in
    let decoded : c.as_slice.result.now ≡ percent_decode c.in-Some.rest.now =
    rw (c.as_slice.ensures.value, c.in_ok-append_to.ensures.ok, c.new-bytes.ensures.items, c.percent_decode.ensures.bytes) refl in
    let no_tail = sym c.has_tail.ensures.value ∙ c.if-has_tail.false in
    record {
      value = ap Some c.in-Ok.ensures.value.0 ∙ sym (inside ∙ name_spelled-ok c.in-Some.rest.now c.as_slice.result.now no_tail decoded c.in-Ok.ensures.value.1);
    }

pub returns-in-Err-BadName : goal.returns-in-Err-BadName
returns-in-Err-BadName c =
    let cases = rw (c.as_bytes.ensures.value, c.as_bytes-2.ensures.value, c.as_str.ensures.value, c.as_str-2.ensures.value) at c.in-Some.ensures.cases in
    let inside = name_in-inside c.args.base.now c.args.uri.now c.in-Some.rest.now cases.0 cases.1 in
    let decoded : c.as_slice.result.now ≡ percent_decode c.in-Some.rest.now =
    rw (c.as_slice.ensures.value, c.in_ok-append_to.ensures.ok, c.new-bytes.ensures.items, c.percent_decode.ensures.bytes) refl in
    let no_tail = sym c.has_tail.ensures.value ∙ c.if-has_tail.false in
    let no_name = c.in-Err-BadName.ensures.fault (ap Err c.in-Err-BadName.field-0-is) in
    record { value = sym (inside ∙ name_spelled-bad c.in-Some.rest.now c.as_slice.result.now no_tail decoded no_name) }
