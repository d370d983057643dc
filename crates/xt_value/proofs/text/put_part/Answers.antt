use Rattle.std.proofs.Common.{◌≢◌, get_or, string_bytes, refl, arith}
use Rattle.std.proofs.lemmas.Result.{IfOk-weaker}
use Rattle.xt_value.proofs.PartLemmas.{reference_adds, section_adds, data_adds, begins_with, no_mark}
use Rattle.xt_value.proofs.text.put_part.Goals as goal

pub returns-in-38-clause-value : goal.returns-in-38-clause-value
returns-in-38-clause-value c =
    let (behind, begins) = begins_with c.args.text.now c.as_bytes.result.now 0x26 c.as_bytes.ensures.value c.in-38.len_at_least (omega arith) in
    IfOk-weaker c.put_reference.result _ _ (λ rest puts. reference_adds c.args.inner c.args.text.now rest.now (string_bytes c.args.out.now) (string_bytes c.put_reference.new.out) behind begins puts) c.put_reference.ensures.value

pub returns-in-60-clause-value : goal.returns-in-60-clause-value
returns-in-60-clause-value c =
    let (behind, begins) = begins_with c.args.text.now c.as_bytes.result.now 0x3C c.as_bytes.ensures.value c.in-60.len_at_least (omega arith) in
    IfOk-weaker c.put_section.result _ _ (λ rest puts. section_adds c.args.inner c.args.text.now rest.now (string_bytes c.args.out.now) (string_bytes c.put_section.new.out) behind begins puts) c.put_section.ensures.value

pub returns-in-len1-up-clause-value : goal.returns-in-len1-up-clause-value
returns-in-len1-up-clause-value c =
    let (behind, begins) = begins_with c.args.text.now c.as_bytes.result.now _ c.as_bytes.ensures.value c.in-len1-up.len_at_least refl in
    let first : get_or c.as_bytes.result.now 0 0 ≢ 0x26 = (λ same. absurd (omega arith)) in
    let second : get_or c.as_bytes.result.now 0 0 ≢ 0x3C = (λ same. absurd (omega arith)) in
    IfOk-weaker c.put_data.result _ _ (λ rest puts. data_adds c.args.inner c.args.text.now rest.now (string_bytes c.args.out.now) (string_bytes c.put_data.new.out) _ behind begins (no_mark _ first second) puts) c.put_data.ensures.value

pub returns-in-len1-up-clause-shorter : goal.returns-in-len1-up-clause-shorter
returns-in-len1-up-clause-shorter c some =
    let (behind, begins) = begins_with c.args.text.now c.as_bytes.result.now _ c.as_bytes.ensures.value c.in-len1-up.len_at_least refl in
    let first : get_or c.as_bytes.result.now 0 0 ≢ 0x26 = (λ same. absurd (omega arith)) in
    let second : get_or c.as_bytes.result.now 0 0 ≢ 0x3C = (λ same. absurd (omega arith)) in
    c.put_data.ensures.shorter _ behind begins (no_mark _ first second)
