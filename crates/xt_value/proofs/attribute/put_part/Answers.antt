use Rattle.std.proofs.Common.{◌≢◌, get_or, string_bytes, refl, arith}
use Rattle.std.proofs.lemmas.Result.{IfOk-weaker}
use Rattle.xt_value.proofs.PartLemmas.{begins_with}
use Rattle.xt_value.proofs.ValueLemmas.{reference_adds, characters_add, no_ampersand}
use Rattle.xt_value.proofs.attribute.put_part.Goals as goal

pub returns-in-38-clause-value : goal.returns-in-38-clause-value
returns-in-38-clause-value c =
    let (behind, begins) = begins_with c.args.text.now c.as_bytes.result.now 0x26 c.as_bytes.ensures.value c.in-38.len_at_least (omega arith) in
    IfOk-weaker c.put_reference.result _ _ (λ rest puts q. reference_adds q c.args.text.now rest.now (string_bytes c.args.out.now) (string_bytes c.put_reference.new.out) behind begins puts) c.put_reference.ensures.value

pub returns-in-len1-up-clause-value : goal.returns-in-len1-up-clause-value
returns-in-len1-up-clause-value c =
    let (behind, begins) = begins_with c.args.text.now c.as_bytes.result.now _ c.as_bytes.ensures.value c.in-len1-up.len_at_least refl in
    let apart : get_or c.as_bytes.result.now 0 0 ≢ 0x26 = (λ same. absurd (omega arith)) in
    IfOk-weaker c.put_characters.result _ _ (λ rest puts q. characters_add q c.args.text.now rest.now (string_bytes c.args.out.now) (string_bytes c.put_characters.new.out) _ behind begins (no_ampersand _ apart) puts) c.put_characters.ensures.value

pub returns-in-len1-up-clause-shorter : goal.returns-in-len1-up-clause-shorter
returns-in-len1-up-clause-shorter c some =
    let (behind, begins) = begins_with c.args.text.now c.as_bytes.result.now _ c.as_bytes.ensures.value c.in-len1-up.len_at_least refl in
    let apart : get_or c.as_bytes.result.now 0 0 ≢ 0x26 = (λ same. absurd (omega arith)) in
    c.put_characters.ensures.shorter _ behind begins (no_ampersand _ apart)
