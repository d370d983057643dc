use Rattle.std.proofs.Common.{◌≡◌, ◌∙◌, ap, sym, string_bytes, bytes_eq, codes, true, false}
use Rattle.std.proofs.lemmas.Result.{IfOk-weaker}
use Rattle.xt_spec.specs.Value.{tokenized}
use Rattle.xt_value.proofs.ValueLemmas.{quoted_value, typed_id, typed_cdata}
use Rattle.xt_value.proofs.attribute.attribute_value.Goals as goal

pub returns-then-eq : goal.returns-then-eq
returns-then-eq c =
    let is : bytes_eq c.args.name.now (codes "xml:id") ≡ true = sym c.if-eq.ensures in
    record {
      exact = IfOk-weaker c.tokenized.result _ _ (λ value same other has.
          typed_id c.args.name.now other is ∙ ap tokenized (quoted_value c.args.quoted.now c.unquoted.result.now (string_bytes c.in_ok-value.value) c.unquoted.ensures.value c.in_ok-value.ensures.exact other has ∙ sym c.as_str.ensures.value) ∙ sym same) c.tokenized.ensures.value;
    }

pub returns-else-eq : goal.returns-else-eq
returns-else-eq c =
    let is : bytes_eq c.args.name.now (codes "xml:id") ≡ false = sym c.if-eq.ensures in
    record {
      exact = λ other has.
          typed_cdata c.args.name.now other is ∙ quoted_value c.args.quoted.now c.unquoted.result.now (string_bytes c.in_ok-value.value) c.unquoted.ensures.value c.in_ok-value.ensures.exact other has;
    }
