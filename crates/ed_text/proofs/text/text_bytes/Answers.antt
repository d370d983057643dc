use Rattle.std.proofs.Common.{◌∙◌, ap, sym}
use Rattle.std.proofs.lemmas.Result.{IfOk-weaker}
use Rattle.std.proofs.lemmas.Str.{encodes-chars}
use Rattle.std.specs.Str.{chars}
use Rattle.xt_spec.specs.Tree.{source_text}
use Rattle.ed_spec.specs.TextEdit.{text_items}
use Rattle.ed_text.proofs.ReadingLemmas.{as_it_is_text}
use Rattle.ed_text.proofs.text.text_bytes.Goals as goal

pub returns-then-plain : goal.returns-then-plain
returns-then-plain c =
    let value = c.args.value.now in
    let bytes = c.as_bytes.ensures.value ∙ sym (ap (λ p. source_text (text_items p (chars value))) c.if-plain.true ∙ as_it_is_text (chars value) ∙ encodes-chars value c.utf8.value) in
    record { value = IfOk-weaker c.from_slice.result _ _ (λ new is. is ∙ bytes) c.from_slice.ensures.items }
