use Rattle.std.proofs.Common.{◌≡◌, ◌≢◌, ◌∙◌, ℕ, List, ◌+◌, length, sym, ap, subst, arith}
use Rattle.std.proofs.lemmas.Bool.Decides.{nat_tests}
use Rattle.xt_spec.specs.Tree.{Items, source_text}
use Rattle.xt_spec.specs.Reading.{plain_text, IsOrdered}
use Rattle.xt_lex.specs.Data.{AreFirstChars}
use Rattle.xt_tree.specs.Meaning.{items_in}
use Rattle.xt_read.specs.FrontSteps.{one_text_items}
use Rattle.xt_read.proofs.PlainTexts.{no_char_behind, one_text_reads}
use Rattle.xt_read.proofs.text.read_one_text.Goals as goal

pub returns-then-at-text-clause-fault : goal.returns-then-at-text-clause-fault
returns-then-at-text-clause-fault c =
    let text = c.args.text.now in
    let short : c.mark_len-mark.result + c.chars_len.result ≢ length text = grind (arith, nat_tests) in
    no_char_behind text c.mark_len-mark.result c.chars_len.result c.utf8.text c.mark_len-mark.ensures.value c.mark_len-mark.ensures.within
    (subst (λ (t : List ℕ). AreFirstChars t c.chars_len.result) c.range_from.ensures.value c.chars_len.ensures.value) short

pub returns-in-Ok-clause-value : goal.returns-in-Ok-clause-value
returns-in-Ok-clause-value c =
    let text = c.args.text.now in
    let mark = c.mark_len-mark.result in
    let whole : mark + c.chars_len.result ≡ length text = grind (arith, nat_tests) in
    let same : items_in text c.in-Ok.items ≡ one_text_items text mark (length text) = c.in-Ok.ensures.value text ∙ ap (one_text_items text mark) whole in
    subst (λ (i : Items). IsOrdered plain_text i × (source_text i ≡ text)) (sym same)
    (one_text_reads text mark c.chars_len.result c.mark_len-mark.ensures.value c.mark_len-mark.ensures.within (subst (λ (t : List ℕ). AreFirstChars t c.chars_len.result) c.range_from.ensures.value c.chars_len.ensures.value) whole)
