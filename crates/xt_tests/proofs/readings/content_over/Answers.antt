use Rattle.std.proofs.Common.{List, ℕ, sym, subst}
use Rattle.xt_spec.specs.Reading.{document, IsReading}
use Rattle.xt_tree.specs.declared.source.Src.{Src}
use Rattle.xt_tree.specs.Meaning.{items_in}
use Rattle.xt_tests.proofs.readings.content_over.Goals as goal

pub has_content-requires-clause-reading : goal.has_content-requires-clause-reading
has_content-requires-clause-reading g c =
    subst (λ (s : List Src). IsReading document c.in-Ok-text_of.text.now (items_in c.in-Ok-text_of.text.now s)) (sym c.items.ensures.value)
    (subst (λ (t : List ℕ). IsReading document t (items_in t c.in-Ok.tape)) (sym c.in-Ok-text_of.ensures.0) c.in-Ok.ensures.value)
