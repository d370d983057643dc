use Rattle.std.proofs.Common.{refl, ◌∙◌, eq-eqb}
use Rattle.std.proofs.lemmas.Bool.{ne_eqb}
use Rattle.bk_script.proofs.Lines.{ends_by}
use Rattle.bk_script.proofs.script.without_cr.Goals as goal

pub returns-then-last-eq13 : goal.returns-then-last-eq13
returns-then-last-eq13 c = rw (ends_by c.args.line.now c.in-len1-up.len_at_least ∙ eq-eqb _ _ c.if-last-eq13.true) refl

pub returns-else-last-eq13 : goal.returns-else-last-eq13
returns-else-last-eq13 c = rw (ends_by c.args.line.now c.in-len1-up.len_at_least ∙ ne_eqb _ _ c.if-last-eq13.false) refl
