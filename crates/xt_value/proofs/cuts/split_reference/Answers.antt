use Rattle.std.proofs.Common.{◌∙◌, List, ℕ, Some, None, subst}
use Rattle.memchr.specs.Find.{IsFirstByte, is_byte}
use Rattle.xt_value.proofs.Searches.{cut_behind, never_cut, may_cut_behind}
use Rattle.xt_value.proofs.cuts.split_reference.Goals as goal

pub split_at-requires : goal.split_at-requires
split_at-requires c = may_cut_behind c.args.text.now c.in-Some.at c.utf8.text (subst (λ (l : List ℕ). IsFirstByte (is_byte 0x3B) l (Some c.in-Some.at)) c.as_bytes.ensures.value c.in-Some.ensures)

pub returns-in-Some-clause-value : goal.returns-in-Some-clause-value
returns-in-Some-clause-value c front rest lacks is =
    let cut = cut_behind c.args.text.now front rest c.in-Some.at (subst (λ (l : List ℕ). IsFirstByte (is_byte 0x3B) l (Some c.in-Some.at)) c.as_bytes.ensures.value c.in-Some.ensures) lacks is in
    (c.split_at.ensures.front ∙ cut.0, c.split_at.ensures.back ∙ cut.1)

pub returns-in-None-clause-value : goal.returns-in-None-clause-value
returns-in-None-clause-value c front rest lacks is =
    absurd (never_cut c.args.text.now front rest (subst (λ (l : List ℕ). IsFirstByte (is_byte 0x3B) l None) c.as_bytes.ensures.value c.in-None.ensures) is)
