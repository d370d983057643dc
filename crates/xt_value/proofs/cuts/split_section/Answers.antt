use Rattle.std.proofs.Common.{◌≡◌, ◌∙◌, ◌++◌, List, ℕ, codes, sym, ap}
use Rattle.xt_value.proofs.Sections.{section_cut, section_begins, parts_found}
use Rattle.xt_value.proofs.cuts.split_section.Goals as goal

pub returns-clause-value : goal.returns-clause-value
returns-clause-value c section inner behind is spelled =
    let body = c.in_ok-strip_prefix.field-0.now in
    let cut = c.in_ok-strip_prefix.ensures.cases in
    let begins : c.args.text.now ≡ codes "<![CDATA[" ++ body = cut.1.1 ∙ ap (λ (l : List ℕ). codes "<![CDATA[" ++ l) (sym cut.2) in
    parts_found c.split_close.result inner behind (c.split_close.ensures.value ∙ section_cut c.args.text.now section inner behind body is spelled begins)

pub returns-in_err-strip_prefix-clause-value : goal.returns-in_err-strip_prefix-clause-value
returns-in_err-strip_prefix-clause-value c section inner behind is spelled =
    absurd (c.in_err-strip_prefix.ensures.cases (inner ++ (codes "]]>" ++ behind)) (section_begins c.args.text.now section inner behind is spelled))
