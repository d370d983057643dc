use Rattle.xt_value.proofs.LineLemmas.{break_alone, break_ascii}
use Rattle.xt_value.proofs.lines.behind_break.Goals as goal

pub returns-in-None-clause-value : goal.returns-in-None-clause-value
returns-in-None-clause-value c b behind begins is =
    break_alone c.args.text.now b behind c.behind_ascii.result.now begins is c.in-None.ensures.cases (c.behind_ascii.ensures.value b behind begins (break_ascii b is))
