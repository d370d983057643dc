use Rattle.std.proofs.Common.{rules, tests}
use Rattle.std.proofs.lemmas.Iterator.{YieldsList-from_chars}
use Rattle.std.proofs.lemmas.Iterator.Search.{all_from_yields_List}
use Rattle.xt_spec.specs.Char.{is_not_colon}
use Rattle.xt_lex.proofs.names.has_ncname_chars.Goals as goal

pub returns-then-has_name_chars : goal.returns-then-has_name_chars
returns-then-has_name_chars c =
    let all = all_from_yields_List is_not_colon _ _ c.all.result c.all.ensures.ran (YieldsList-from_chars _ c.utf8.text c.chars.ensures.rest) (λ x b q k. search (rules, tests)) in
    rw (← c.has_name_chars.ensures, c.if-has_name_chars.true) all
