use Rattle.std.proofs.Common.{sym, arith, get_or, subst}
use Rattle.std.proofs.lemmas.Bool.{both_ways}
use Rattle.xt_lex.specs.Data.{IsDelimiter, IsFirstData}
use Rattle.xt_lex.specs.Kinds.{kind_of}
use Rattle.xt_lex.proofs.Fronts.{markup_shorter, markup_longest, markup_none, data_longest, data_none}
use Rattle.xt_lex.proofs.token.front_token.Goals as goal

pub overflow_sub-result : goal.overflow_sub-result
overflow_sub-result c = markup_shorter c.args.text.now c.in-Some.rest.now (kind_of c.in-Some.kind) c.utf8.text (sym c.in-Some.ensures)

pub returns-in-Some : goal.returns-in-Some
returns-in-Some c =
    let begins : IsDelimiter (get_or c.args.text.now 0 0) = rw c.as_bytes.ensures.value at (c.is_delimiter.ensures.0 c.if-is_delimiter.true) in
    markup_longest c.args.text.now c.in-Some.rest.now (kind_of c.in-Some.kind) c.utf8.text begins (sym c.in-Some.ensures)

pub returns-in-None : goal.returns-in-None
returns-in-None c =
    let begins : IsDelimiter (get_or c.args.text.now 0 0) = rw c.as_bytes.ensures.value at (c.is_delimiter.ensures.0 c.if-is_delimiter.true) in
    markup_none c.args.text.now begins (sym c.in-None.ensures)

pub returns-then-len-eq0 : goal.returns-then-len-eq0
returns-then-len-eq0 c =
    let plain : IsDelimiter (get_or c.args.text.now 0 0) → ⊥ = λ begins. both_ways c.is_delimiter.result c.if-is_delimiter.false (c.is_delimiter.ensures.1 (subst (λ t. IsDelimiter (get_or t 0 0)) (sym c.as_bytes.ensures.value) begins)) in
    data_none c.args.text.now plain (subst (IsFirstData c.args.text.now) c.if-len-eq0.true c.data_len-len.ensures)

pub returns-else-len-eq0 : goal.returns-else-len-eq0
returns-else-len-eq0 c =
    let plain : IsDelimiter (get_or c.args.text.now 0 0) → ⊥ = λ begins. both_ways c.is_delimiter.result c.if-is_delimiter.false (c.is_delimiter.ensures.1 (subst (λ t. IsDelimiter (get_or t 0 0)) (sym c.as_bytes.ensures.value) begins)) in
    data_longest c.args.text.now c.data_len-len.result plain c.data_len-len.ensures (omega arith)
