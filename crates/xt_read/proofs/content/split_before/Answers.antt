use Rattle.std.proofs.Common.{◌≡◌, arith, eqb-true, ap, ◌∙◌, take, drop}
use Rattle.std.proofs.lemmas.Bool.{not-false}
use Rattle.std.specs.List.{prefix_len}
use Rattle.xt_lex.proofs.Theorems.{boundary_at_stop, drop_while_is, take_while_is}
use Rattle.xt_read.specs.References.{is_other}
use Rattle.xt_read.proofs.content.split_before.Goals as goal

pub split_at-requires : goal.split_at-requires
split_at-requires c =
    let n : c.len_before.result ≡ prefix_len (is_other c.args.byte) c.args.text.now = rw c.as_bytes.ensures.value at c.len_before.ensures in
    rw n (boundary_at_stop (is_other c.args.byte) c.args.text.now (λ b e. let is = eqb-true b c.args.byte (not-false _ e) in let small = c.requires in omega arith))

pub returns-clause-value : goal.returns-clause-value
returns-clause-value c =
    let n : c.len_before.result ≡ prefix_len (is_other c.args.byte) c.args.text.now = rw c.as_bytes.ensures.value at c.len_before.ensures in
    c.split_at.ensures.front ∙ ap (λ n. take n c.args.text.now) n ∙ take_while_is (is_other c.args.byte) c.args.text.now

pub returns-clause-rest : goal.returns-clause-rest
returns-clause-rest c =
    let n : c.len_before.result ≡ prefix_len (is_other c.args.byte) c.args.text.now = rw c.as_bytes.ensures.value at c.len_before.ensures in
    c.split_at.ensures.back ∙ ap (λ n. drop n c.args.text.now) n ∙ drop_while_is (is_other c.args.byte) c.args.text.now
