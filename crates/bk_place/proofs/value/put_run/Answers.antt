use Rattle.bk_place.proofs.ValueLemmas.{run_prints, run_and_byte, first_and_others}
use Rattle.bk_place.proofs.value.put_run.Goals as goal

pub returns-in-empty-clause-value : goal.returns-in-empty-clause-value
returns-in-empty-clause-value c =
    rw (← c.split_unescaped.ensures.value) (rw c.in_ok-put.ensures.value (run_prints c.args.out.now.items c.split_unescaped.result.0.now c.split_unescaped.result.1.now c.split_unescaped.ensures.plain))

pub returns-in_ok-put_byte-in-len1-up-clause-value : goal.returns-in_ok-put_byte-in-len1-up-clause-value
returns-in_ok-put_byte-in-len1-up-clause-value c =
    rw (← c.split_unescaped.ensures.value) (run_and_byte c.args.out.now.items c.put.new.out.items c.put_byte.new.out.items c.split_unescaped.result.0.now c.split_unescaped.result.1.now _ _ c.split_unescaped.ensures.plain
    (first_and_others c.split_unescaped.result.1.now 0 c.in-len1-up.len_at_least) c.in_ok-put.ensures.value c.in_ok-put_byte-in-len1-up.ensures.value)
