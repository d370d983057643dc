use Rattle.std.proofs.Common.{◌≡◌, length, Some, None, ap, sym, ◌∙◌, arith}
use Rattle.xt_lex.specs.Scan.{drop_while, many, is_plain_in_subset, after_subset_part}
use Rattle.xt_lex.proofs.Many.{many_step, many_stop}
use Rattle.xt_lex.proofs.Subsets.{part_shrinks, many_plain, marked_is, marked_shrinks}
use Rattle.xt_lex.proofs.Values.{drop_while_twice, drop_while_shorter}
use Rattle.xt_lex.proofs.doctype.after_parts.Goals as goal

pub loop-next-init : goal.loop-next-init
loop-next-init c =
    let is = c.at_mark-rest.ensures in
    record {
      utf8 = c.at_mark-rest.utf8;
      marked = ap (drop_while is_plain_in_subset) is ∙ drop_while_twice is_plain_in_subset c.args.text.now ∙ sym is;
      same = ap (many after_subset_part) is ∙ many_plain c.args.text.now;
    }

pub loop-next-preserved : goal.loop-next-preserved
loop-next-preserved c =
    let is = c.at_mark-rest-in-Some.ensures in
    let found : after_subset_part c.loop-next.rest.now ≡ Some c.in-Some.next.now = sym (marked_is c.loop-next.rest.now c.loop-next.invariant.marked) ∙ sym c.in-Some.ensures in
    record {
      utf8 = c.at_mark-rest-in-Some.utf8;
      marked = ap (drop_while is_plain_in_subset) is ∙ drop_while_twice is_plain_in_subset c.in-Some.next.now ∙ sym is;
      same = ap (many after_subset_part) is ∙ many_plain c.in-Some.next.now ∙ sym (many_step after_subset_part part_shrinks c.loop-next.rest.now c.in-Some.next.now found) ∙ c.loop-next.invariant.same;
    }

pub loop-next-smaller : goal.loop-next-smaller
loop-next-smaller c =
    let less = marked_shrinks c.loop-next.rest.now c.in-Some.next.now (sym c.in-Some.ensures) in
    omega (arith, ap length c.at_mark-rest-in-Some.ensures, drop_while_shorter is_plain_in_subset c.in-Some.next.now)

pub returns : goal.returns
returns c =
    let none : after_subset_part c.loop-next.rest.now ≡ None = sym (marked_is c.loop-next.rest.now c.loop-next.invariant.marked) ∙ sym c.in_default.ensures in
    sym (many_stop after_subset_part c.loop-next.rest.now none) ∙ c.loop-next.invariant.same
