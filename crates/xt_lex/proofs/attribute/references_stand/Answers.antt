use Rattle.std.proofs.Common.{◌≡◌, length, Some, None, ap, sym, ◌∙◌, arith}
use Rattle.xt_lex.specs.Kinds.{kind_of}
use Rattle.xt_lex.specs.Scan.{drop_while, is_no_ampersand, reference, references_stand}
use Rattle.xt_lex.proofs.Values.{behind_stand, step_stand, reference_shorter, stuck_stand, drop_while_twice, drop_while_shorter, nonempty}
use Rattle.xt_lex.proofs.attribute.references_stand.Goals as goal

pub loop-rest-init : goal.loop-rest-init
loop-rest-init c =
    let is = c.at_ampersand-rest.ensures in
    record {
      utf8 = c.at_ampersand-rest.utf8;
      begins = ap (drop_while is_no_ampersand) is ∙ drop_while_twice is_no_ampersand c.args.text.now ∙ sym is;
      same = ap references_stand is ∙ behind_stand c.args.text.now;
    }

pub loop-rest-preserved : goal.loop-rest-preserved
loop-rest-preserved c =
    let is = c.at_ampersand-rest-in-Some.ensures in
    let found : reference c.loop-rest.rest.now ≡ Some (kind_of c.in-Some.field-0-0, c.in-Some.next.now) = sym c.in-Some.ensures in
    record {
      utf8 = c.at_ampersand-rest-in-Some.utf8;
      begins = ap (drop_while is_no_ampersand) is ∙ drop_while_twice is_no_ampersand c.in-Some.next.now ∙ sym is;
      same = ap references_stand is ∙ behind_stand c.in-Some.next.now ∙ sym (step_stand c.loop-rest.rest.now c.in-Some.next.now (kind_of c.in-Some.field-0-0) c.loop-rest.invariant.utf8 found) ∙ c.loop-rest.invariant.same;
    }

pub loop-rest-smaller : goal.loop-rest-smaller
loop-rest-smaller c =
    let found : reference c.loop-rest.rest.now ≡ Some (kind_of c.in-Some.field-0-0, c.in-Some.next.now) = sym c.in-Some.ensures in
    let less = reference_shorter c.loop-rest.rest.now c.in-Some.next.now (kind_of c.in-Some.field-0-0) c.loop-rest.invariant.utf8 found in
    let bound = drop_while_shorter is_no_ampersand c.in-Some.next.now in
    omega (arith, ap length c.at_ampersand-rest-in-Some.ensures)

pub returns-in-None : goal.returns-in-None
returns-in-None c =
    let none : reference c.loop-rest.rest.now ≡ None = sym c.in-None.ensures in
    let some = nonempty c.loop-rest.rest.now c.is_empty.result c.is_empty.ensures c.loop-rest-test.true in
    sym (stuck_stand c.loop-rest.rest.now c.loop-rest.invariant.begins some none) ∙ c.loop-rest.invariant.same
