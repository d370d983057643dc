use Rattle.std.proofs.Common.{◌≡◌, drop, arith, le_of_lt}
use Rattle.std.proofs.lemmas.List.{length-drop}
use Rattle.std.proofs.lemmas.Str.{IsUtf8-drop, IsCharBoundary-from_rest}
use Rattle.xt_spec.specs.Token.{IsLongestFront}
use Rattle.xt_lex.specs.Kinds.{kind_of}
use Rattle.xt_lex.proofs.Fronts.{front_some}
use Rattle.xt_lex.proofs.Texts.{front_boundary}
use Rattle.xt_lex.proofs.token.next_token.Goals as goal

pub returns-in-Some-clause-on : goal.returns-in-Some-clause-on
returns-in-Some-clause-on c =
    let rest : c.range_from.result.now ≡ drop c.args.at c.args.text.now = cc in
    let longest : IsLongestFront (drop c.args.at c.args.text.now) (kind_of c.in-Some.kind) c.in-Some.len = rw rest at c.in-Some.ensures in
    let some = front_some _ _ _ longest.front in
    let within = longest.front.within in
    let size = length-drop c.args.at c.args.text.now in
    (omega arith, omega arith)

pub returns-in-Some-clause-cut : goal.returns-in-Some-clause-cut
returns-in-Some-clause-cut c =
    let rest : c.range_from.result.now ≡ drop c.args.at c.args.text.now = cc in
    let longest : IsLongestFront (drop c.args.at c.args.text.now) (kind_of c.in-Some.kind) c.in-Some.len = rw rest at c.in-Some.ensures in
    IsCharBoundary-from_rest c.args.text.now c.args.at c.in-Some.len (le_of_lt c.requires.within)
    (front_boundary (drop c.args.at c.args.text.now) (kind_of c.in-Some.kind) c.in-Some.len (IsUtf8-drop c.args.text.now c.args.at c.utf8.text c.requires.boundary) longest.front)
