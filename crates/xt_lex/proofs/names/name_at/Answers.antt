use Rattle.std.proofs.Common.{◌≡◌, drop, arith}
use Rattle.std.proofs.lemmas.Bool.{both_ways}
use Rattle.xt_lex.proofs.Places.{name_place, no_name}
use Rattle.xt_lex.proofs.names.name_at.Goals as goal

pub overflow_cast-result-then-is_qname : goal.overflow_cast-result-then-is_qname
overflow_cast-result-then-is_qname c =
    let is : c.range_from.result.now ≡ drop c.args.at c.args.text.now = cc in
    let place = name_place c.args.text.now c.args.at c.range_from.result.now c.split_name.result.0.now c.range_from.utf8 c.requires.within is c.split_name.ensures.name (c.is_qname.ensures.exact.0 c.if-is_qname.true) in
    omega (arith, place.fits)

pub returns-then-is_qname-clause-only : goal.returns-then-is_qname-clause-only
returns-then-is_qname-clause-only c =
    let is : c.range_from.result.now ≡ drop c.args.at c.args.text.now = cc in
    (name_place c.args.text.now c.args.at c.range_from.result.now c.split_name.result.0.now c.range_from.utf8 c.requires.within is c.split_name.ensures.name (c.is_qname.ensures.exact.0 c.if-is_qname.true)).is

pub returns-then-is_qname-clause-on : goal.returns-then-is_qname-clause-on
returns-then-is_qname-clause-on c =
    let is : c.range_from.result.now ≡ drop c.args.at c.args.text.now = cc in
    let place = name_place c.args.text.now c.args.at c.range_from.result.now c.split_name.result.0.now c.range_from.utf8 c.requires.within is c.split_name.ensures.name (c.is_qname.ensures.exact.0 c.if-is_qname.true) in
    (place.on, place.fits)

pub returns-then-is_qname-clause-cut : goal.returns-then-is_qname-clause-cut
returns-then-is_qname-clause-cut c =
    let is : c.range_from.result.now ≡ drop c.args.at c.args.text.now = cc in
    (name_place c.args.text.now c.args.at c.range_from.result.now c.split_name.result.0.now c.range_from.utf8 c.requires.within is c.split_name.ensures.name (c.is_qname.ensures.exact.0 c.if-is_qname.true)).cut

pub returns-else-is_qname-clause-none : goal.returns-else-is_qname-clause-none
returns-else-is_qname-clause-none c =
    let is : c.range_from.result.now ≡ drop c.args.at c.args.text.now = cc in
    no_name c.args.text.now c.args.at c.range_from.result.now c.split_name.result.0.now is c.split_name.ensures.name (λ q. both_ways c.is_qname.result c.if-is_qname.false (c.is_qname.ensures.exact.1 q))
