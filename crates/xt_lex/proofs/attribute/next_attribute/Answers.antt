use Rattle.std.proofs.Common.{◌≡◌, length, drop, arith, sym}
use Rattle.std.proofs.lemmas.List.{length-drop}
use Rattle.xt_lex.specs.Tag.{Rests}
use Rattle.xt_lex.proofs.Attributes.{rests_takes}
use Rattle.xt_lex.proofs.Places.{sizes_of, attribute_at, name_from_cut, name_to_cut, value_from_cut, whole_cut, no_attribute}
use Rattle.xt_lex.proofs.attribute.next_attribute.Goals as goal

pub span_between-requires-clause-from : goal.span_between-requires-clause-from
span_between-requires-clause-from c =
    let s = c.range_from-text.result.now in
    let x : Rests = (c.in-Some.name.now, c.in-Some.behind_name.now, c.in-Some.value.now, c.in-Some.rest.now) in
    let sizes = sizes_of s x (rests_takes s x c.range_from-text.utf8 (sym c.in-Some.ensures.rests)) in
    omega arith

pub span_between-requires-clause-to : goal.span_between-requires-clause-to
span_between-requires-clause-to c =
    let s = c.range_from-text.result.now in
    let x : Rests = (c.in-Some.name.now, c.in-Some.behind_name.now, c.in-Some.value.now, c.in-Some.rest.now) in
    let sizes = sizes_of s x (rests_takes s x c.range_from-text.utf8 (sym c.in-Some.ensures.rests)) in
    omega arith

pub span_between-requires-in-Some-clause-from : goal.span_between-requires-in-Some-clause-from
span_between-requires-in-Some-clause-from c =
    let s = c.range_from-text.result.now in
    let x : Rests = (c.in-Some.name.now, c.in-Some.behind_name.now, c.in-Some.value.now, c.in-Some.rest.now) in
    let sizes = sizes_of s x (rests_takes s x c.range_from-text.utf8 (sym c.in-Some.ensures.rests)) in
    omega arith

pub span_between-requires-in-Some-clause-to : goal.span_between-requires-in-Some-clause-to
span_between-requires-in-Some-clause-to c =
    let s = c.range_from-text.result.now in
    let x : Rests = (c.in-Some.name.now, c.in-Some.behind_name.now, c.in-Some.value.now, c.in-Some.rest.now) in
    let sizes = sizes_of s x (rests_takes s x c.range_from-text.utf8 (sym c.in-Some.ensures.rests)) in
    omega arith

pub span_between-requires-in-Some-2-clause-to : goal.span_between-requires-in-Some-2-clause-to
span_between-requires-in-Some-2-clause-to c =
    let s = c.range_from-text.result.now in
    let x : Rests = (c.in-Some.name.now, c.in-Some.behind_name.now, c.in-Some.value.now, c.in-Some.rest.now) in
    let sizes = sizes_of s x (rests_takes s x c.range_from-text.utf8 (sym c.in-Some.ensures.rests)) in
    omega arith

pub returns-in-Some-clause-only : goal.returns-in-Some-clause-only
returns-in-Some-clause-only c =
    let text = c.args.text.now in
    let at = c.args.at in
    let s = c.range_from-text.result.now in
    let is : s ≡ drop at text = cc in
    let x : Rests = (c.in-Some.name.now, c.in-Some.behind_name.now, c.in-Some.value.now, c.in-Some.rest.now) in
    let front = rests_takes s x c.range_from-text.utf8 (sym c.in-Some.ensures.rests) in
    attribute_at text at s x front _ is c.span_between.ensures.from c.span_between.ensures.to c.span_between-in-Some.ensures.from c.span_between-in-Some.ensures.to c.span_between-in-Some-2.ensures.from c.span_between-in-Some-2.ensures.to

pub returns-in-Some-clause-on : goal.returns-in-Some-clause-on
returns-in-Some-clause-on c =
    let text = c.args.text.now in
    let at = c.args.at in
    let s = c.range_from-text.result.now in
    let is : s ≡ drop at text = cc in
    let x : Rests = (c.in-Some.name.now, c.in-Some.behind_name.now, c.in-Some.value.now, c.in-Some.rest.now) in
    let front = rests_takes s x c.range_from-text.utf8 (sym c.in-Some.ensures.rests) in
    let sizes = sizes_of s x front in
    let left = length-drop at text in
    let same : length s ≡ length (drop at text) = cc in
    let to = c.span_between-in-Some-2.ensures.to in
    let within = c.requires.within in
    (omega arith, omega arith)

pub returns-in-Some-clause-cut : goal.returns-in-Some-clause-cut
returns-in-Some-clause-cut c =
    let text = c.args.text.now in
    let at = c.args.at in
    let s = c.range_from-text.result.now in
    let is : s ≡ drop at text = cc in
    let x : Rests = (c.in-Some.name.now, c.in-Some.behind_name.now, c.in-Some.value.now, c.in-Some.rest.now) in
    let front = rests_takes s x c.range_from-text.utf8 (sym c.in-Some.ensures.rests) in
    whole_cut text at s x front c.span_between-in-Some-2.result.to c.requires.within is c.span_between-in-Some-2.ensures.to

pub returns-in-Some-clause-name_cut : goal.returns-in-Some-clause-name_cut
returns-in-Some-clause-name_cut c =
    let text = c.args.text.now in
    let at = c.args.at in
    let s = c.range_from-text.result.now in
    let is : s ≡ drop at text = cc in
    let x : Rests = (c.in-Some.name.now, c.in-Some.behind_name.now, c.in-Some.value.now, c.in-Some.rest.now) in
    let front = rests_takes s x c.range_from-text.utf8 (sym c.in-Some.ensures.rests) in
    (name_from_cut text at s x front c.span_between.result.from c.requires.within is c.span_between.ensures.from, name_to_cut text at s x front c.span_between.result.to c.requires.within is c.span_between.ensures.to)

pub returns-in-Some-clause-value_cut : goal.returns-in-Some-clause-value_cut
returns-in-Some-clause-value_cut c =
    let text = c.args.text.now in
    let at = c.args.at in
    let s = c.range_from-text.result.now in
    let is : s ≡ drop at text = cc in
    let x : Rests = (c.in-Some.name.now, c.in-Some.behind_name.now, c.in-Some.value.now, c.in-Some.rest.now) in
    let front = rests_takes s x c.range_from-text.utf8 (sym c.in-Some.ensures.rests) in
    (value_from_cut text at s x front c.span_between-in-Some.result.from c.requires.within is c.span_between-in-Some.ensures.from, whole_cut text at s x front c.span_between-in-Some.result.to c.requires.within is c.span_between-in-Some.ensures.to)

pub returns-in-None-clause-none : goal.returns-in-None-clause-none
returns-in-None-clause-none c =
    let is : c.range_from-text.result.now ≡ drop c.args.at c.args.text.now = cc in
    no_attribute c.args.text.now c.args.at c.range_from-text.result.now is (sym c.in-None.ensures.form)
