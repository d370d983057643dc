use Rattle.std.proofs.Common.{◌∙◌, ◌++◌, ap, List, ℕ, arith, string_bytes}
use Rattle.ed_session.proofs.RangeLemmas.{cut_boundary, range_is}
use Rattle.ed_session.proofs.range.replace_range.Goals as goal

pub split_at-requires : goal.split_at-requires
split_at-requires c = cut_boundary c.args.text.now c.in-Some-Some.rest.now c.args.from c.utf8.text c.in-Some-Some.ensures.value

pub returns-in_ok-push_str-in-Some-Some-3 : goal.returns-in_ok-push_str-in-Some-Some-3
returns-in_ok-push_str-in-Some-Some-3 c = record {
  value = range_is c.args.text.now c.split_at.result.0.now c.in-Some-Some.rest.now c.in-Some-Some.end.now c.args.new.now (string_bytes c.push_str-in-Some-Some-2.new.self) c.args.from c.args.to (omega arith) c.in-Some-Some.ensures.value c.in-Some-Some.ensures'.value c.utf8.new c.split_at.ensures.front
      (c.in_ok-push_str-in-Some-Some-3.ensures.bytes ∙ ap (λ (l : List ℕ). l ++ c.in-Some-Some.end.now) (c.in_ok-push_str-in-Some-Some-2.ensures.bytes ∙ ap (λ (l : List ℕ). l ++ c.args.new.now) (c.in_ok-push_str-in-Some-Some.ensures.bytes ∙ ap (λ (l : List ℕ). l ++ c.split_at.result.0.now) c.in_ok-out-in-Some-Some.ensures.bytes)));
}
