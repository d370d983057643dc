use Rattle.std.proofs.Common.{◌≡◌, ◌+◌, List, ℕ, take, drop, Some, None, codes, sym, subst, refl, arith}
use Rattle.memchr.specs.Find.{FindsNeedle}
use Rattle.xt_lex.proofs.Theorems.{cut_found, cut_missed, cut_behind}
use Rattle.xt_value.proofs.cuts.split_close.Goals as goal

pub range_from-requires : goal.range_from-requires
range_from-requires c some =
    let found = subst (λ (l : List ℕ). FindsNeedle l (codes "]]>") 0 (Some c.in-Some.at)) c.as_bytes.ensures.value c.in-Some.ensures in
    cut_behind (codes "]]>") c.args.text.now c.in-Some.at refl c.utf8.text found.1

pub returns-in-Some-clause-value : goal.returns-in-Some-clause-value
returns-in-Some-clause-value c =
    let found = subst (λ (l : List ℕ). FindsNeedle l (codes "]]>") 0 (Some c.in-Some.at)) c.as_bytes.ensures.value c.in-Some.ensures in
    let front : c.range.result.now ≡ take c.in-Some.at c.args.text.now = grind arith in
    let back : c.range_from.result.now ≡ drop (c.in-Some.at + 3) c.args.text.now = c.range_from.ensures.value in
    rw (front, back) (sym (cut_found (codes "]]>") c.args.text.now c.in-Some.at refl found))

pub returns-in-None-clause-value : goal.returns-in-None-clause-value
returns-in-None-clause-value c =
    let none = subst (λ (l : List ℕ). FindsNeedle l (codes "]]>") 0 None) c.as_bytes.ensures.value c.in-None.ensures in
    sym (cut_missed (codes "]]>") c.args.text.now refl none)
