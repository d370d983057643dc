use Rattle.std.proofs.lemmas.Str.{IsCharBoundary-after_ascii}
use Rattle.std.proofs.Common.{◌≤◌, ◌<◌, List, ℕ, length, get_or, subst}
use Rattle.bk_script.proofs.front.ascii_at.Goals as goal

pub range_from-requires : goal.range_from-requires
range_from-requires c some =
    let text : List ℕ = c.args.text.now in
    let within : 1 ≤ length text = subst (λ (t : List ℕ). 1 ≤ length t) c.as_bytes.ensures.value c.in-len1-up.len_at_least in
    let small : get_or text 0 0 < 128 = subst (λ (t : List ℕ). get_or t 0 0 < 128) c.as_bytes.ensures.value c.if-first-lt128.true in
    IsCharBoundary-after_ascii text 0 c.utf8.text within small
