use Rattle.std.proofs.Common.{◌≡◌, ◌+◌, length, take, drop, Some, None, sym, arith}
use Rattle.memchr.specs.Find.{FindsNeedle}
use Rattle.xt_lex.proofs.Cuts.{cut_found, cut_missed, cut_behind, found_at}
use Rattle.xt_lex.proofs.front.cut.Goals as goal

pub range_from-requires : goal.range_from-requires
range_from-requires c some =
    let found : FindsNeedle c.args.text.now c.args.needle.now 0 (Some c.in-Some.at) = found_at c.args.text.now c.args.needle.now c.as_bytes.result.now c.as_bytes-2.result.now (Some c.in-Some.at) c.as_bytes.ensures.value c.as_bytes-2.ensures.value c.in-Some.ensures in
    cut_behind c.args.needle.now c.args.text.now c.in-Some.at c.requires c.utf8.text found.1

pub returns-in-Some : goal.returns-in-Some
returns-in-Some c =
    let found : FindsNeedle c.args.text.now c.args.needle.now 0 (Some c.in-Some.at) = found_at c.args.text.now c.args.needle.now c.as_bytes.result.now c.as_bytes-2.result.now (Some c.in-Some.at) c.as_bytes.ensures.value c.as_bytes-2.ensures.value c.in-Some.ensures in
    let front : c.range.result.now ≡ take c.in-Some.at c.args.text.now = grind arith in
    let back : c.range_from.result.now ≡ drop (c.in-Some.at + length c.args.needle.now) c.args.text.now = grind arith in
    rw (front, back) (sym (cut_found c.args.needle.now c.args.text.now c.in-Some.at c.requires found))

pub returns-in-None : goal.returns-in-None
returns-in-None c =
    let none : FindsNeedle c.args.text.now c.args.needle.now 0 None = found_at c.args.text.now c.args.needle.now c.as_bytes.result.now c.as_bytes-2.result.now None c.as_bytes.ensures.value c.as_bytes-2.ensures.value c.in-None.ensures in
    sym (cut_missed c.args.needle.now c.args.text.now c.requires none)
