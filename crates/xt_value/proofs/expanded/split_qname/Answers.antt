use Rattle.std.proofs.Common.{◌≡◌, ◌<◌, ◌+◌, Some, refl, length, take, drop, arith, ap}
use Rattle.std.proofs.lemmas.Bool.Decides.{nat_tests}
use Rattle.std.specs.List.{position_or_len}
use Rattle.xt_spec.specs.Namespace.{is_colon}
use Rattle.xt_value.proofs.NameParts.{none_passes, one_passes, colon_ascii, may_cut_behind_colon}
use Rattle.xt_value.proofs.Searches.{may_cut}
use Rattle.xt_value.proofs.expanded.split_qname.Goals as goal

pub range-requires-clause-end_boundary : goal.range-requires-clause-end_boundary
range-requires-clause-end_boundary c =
    let at : c.colon_at-at.result ≡ position_or_len is_colon c.args.qname.now = cc in
    may_cut is_colon c.args.qname.now c.colon_at-at.result colon_ascii at

pub range_from-requires : goal.range_from-requires
range_from-requires c some =
    let at : c.colon_at-at.result ≡ position_or_len is_colon c.args.qname.now = cc in
    let cut = may_cut is_colon c.args.qname.now c.colon_at-at.result colon_ascii at in
    let within = cut.0 in
    let below : c.colon_at-at.result < length c.args.qname.now = grind (arith, nat_tests) in
    may_cut_behind_colon c.args.qname.now c.colon_at-at.result c.utf8.qname at below

pub returns-then-at-qname-clause-prefix : goal.returns-then-at-qname-clause-prefix
returns-then-at-qname-clause-prefix c =
    let at : position_or_len is_colon c.args.qname.now ≡ length c.args.qname.now = cc in
    rw (none_passes is_colon c.args.qname.now at) refl

pub returns-then-at-qname-clause-local : goal.returns-then-at-qname-clause-local
returns-then-at-qname-clause-local c =
    let at : position_or_len is_colon c.args.qname.now ≡ length c.args.qname.now = cc in
    rw (none_passes is_colon c.args.qname.now at) refl

pub returns-else-at-qname-clause-prefix : goal.returns-else-at-qname-clause-prefix
returns-else-at-qname-clause-prefix c =
    let at : c.colon_at-at.result ≡ position_or_len is_colon c.args.qname.now = cc in
    let within = (may_cut is_colon c.args.qname.now c.colon_at-at.result colon_ascii at).0 in
    let below : position_or_len is_colon c.args.qname.now < length c.args.qname.now = grind (arith, nat_tests) in
    let front : c.range.result.now ≡ take (position_or_len is_colon c.args.qname.now) c.args.qname.now = rw (← at) (grind arith) in
    rw (one_passes is_colon c.args.qname.now below) (ap Some front)

pub returns-else-at-qname-clause-local : goal.returns-else-at-qname-clause-local
returns-else-at-qname-clause-local c =
    let at : c.colon_at-at.result ≡ position_or_len is_colon c.args.qname.now = cc in
    let within = (may_cut is_colon c.args.qname.now c.colon_at-at.result colon_ascii at).0 in
    let below : position_or_len is_colon c.args.qname.now < length c.args.qname.now = grind (arith, nat_tests) in
    let back : c.range_from.result.now ≡ drop (position_or_len is_colon c.args.qname.now + 1) c.args.qname.now = rw (← at) (grind arith) in
    rw (one_passes is_colon c.args.qname.now below) back
