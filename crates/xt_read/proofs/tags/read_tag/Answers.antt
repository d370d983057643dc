use Rattle.std.proofs.Common.{refl, sym, subst, length, ◌+◌}
use Rattle.xt_tree.specs.Places.{AreAttributesAt}
use Rattle.xt_read.proofs.TagParts.{tag_has_name, tag_start, tag_end, tag_is_at}
use Rattle.xt_read.proofs.tags.read_tag.Goals as goal

pub unreachable-requires : goal.unreachable-requires
unreachable-requires c = tag_has_name c.args.text.now c.args.span.from c.args.span.to c.args.empty c.requires.ahead c.in_default.ensures.none

pub returns-clause-value : goal.returns-clause-value
returns-clause-value c =
    let text = c.args.text.now in
    let start = tag_start text c.args.span.from c.args.span.to c.in-Some.name.to c.args.empty c.requires.ahead c.in-Some.ensures.only in
    let (at, so_far, none) = c.in_ok-attrs.ensures.value c.args.span.from c.args.span.to c.args.empty start.1 in
    let again = tag_start text c.args.span.from c.args.span.to c.in-Some.name.to c.args.empty so_far.ahead c.in-Some.ensures.only in
    let placed = tag_end text c.args.span.from c.args.span.to at c.args.empty c.in_ok-attrs.attrs.items so_far none in (
      refl,
      tag_is_at text (record { name = c.in-Some.name; attrs = c.from_vec.result; span = c.args.span; empty = c.args.empty }) so_far.ahead c.in-Some.ensures.from again.0
          (subst (λ l. AreAttributesAt (c.args.span.from + 1 + length so_far.ahead.tag.name) so_far.ahead.tag.attributes l) (sym c.from_vec.ensures.value) placed),
    )
