use Rattle.std.proofs.Common.{◌≡◌, length}
use Rattle.std.specs.Str.{IsUtf8}
use Rattle.xt_lex.specs.Scan.{drop_while, many, is_plain_in_subset, after_subset_part}
use Rattle.xt_lex.proofs.doctype.after_parts.Given as goal

abbrev pub invariant-loop-next : goal.invariant-loop-next
invariant-loop-next l = record {
  utf8 : IsUtf8 l.rest;
  marked : drop_while is_plain_in_subset l.rest ≡ l.rest;
  same : many after_subset_part l.rest ≡ many after_subset_part l.text;
}

abbrev pub decreases-loop-next : goal.decreases-loop-next
decreases-loop-next l = length l.rest
