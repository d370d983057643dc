use Rattle.std.proofs.Common.{◌≡◌, length}
use Rattle.std.specs.Str.{IsUtf8}
use Rattle.xt_lex.specs.Scan.{drop_while, is_no_ampersand, references_stand}
use Rattle.xt_lex.proofs.attribute.references_stand.Given as goal

abbrev pub invariant-loop-rest : goal.invariant-loop-rest
invariant-loop-rest l = record {
  utf8 : IsUtf8 l.rest;
  begins : drop_while is_no_ampersand l.rest ≡ l.rest;
  same : references_stand l.rest ≡ references_stand l.text;
}

abbrev pub decreases-loop-rest : goal.decreases-loop-rest
decreases-loop-rest l = length l.rest
