use Rattle.std.proofs.Common.{subst, sym, ◌∙◌, refl}
use Rattle.xt_spec.specs.Declaration.{IsDeclarationOf}
use Rattle.xt_lex.specs.DeclaredValues.{values_of}
use Rattle.xt_read.specs.Front.{form_of}
use Rattle.xt_read.proofs.FrontPlaces.{not_declared, foreign_there}
use Rattle.xt_read.proofs.front.declared_at.Goals as goal

pub returns-then-not-has-clause-value : goal.returns-then-not-has-clause-value
returns-then-not-has-clause-value c =
    not_declared (form_of c.args.role) c.args.text.now c.args.at c.in-Some.span (values_of c.in-Some-read_declaration.declaration) c.in-Some.ensures.value
    (λ e is. c.in-Some-read_declaration.ensures.one e (subst (IsDeclarationOf e) (sym c.range.ensures.value) is)) (sym c.has.ensures ∙ c.if-not-has.true)

pub returns-else-is_utf8_or_absent-clause-fault : goal.returns-else-is_utf8_or_absent-clause-fault
returns-else-is_utf8_or_absent-clause-fault c = (
  refl,
  foreign_there (form_of c.args.role) c.args.text.now c.args.at c.in-Some.span (values_of c.in-Some-read_declaration.declaration) c.in-Some.ensures.value
      (subst (IsDeclarationOf (values_of c.in-Some-read_declaration.declaration)) c.range.ensures.value c.in-Some-read_declaration.ensures.only) (sym c.has.ensures ∙ c.if-not-has.false) (sym c.is_utf8_or_absent.ensures ∙ c.if-is_utf8_or_absent.false),
)
