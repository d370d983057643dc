use Rattle.std.proofs.Common.{List, subst, sym}
use Rattle.xt_lex.specs.declared.attribute.AttrSrc.{AttrSrc}
use Rattle.ent_doc.specs.Steps.{AreCut}
use Rattle.ent_doc.proofs.TagLemmas.{ReadsValues, values_begin, values_step, values_end, first_cut}
use Rattle.ent_doc.proofs.tag.values_of.Goals as goal

pub loop-attr-init : goal.loop-attr-init
loop-attr-init c = record {
  cut = subst (λ (left : List AttrSrc). AreCut c.args.source.now.text.now left) (sym c.again-left.ensures.value) c.requires.cut;
  read = subst (λ (left : List AttrSrc). ReadsValues c.args.source.now.text.now c.args.attrs.now left c.new-values.result.items) (sym c.again-left.ensures.value)
      (values_begin c.args.source.now.text.now c.args.attrs.now c.new-values.result.items c.new-values.ensures.items);
}

pub text_at-name-requires : goal.text_at-name-requires
text_at-name-requires c = record { cut = (first_cut c.args.source.now.text.now c.loop-attr.left c.in-Some.rest c.in-Some.attr c.in-Some.ensures.value c.loop-attr.invariant.cut).0 }

pub text_at-quoted-requires : goal.text_at-quoted-requires
text_at-quoted-requires c = record { cut = (first_cut c.args.source.now.text.now c.loop-attr.left c.in-Some.rest c.in-Some.attr c.in-Some.ensures.value c.loop-attr.invariant.cut).1 }

pub loop-attr-preserved : goal.loop-attr-preserved
loop-attr-preserved c = record {
  cut = (first_cut c.args.source.now.text.now c.loop-attr.left c.in-Some.rest c.in-Some.attr c.in-Some.ensures.value c.loop-attr.invariant.cut).2;
  read = values_step c.args.source.now.text.now c.args.attrs.now c.loop-attr.left c.in-Some.rest c.in-Some.attr c.text_at-name.result.now c.text_at-quoted.result.now _ c.new.result c.loop-attr.values.items c.push.new.self.items c.in-Some.ensures.value c.text_at-name.ensures.value c.text_at-quoted.ensures.value
      c.in_ok-attribute_value.ensures.exact c.new.ensures.value c.in_ok-push.ensures.items c.loop-attr.invariant.read;
}

pub returns : goal.returns
returns c = record { value = λ others have. values_end c.args.source.now.text.now c.args.attrs.now c.loop-attr.left c.loop-attr.values.items others c.in_default.ensures.value c.loop-attr.invariant.read have }
