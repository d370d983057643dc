use Rattle.std.proofs.Common.{◌∙◌, ◌++◌, List, map, ap}
use Rattle.std.proofs.lemmas.Result.{on_ok_weaker}
use Rattle.xt_lex.specs.declared.attribute.AttrSrc.{AttrSrc}
use Rattle.xt_tree.specs.Rows.{attr_entry}
use Rattle.xt_tree.proofs.BuildLemmas.{opens_tag}
use Rattle.xt_tree.proofs.BuiltLemmas.{told}
use Rattle.xt_tree.proofs.building.Building.opens.Goals as goal

pub returns : goal.returns
returns c = record {
  value = on_ok_weaker c.put_attrs.result (λ put. told (record { entries = c.put_attrs.new.entries; opened = c.push.new.self }) _ _ (
      opens_tag c.args.self.now (record { entries = c.put_attrs.new.entries; opened = c.push.new.self }) c.in_ok-at.at c.args.head.now c.push-2.new.self.items _ _ c.requires.shaped c.requires.start
      (c.in_ok-at.ensures.value ∙ c.len.ensures ∙ c.args.self.now.entries.ok.0) c.in_ok-push.ensures.items c.in_ok-push-2.ensures.items (put ∙ ap (λ (l : List AttrSrc). c.push-2.new.self.items ++ map attr_entry l) c.as_slice.ensures.value) c.requires.sound)) c.put_attrs.ensures.value;
}
