use Rattle.std.proofs.Common.{◌∙◌, ◌-◌, ap}
use Rattle.xt_tree.proofs.BuildLemmas.{closes_tag}
use Rattle.xt_tree.proofs.BuiltLemmas.{told_close}
use Rattle.xt_tree.proofs.building.Building.closes.Goals as goal

pub returns : goal.returns
returns c = record {
  value = told_close c.args.self.now (record { entries = c.push.new.self; opened = c.pop.new.self }) c.args.span c.requires.some (λ o os items at.
      closes_tag c.args.self.now (record { entries = c.push.new.self; opened = c.pop.new.self }) c.in-Some.at c.in_ok-inside.inside c.in-Elem.from c.in-Elem.to c.in-Elem.name_to c.in-Elem.inside c.args.span c.index.result.now o os items at
      c.in-Some.ensures.items c.index.ensures c.in-Elem.is (c.in_ok-inside.ensures.value ∙ ap (λ n. n - c.in-Some.at - 1) (c.len.ensures ∙ c.args.self.now.entries.ok.0)) c.in_ok-push.ensures.items) c.requires.sound;
}
