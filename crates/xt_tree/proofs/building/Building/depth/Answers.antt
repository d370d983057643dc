use Rattle.std.proofs.Common.{◌∙◌}
use Rattle.xt_tree.proofs.BuiltLemmas.{depth_is}
use Rattle.xt_tree.proofs.building.Building.depth.Goals as goal

pub returns : goal.returns
returns c = record { value = depth_is c.args.self.now c.len.result c.requires.sound (c.len.ensures ∙ c.args.self.now.opened.ok.0) }
