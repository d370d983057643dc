use Rattle.std.proofs.Common.{◌∙◌, List, subst}
use Rattle.xt_tree.specs.Rows.{OpenTag, IsAt}
use Rattle.xt_tree.specs.Built.{built}
use Rattle.xt_tree.proofs.BuildLemmas.{whole_built}
use Rattle.xt_tree.proofs.building.Building.into_tape.Goals as goal

pub tape_of-requires : goal.tape_of-requires
tape_of-requires c = record { sized = (whole_built c.args.self (built c.args.self).items (subst (λ (os : List OpenTag). IsAt c.args.self os (built c.args.self).items) c.requires.whole c.requires.sound)).sized }

pub returns : goal.returns
returns c = record { value = c.tape_of.ensures.value ∙ (whole_built c.args.self (built c.args.self).items (subst (λ (os : List OpenTag). IsAt c.args.self os (built c.args.self).items) c.requires.whole c.requires.sound)).are }
