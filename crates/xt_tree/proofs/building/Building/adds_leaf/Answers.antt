use Rattle.std.proofs.Common.{refl, ap, ◌∙◌, ◌∷◌, ◌++◌, []}
use Rattle.xt_tree.proofs.RowLemmas.{row_leaf}
use Rattle.xt_tree.proofs.BuildLemmas.{adds_row}
use Rattle.xt_tree.proofs.BuiltLemmas.{told}
use Rattle.xt_tree.proofs.building.Building.adds_leaf.Goals as goal

pub returns : goal.returns
returns c = record {
  value =
      told (record { entries = c.push.new.self; opened = c.args.self.now.opened }) _ _ (adds_row c.args.self.now (record { entries = c.push.new.self; opened = c.args.self.now.opened }) _ _ _ _ (row_leaf c.args.leaf c.args.span) (c.in_ok-push.ensures.items ∙ ap (λ e. c.args.self.now.entries.items ++ e ∷ []) c.entry.ensures.value) refl c.requires.sound);
}
