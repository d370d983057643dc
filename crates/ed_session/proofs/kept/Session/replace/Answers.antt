use Rattle.std.proofs.Common.{rules, ap, refl, Some}
use Rattle.ed_session.specs.Kept.{Kept}
use Rattle.ed_session.proofs.KeptLemmas.{same_opens, is_edited_root}
use Rattle.ed_session.proofs.kept.Session.replace.Goals as goal

-- src/edit.rt:244:8
pub invariant_of-self-then-is_none-2 : goal.invariant_of-self-then-is_none-2
invariant_of-self-then-is_none-2 c =
    is_edited_root c.self.inside.root c.replace-old.new.dest.items c.args.bytes.items c.args.items (Some c.replace-old.result) (search rules)
    (same_opens c.self.inside.root c.args.self.now.root c.args.bytes.items c.args.bytes.items c.args.items c.args.items (ap (λ (k : Kept). k.root) c.self.view_is) refl refl c.requires.current) c.requires.place (search rules)

-- src/edit.rt:249:13
pub invariant_of-self-else-is_none : goal.invariant_of-self-else-is_none
invariant_of-self-else-is_none c =
    is_edited_root c.self.inside.root c.replace-old.new.dest.items c.args.bytes.items c.args.items c.self.inside.saved (search rules)
    (same_opens c.self.inside.root c.args.self.now.root c.args.bytes.items c.args.bytes.items c.args.items c.args.items (ap (λ (k : Kept). k.root) c.self.view_is) refl refl c.requires.current) c.requires.place (search rules)
