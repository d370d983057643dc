use Rattle.std.proofs.Common.{◌≡◌, Some, None, sym, ap, ◌∙◌, rules}
use Rattle.std.specs.FinMap.{get, insert}
use Rattle.bk_name.proofs.FilesLemmas.{get-view_of, insert-view_of}
use Rattle.bk_name.proofs.files.Files.swap.Goals as goal

pub unreachable-requires : goal.unreachable-requires
unreachable-requires c =
    let none : get c.args.self.now c.args.name.now ≡ None =
    ap (λ m. get m c.args.name.now) (sym c.self.view_is) ∙ get-view_of c.self.inside.map c.args.name.now ∙ sym c.in-None.ensures.value in
    let some = rw none at c.requires.present in
    cc

pub returns-clause-value : goal.returns-clause-value
returns-clause-value c =
    ap (λ m. get m c.args.name.now) (sym c.self.view_is) ∙ get-view_of c.self.inside.map c.args.name.now ∙ sym c.in-Some.ensures.value ∙ ap Some (sym c.replace.ensures.value)

pub returns-clause-stored : goal.returns-clause-stored
returns-clause-stored c =
    insert-view_of c.self.inside.map (c.get_mut.follows.lender c.replace.new.dest) c.args.name.now c.replace.new.dest
    ((c.get_mut.follows.holds c.replace.new.dest).3 (search rules))
    ∙ (λ i. insert (c.self.view_is i) c.args.name.now (c.replace.ensures.after i))
