use Rattle.std.proofs.Common.{ap, ◌∙◌}
use Rattle.std.specs.FinMap.{insert}
use Rattle.bk_name.proofs.FilesLemmas.{insert-view_of}
use Rattle.bk_name.proofs.files.Files.put.Goals as goal

pub returns-clause-value : goal.returns-clause-value
returns-clause-value c =
    insert-view_of c.self.inside.map c.insert.new.self c.args.name c.args.entry c.in_ok-insert.ensures.updates
    ∙ ap (λ m. insert m c.args.name c.args.entry) c.self.view_is
