use Rattle.std.proofs.Common.{◌∙◌, Err, ap, sym}
use Rattle.std.proofs.lemmas.Bool.{true≢false}
use Rattle.bk_name.proofs.Theorems.{book_folder}
use Rattle.ent_doc.proofs.document.top.Goals as goal

-- the base that is assumed is one
pub unreachable-requires : goal.unreachable-requires
unreachable-requires c = true≢false (sym book_folder ∙ c.read.ensures.fault (c.in-Err-BadBase.is ∙ ap Err c.in-Err-BadBase.field-0-is))
