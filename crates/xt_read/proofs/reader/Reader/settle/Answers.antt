use Rattle.std.proofs.Common.{ap, ◌∙◌, ◌++◌, ◌∷◌, [], sym, map, option_map}
use Rattle.std.proofs.lemmas.List.{map-append}
use Rattle.xt_tree.specs.declared.source.Src.TheVariants as src
use Rattle.xt_tree.specs.Meaning.{at_span, item_of}
use Rattle.xt_read.specs.Run.{with_text}
use Rattle.std.proofs.lemmas.Result.{on_ok_weaker}
use Rattle.xt_tree.specs.Built.{built}
use Rattle.xt_tree.specs.Places.{tail_marks}
use Rattle.xt_read.specs.Progress.{marks_built, settled_marks}
use Rattle.xt_read.proofs.Marks.{marks_text, text_is}
use Rattle.xt_read.proofs.reader.Reader.settle.Goals as goal

pub returns-in-Some-clause-marks : goal.returns-in-Some-clause-marks
returns-in-Some-clause-marks c = on_ok_weaker c.adds_leaf.result (λ is.
    ap marks_built is.1 ∙ marks_text (built c.args.self.now.tape) c.in-Some.span ∙ ap (λ t. settled_marks c.args.self.now ++ tail_marks t) (sym c.in-Some.is)) c.adds_leaf.ensures.value

pub returns-in-Some-clause-items : goal.returns-in-Some-clause-items
returns-in-Some-clause-items c = on_ok_weaker c.adds_leaf.result (λ is bytes.
    ap (λ b. map (item_of bytes) b.items) is.1 ∙ map-append (item_of bytes) (built c.args.self.now.tape).items (src.Text c.in-Some.span ∷ [])
    ∙ ap (λ i. map (item_of bytes) (built c.args.self.now.tape).items ++ i ∷ []) (text_is bytes c.in-Some.span)
    ∙ ap (λ t. with_text (map (item_of bytes) (built c.args.self.now.tape).items) (option_map (at_span bytes) t)) (sym c.in-Some.is)) c.adds_leaf.ensures.value
