use Rattle.std.proofs.Common.{◌∙◌, ℕ, List, length, ap, arith}
use Rattle.std.proofs.lemmas.Result.{IfOk-weaker, IfErr-weaker}
use Rattle.xt_spec.specs.Reading.{document}
use Rattle.xt_tree.specs.Meaning.{items_in}
use Rattle.bk_spec.specs.Node.{owned}
use Rattle.bk_spec.specs.NodePaths.{node_paths}
use Rattle.bk_info.specs.Address.{Address}
use Rattle.xt_read.proofs.Theorems.{reading_spelled}
use Rattle.ent_doc.specs.Opening.{open_fault}
use Rattle.ent_doc.proofs.DocumentLemmas.{document_gives, document_fails}
use Rattle.ent_doc.proofs.document.document_nodes.Goals as goal

pub nodes_of-requires : goal.nodes_of-requires
nodes_of-requires c = record {
  tags = record { from = 0; to = length c.args.text.now; placed = c.requires.place; within = omega arith };
  spelled = reading_spelled c.args.text.now (items_in c.args.text.now c.args.items.now) c.requires.reading;
  owned = ap (λ (a : Address). a.origin) c.in_ok-siblings.ensures.value ∙ c.in_ok-origin.ensures.value ∙ ap (λ (f : List ℕ). owned f document) c.in_ok-share.ensures.value;
}

pub returns-clause-value : goal.returns-clause-value
returns-clause-value c =
    IfOk-weaker c.nodes_of.result _ _ (λ nodes gives. document_gives c.args.file.now c.args.text.now c.args.items.now c.in_ok-context.context c.in_ok-work.work.count c.nodes_of.new.work.count nodes
    c.in_ok-context.ensures.value c.in_ok-work.ensures.count gives) c.nodes_of.ensures.value

pub returns-clause-fault : goal.returns-clause-fault
returns-clause-fault c =
    IfErr-weaker c.nodes_of.result _ _ (λ fault gives. document_fails c.args.file.now c.args.text.now c.args.items.now c.in_ok-context.context c.in_ok-work.work.count (open_fault fault)
    c.in_ok-context.ensures.value c.in_ok-work.ensures.count gives) c.nodes_of.ensures.fault

pub returns-clause-paths : goal.returns-clause-paths
returns-clause-paths c =
    IfOk-weaker c.nodes_of.result _ _ (λ nodes have content has. have content has ∙ ap (λ (a : Address). node_paths a.path 0 (items_in c.args.text.now c.args.items.now)) c.in_ok-siblings.ensures.value) c.nodes_of.ensures.paths
