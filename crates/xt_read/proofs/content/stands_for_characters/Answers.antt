use Rattle.xt_read.proofs.Cuts.{edge_behind, utf8_behind, same_behind}
use Rattle.xt_read.proofs.content.stands_for_characters.Goals as goal

pub loop-rest-init : goal.loop-rest-init
loop-rest-init c = record {
  utf8 = utf8_behind c.args.text.now c.split_before.result.1.now c.utf8.text c.split_before.ensures.rest;
  edge = edge_behind c.args.text.now c.split_before.result.1.now c.split_before.ensures.rest;
  same = same_behind c.args.text.now c.split_before.result.0.now c.split_before.result.1.now c.split_before.ensures.value c.split_before.ensures.rest;
}
