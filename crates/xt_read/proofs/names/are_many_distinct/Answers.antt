use Rattle.std.proofs.Common.{rules, ◌∙◌}
use Rattle.std.proofs.lemmas.Iterator.{YieldsList-from_map_by, YieldsList-from_slice, items_from_drains}
use Rattle.std.proofs.lemmas.Map.Views.{btree_set_len-from_list}
use Rattle.std.specs.Cmp.Lexicographic.{on_texts}
use Rattle.xt_tree.specs.Meaning.{at_span}
use Rattle.xt_read.proofs.NameLemmas.{set_distinct}
use Rattle.xt_read.proofs.names.are_many_distinct.Goals as goal

pub returns : goal.returns
returns c =
    let r = c.in_ok-names.ensures.ran in
    let chain = YieldsList-from_map_by _ (λ n. n.now) (λ a. at_span c.args.bytes.now a.name) (YieldsList-from_slice c.args.attrs.now cc) c.map.ensures.closure (λ x r q k. search rules) in
    set_distinct r.0 c.args.bytes.now c.args.attrs.now c.len.result (items_from_drains r.0 r.1 chain) (c.len.ensures.len ∙ btree_set_len-from_list (on_texts (λ n. n.now)) r.0 _ r.2)
