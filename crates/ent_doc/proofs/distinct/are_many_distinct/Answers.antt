use Rattle.std.proofs.Common.{rules, ◌∙◌}
use Rattle.std.proofs.lemmas.Iterator.{YieldsList-from_map_by, YieldsList-from_slice, items_from_drains}
use Rattle.std.proofs.lemmas.Map.Views.{btree_set_len-from_list}
use Rattle.ent_doc.specs.Steps.{key_texts, attr_texts}
use Rattle.ent_doc.proofs.DistinctLemmas.{key_is, key_total, set_distinct}
use Rattle.ent_doc.proofs.distinct.are_many_distinct.Goals as goal

pub returns : goal.returns
returns c =
    let r = c.in_ok-names.ensures.ran in
    let chain = YieldsList-from_map_by _ key_texts attr_texts (YieldsList-from_slice c.args.attrs.now cc) c.map.ensures.closure (λ x r q k. (search rules, key_is r x.now.name.space x.now.name.local k.met.0 k.met.1)) in
    record { value = set_distinct r.0 c.args.attrs.now c.len.result (items_from_drains r.0 r.1 chain) (c.len.ensures.len ∙ btree_set_len-from_list key_total r.0 _ r.2) }
