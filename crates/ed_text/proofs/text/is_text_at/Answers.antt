use Rattle.std.proofs.Common.{◌∙◌, sym, ap, option_map}
use Rattle.xt_spec.specs.Paths.{item_at}
use Rattle.xt_tree.specs.Items.{item_in}
use Rattle.xt_tree.specs.Meaning.{item_of, items_in}
use Rattle.ed_text.proofs.TextPlaceLemmas.{found_text, none_found}
use Rattle.ed_text.proofs.text.is_text_at.Goals as goal

pub returns-in-Some : goal.returns-in-Some
returns-in-Some c = record {
  value = λ bytes. found_text (item_at (items_in bytes c.args.items.now) c.args.path.now) (item_of bytes (item_in c.in-Some.item)) c.is_text.result
      (sym (c.item_at.ensures.value bytes) ∙ ap (option_map (item_of bytes)) (ap (option_map item_in) c.in-Some.is)) (c.is_text.ensures.value bytes);
}

pub returns-in-None : goal.returns-in-None
returns-in-None c = record { value = λ bytes. none_found (item_at (items_in bytes c.args.items.now) c.args.path.now) (sym (c.item_at.ensures.value bytes) ∙ ap (option_map (item_of bytes)) (ap (option_map item_in) c.in-None.is)) }
