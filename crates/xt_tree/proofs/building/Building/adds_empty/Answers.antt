use Rattle.std.proofs.Common.{◌∙◌, ◌∷◌, ◌++◌, [], List, length, map, ap, refl, append_assoc}
use Rattle.std.proofs.lemmas.Result.{on_ok_weaker}
use Rattle.xt_lex.specs.declared.attribute.AttrSrc.{AttrSrc}
use Rattle.xt_tree.specs.declared.entry.Entry.{Entry}
use Rattle.xt_tree.specs.declared.entry.Entry.TheVariants.{Empty}
use Rattle.xt_tree.specs.Rows.{attr_entry}
use Rattle.xt_tree.proofs.RowLemmas.{row_empty}
use Rattle.xt_tree.proofs.BuildLemmas.{adds_row}
use Rattle.xt_tree.proofs.BuiltLemmas.{told}
use Rattle.xt_tree.proofs.building.Building.adds_empty.Goals as goal

pub returns : goal.returns
returns c =
    let head = c.args.head.now in
    record {
      value = on_ok_weaker c.put_attrs.result (λ put. told (record { entries = c.put_attrs.new.entries; opened = c.args.self.now.opened }) _ _ (
          adds_row c.args.self.now (record { entries = c.put_attrs.new.entries; opened = c.args.self.now.opened }) _ _ _ _ (row_empty head c.requires.shaped c.requires.empty)
          (put ∙ ap (λ (l : List AttrSrc). c.push.new.self.items ++ map attr_entry l) c.as_slice-2.ensures.value
          ∙ ap (λ (l : List Entry). l ++ map attr_entry head.attrs) c.in_ok-push.ensures.items
          ∙ ap (λ n. (c.args.self.now.entries.items ++ Empty head.span.from head.span.to head.name.to n ∷ []) ++ map attr_entry head.attrs) (c.in_ok-attrs.ensures.value ∙ ap length c.as_slice.ensures.value)
          ∙ append_assoc c.args.self.now.entries.items (Empty head.span.from head.span.to head.name.to (length head.attrs) ∷ []) (map attr_entry head.attrs))
          refl c.requires.sound)) c.put_attrs.ensures.value;
    }
