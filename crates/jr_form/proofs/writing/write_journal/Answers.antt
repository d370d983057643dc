use Rattle.std.proofs.Common.{◌≡◌, ◌++◌, List, ap, subst, ◌∙◌, length, take}
use Rattle.std.proofs.lemmas.List.{take_all}
use Rattle.std.specs.Int.{w32, to_be_bytes}
use Rattle.std.specs.List.{flat_map, AllByRecursion}
use Rattle.jr_form.specs.declared.item.Item.{Item}
use Rattle.jr_form.specs.Journal.{mark, entry, spelling, FileFits, IsNamed, IsJournal}
use Rattle.jr_form.proofs.writing.write_journal.Goals as goal
use Rattle.jr_form.proofs.Items.{reading_again}
use Rattle.jr_form.proofs.Lengths.{is_journal, all_at}

pub put_item-requires : goal.put_item-requires
put_item-requires c = record { fits = all_at FileFits c.args.items.now c.loop-item.item-index _ c.requires.fits.files c.loop-item-test.true c.item-item.is }

is_written : (c : goal.After-loop-item) → IsJournal c.args.items.now c.loop-item.out.items
is_written c =
    let items = c.args.items.now in
    let all : take c.loop-item.item-index items ≡ items = take_all c.loop-item.item-index items c.loop-item-test.false in
    let whole : c.loop-item.out.items ≡ spelling items = c.loop-item.invariant.written ∙ ap (λ (l : List Item). (mark ++ to_be_bytes w32 (length items)) ++ flat_map entry l) all in
    is_journal items c.loop-item.out.items c.requires.fits (subst (AllByRecursion IsNamed) all c.loop-item.invariant.named) whole

pub returns-clause-value : goal.returns-clause-value
returns-clause-value c = is_written c

pub returns-clause-exact : goal.returns-clause-exact
returns-clause-exact c = reading_again c.args.items.now c.loop-item.out.items (is_written c)
