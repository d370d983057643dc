-- The tests of the condition say what it is.
use Rattle.std.proofs.Common.{◌≡◌, ℕ, ◌-◌, ◌≤◌, List, [], ◌∷◌, length, Bool, true, false, ◌&&◌, leb, Option, Some, None, refl, arith}
use Rattle.std.specs.Prelude.{IfSome, ◌↔◌}
use Rattle.std.specs.List.{AllByRecursion}
use Rattle.std.proofs.lemmas.Bool.{leb-true, le-leb}
use Rattle.xt_spec.specs.Limit.{most_file_bytes, most_saved_bytes, most_saved_files}
use Rattle.jr_form.specs.declared.item.Item.{Item}
use Rattle.jr_form.specs.Journal.{comes_after, Ascend, FileFits, file_size, total_size, AreWritable}
use Rattle.jr_form.specs.Condition.{ascends, files_fit, is_met}
use Rattle.jr_form.proofs.Items.{both_hold}

both : (a b : Bool) → a ≡ true → b ≡ true → (a && b) ≡ true
both true b a_is b_is = b_is
both false b a_is b_is = absurd cc

Ascend-from : (before : Option (List ℕ)) (items : List Item) → ascends before items ≡ true → Ascend before items
Ascend-from before [] is = tt
Ascend-from before (item ∷ items) is =
    let parts = both_hold (comes_after before item.name) (ascends (Some item.name) items) is in
    (parts.0, Ascend-from (Some item.name) items parts.1)

Ascend-to : (before : Option (List ℕ)) (items : List Item) → Ascend before items → ascends before items ≡ true
Ascend-to before [] is = refl
Ascend-to before (item ∷ items) is = both (comes_after before item.name) (ascends (Some item.name) items) is.0 (Ascend-to (Some item.name) items is.1)

-- a file fits, by its size
FileFits-from : (item : Item) → file_size item.bytes ≤ most_file_bytes → FileFits item
FileFits-from item le = by item.bytes le
  where
    by : (file : Option (List ℕ)) → file_size file ≤ most_file_bytes → IfSome file (λ bytes. length bytes ≤ most_file_bytes)
    by None le = tt
    by (Some bytes) le = le

FileFits-to : (item : Item) → FileFits item → file_size item.bytes ≤ most_file_bytes
FileFits-to item fits = by item.bytes fits
  where
    by : (file : Option (List ℕ)) → IfSome file (λ bytes. length bytes ≤ most_file_bytes) → file_size file ≤ most_file_bytes
    by None fits = omega arith
    by (Some bytes) fits = fits

record FilesFit (room : ℕ) (items : List Item) : Type 0 where
  pub each : AllByRecursion FileFits items
  pub total : total_size items ≤ room

files-from : (room : ℕ) (items : List Item) → files_fit room items ≡ true → FilesFit room items
files-from room [] is = record { each = tt; total = omega arith }
files-from room (item ∷ items) is =
    let size = file_size item.bytes in
    let parts = both_hold (leb (file_size item.bytes) most_file_bytes && leb (file_size item.bytes) room) (files_fit (room - file_size item.bytes) items) is in
    let sizes = both_hold (leb (file_size item.bytes) most_file_bytes) (leb (file_size item.bytes) room) parts.0 in
    let rest = files-from (room - file_size item.bytes) items parts.1 in
    let into : file_size item.bytes ≤ room = leb-true _ _ sizes.1 in
    record { each = (FileFits-from item (leb-true _ _ sizes.0), rest.each); total = omega (arith, rest.total, into) }

files-to : (room : ℕ) (items : List Item) → AllByRecursion FileFits items → total_size items ≤ room → files_fit room items ≡ true
files-to room [] each total = refl
files-to room (item ∷ items) each total =
    both _ _ (both _ _ (le-leb _ _ (FileFits-to item each.0)) (le-leb _ _ (omega (arith, total)))) (files-to (room - file_size item.bytes) items each.1 (omega (arith, total)))

pub is_met-exact : (items : List Item) → (is_met items ≡ true) ↔ AreWritable items
is_met-exact items = (from, to)
  where
    from : is_met items ≡ true → AreWritable items
    from is =
        let fit = both_hold ((leb 1 (length items) && leb (length items) most_saved_files) && ascends None items) (files_fit most_saved_bytes items) is in
        let order = both_hold (leb 1 (length items) && leb (length items) most_saved_files) (ascends None items) fit.0 in
        let count = both_hold (leb 1 (length items)) (leb (length items) most_saved_files) order.0 in
        let files = files-from most_saved_bytes items fit.1 in
        record { some = leb-true _ _ count.0; count = leb-true _ _ count.1; files = files.each; ascend = Ascend-from None items order.1; total = files.total }

    to : AreWritable items → is_met items ≡ true
    to is = both _ _ (both _ _ (both _ _ (le-leb _ _ is.some) (le-leb _ _ is.count)) (Ascend-to None items is.ascend)) (files-to most_saved_bytes items is.files is.total)
