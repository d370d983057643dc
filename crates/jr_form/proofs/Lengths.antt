-- How long a journal is.
use Rattle.std.proofs.Common.{◌≡◌, ℕ, zero, suc, subst, ◌+◌, ◌*◌, ◌<◌, ◌≤◌, List, [], ◌∷◌, ◌++◌, length, get_or, Option, Some, None, sym, ap, length-append, arith}
use Rattle.std.specs.List.{flat_map, AllByRecursion}
use Rattle.std.specs.Int.{w16, w32, to_be_bytes}
use Rattle.std.proofs.lemmas.List.Concat.{flat_map-cons}
use Rattle.jr_form.specs.declared.item.Item.{Item}
use Rattle.jr_form.specs.Journal.{mark, content, name_field, entry, spelling, file_size, total_size, IsNamed, FileFits, Fits, AreWritable, IsJournal}
use Rattle.jr_form.proofs.Items.{length-name}

length-content : (file : Option (List ℕ)) → length (content file) ≤ 4 + file_size file
length-content None = omega arith
length-content (Some bytes) = omega (arith, length-append (to_be_bytes w32 (length bytes)) bytes)

length-entry : (item : Item) → Fits item → length (entry item) ≤ 262 + file_size item.bytes
length-entry item fits =
    omega (arith, length-name item.name fits.name, length-content item.bytes, length-append (to_be_bytes w16 (length item.name)) item.name, length-append (name_field item.name) (content item.bytes))

length-entries : (items : List Item) → AllByRecursion Fits items → length (flat_map entry items) ≤ 262 * length items + total_size items
length-entries [] fits = omega arith
length-entries (item ∷ items) fits =
    omega (arith, ap length (flat_map-cons entry item items), length-append (entry item) (flat_map entry items), length-entry item fits.0, length-entries items fits.1)

-- files that fit, under names of book files
pub all_fit : (items : List Item) → AllByRecursion IsNamed items → AllByRecursion FileFits items → AllByRecursion Fits items
all_fit [] named fits = tt
all_fit (item ∷ items) named fits = (record { name = named.0; bytes = fits.0 }, all_fit items named.1 fits.1)

pub is_journal : (items : List Item) (bytes : List ℕ) → AreWritable items → AllByRecursion IsNamed items → bytes ≡ spelling items → IsJournal items bytes
is_journal items bytes writable named is =
    let fit = all_fit items named writable.files in
    record {
      items_fit = record { some = writable.some; count = writable.count; fit = fit; ascend = writable.ascend };
      spelled = is;
      cap = omega (arith, ap length is, length-append (mark ++ to_be_bytes w32 (length items)) (flat_map entry items), length-entries items fit, writable.count, writable.total);
    }

-- what all items have, each has
pub all_at : (P : Item → Type 0) (items : List Item) (i : ℕ) (item : Item) → AllByRecursion P items → i < length items → item ≡ get_or items i item → P item
all_at P [] i item all lt is = absurd (omega arith)
all_at P (first ∷ items) zero item all lt is = subst P (sym is) all.0
all_at P (first ∷ items) (suc i) item all lt is = all_at P items i item all.1 (omega arith) is

pub all-push : (P : Item → Type 0) (items : List Item) (item : Item) → AllByRecursion P items → P item → AllByRecursion P (items ++ item ∷ [])
all-push P [] item all last = (last, tt)
all-push P (first ∷ items) item all last = (all.0, all-push P items item all.1 last)
