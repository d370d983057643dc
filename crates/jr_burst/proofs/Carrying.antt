-- Crashes while files are written and removed under an open gate, and while the gate is closed.
use Rattle.std.proofs.Common.{◌≡◌, ◌≤◌, ◌<◌, ◌+◌, length, drop, get_or, inr, ℕ, List, [], ◌∷◌, Bool, true, false, Option, Some, None, refl, sym, ◌∙◌, ap, subst}
use Rattle.std.specs.Prelude.{IsTrue, nat_eq}
use Rattle.std.proofs.Math.Path.{fun_ext}
use Rattle.std.specs.Cmp.Lexicographic.{pointwise, bytes_decides}
use Rattle.std.proofs.lemmas.List.{drop_more, drop_all}
use Rattle.bk_desk.specs.declared.desk_name.DeskName.{DeskName}
use Rattle.bk_desk.specs.declared.desk_name.DeskName.TheVariants.{Book, Journal, Gate}
use Rattle.bk_desk.specs.Disk.{DiskImage, DiskState, CrashState, IsCrashState, WhileWriting, Replaces, Syncs, NothingPending}
use Rattle.bk_desk.specs.CrashPoints.{Elapses, AtEachCrash}
use Rattle.bk_desk.proofs.Theorems.{started, goes_on}
use Rattle.jr_form.specs.declared.item.Item.{Item}
use Rattle.jr_burst.specs.SavedFiles.{Files, book_files, overlaid, names, is_open_gate, items_in, laid_over, recovered_files}
use Rattle.jr_burst.specs.Commit.{HasOpenJournal, IsCarriedOut, Leaves, RecoversTo, IsOldOrNew}
use Rattle.jr_burst.proofs.Overlay.{overlaid_same, overlaid_other, overlaid_twice, changed_by}
use Rattle.jr_burst.proofs.Recovering.{open_recovers, closed_recovers}

-- between two writes: what is left to do leads to the new files
pub record IsUnderWay (items rest : List Item) (start now : DiskState) : Type 0 where
  pub gate : is_open_gate (now.files Gate) ≡ true
  pub gate_still : now.pending Gate ≡ false
  pub journal : items_in (now.files Journal) ≡ Some items
  pub journal_still : now.pending Journal ≡ false
  pub told : now.told ≡ start.told
  pub leads : overlaid rest (book_files now.files) ≡ overlaid items (book_files start.files)
  pub within : (name : List ℕ) → names items name ≡ false → names rest name ≡ false
  pub others : (name : List ℕ) → names items name ≡ false → now.files (Book name) ≡ start.files (Book name)
  pub others_still : (name : List ℕ) → names items name ≡ false → now.pending (Book name) ≡ false

pub under_way_at_start : (items : List Item) (start : DiskState) → HasOpenJournal items start → IsUnderWay items items start start
under_way_at_start items start due = record {
  gate = due.gate;
  gate_still = due.durable Gate;
  journal = due.journal;
  journal_still = due.durable Journal;
  told = refl;
  leads = refl;
  within = λ name unnamed. unnamed;
  others = λ name unnamed. refl;
  others_still = λ name unnamed. due.durable (Book name);
}

-- no item of this name is the first of the rest
apart : (item : Item) (rest : List Item) (name : List ℕ) → names (item ∷ rest) name ≡ false → (pointwise nat_eq item.name name ≡ false) × (names rest name ≡ false)
apart item rest name unnamed = by (pointwise nat_eq item.name name) refl
  where
    by : (b : Bool) → pointwise nat_eq item.name name ≡ b → (pointwise nat_eq item.name name ≡ false) × (names rest name ≡ false)
    by true is = let t : true ≡ false = rw is at unnamed in absurd cc
    by false is = let u : names rest name ≡ false = rw is at unnamed in (is, u)

not_this : (item : Item) (name : List ℕ) → pointwise nat_eq item.name name ≡ false → Book name ≡ Book item.name → ⊥
not_this item name is same =
    let e : item.name ≡ name = cc in
    let t : true ≡ false = sym ((bytes_decides item.name name).1 e) ∙ is in
    cc

pub one_more : (items rest : List Item) (item : Item) (start old new : DiskState) → IsUnderWay items (item ∷ rest) start old → Replaces (Book item.name) item.bytes old new → IsUnderWay items rest start new
one_more items rest item start old new way puts = record {
  gate = ap is_open_gate (puts.touches.others Gate (λ same. cc)) ∙ way.gate;
  gate_still = puts.touches.pending_others Gate (λ same. cc) ∙ way.gate_still;
  journal = ap items_in (puts.touches.others Journal (λ same. cc)) ∙ way.journal;
  journal_still = puts.touches.pending_others Journal (λ same. cc) ∙ way.journal_still;
  told = puts.touches.told ∙ way.told;
  leads = ap (overlaid rest) (changed_by item old new puts) ∙ way.leads;
  within = λ name unnamed. (apart item rest name (way.within name unnamed)).1;
  others = λ name unnamed. puts.touches.others (Book name) (not_this item name (apart item rest name (way.within name unnamed)).0) ∙ way.others name unnamed;
  others_still = λ name unnamed. puts.touches.pending_others (Book name) (not_this item name (apart item rest name (way.within name unnamed)).0) ∙ way.others_still name unnamed;
}

-- an image with the open gate, the journal, and other files only under the names of the items
pub new_crash : (items : List Item) (start : DiskState) (crash : CrashState) → is_open_gate (crash.image Gate) ≡ true → items_in (crash.image Journal) ≡ Some items → ((name : List ℕ) → names items name ≡ false → crash.image (Book name) ≡ start.files (Book name)) → crash.told ≡ start.told → RecoversTo (overlaid items (book_files start.files)) start items crash
new_crash items start crash gate journal others told = record {
  told = told;
  recovers = open_recovers crash.image items gate journal ∙ ap (λ (files : Files). Some files) (overlaid_same items (book_files crash.image) (book_files start.files) others);
  others = others;
}

pub at_rest : (items rest : List Item) (start now : DiskState) (crash : CrashState) → IsUnderWay items rest start now → IsCrashState now crash → RecoversTo (overlaid items (book_files start.files)) start items crash
at_rest items rest start now crash way is =
    new_crash items start crash (ap is_open_gate (is.image Gate way.gate_still) ∙ way.gate) (ap items_in (is.image Journal way.journal_still) ∙ way.journal) (λ name unnamed. is.image (Book name) (way.others_still name unnamed) ∙ way.others name unnamed) (is.told ∙ way.told)

pub in_between : (items rest : List Item) (item : Item) (start now : DiskState) (crash : CrashState) → IsUnderWay items (item ∷ rest) start now → WhileWriting (Book item.name) now crash → RecoversTo (overlaid items (book_files start.files)) start items crash
in_between items rest item start now crash way is =
    new_crash items start crash (ap is_open_gate (is.others Gate (λ same. cc) way.gate_still) ∙ way.gate) (ap items_in (is.others Journal (λ same. cc) way.journal_still) ∙ way.journal) (λ name unnamed. is.others (Book name) (not_this item name (apart item rest name (way.within name unnamed)).0) (way.others_still name unnamed) ∙ way.others name unnamed) (is.told ∙ way.told)

-- after the last write and a sync
pub is_carried_out : (items : List Item) (start old new : DiskState) → IsUnderWay items [] start old → Syncs old new → NothingPending new → IsCarriedOut new
is_carried_out items start old new way syncs durable = record {
  gate = gate;
  recovers = open_recovers new.files items gate journal ∙ ap (λ (files : Files). Some files) (ap (overlaid items) book ∙ overlaid_twice items (book_files start.files) ∙ sym book);
  durable = durable;
}
  where
    gate : is_open_gate (new.files Gate) ≡ true
    gate = ap (λ (files : DiskImage). is_open_gate (files Gate)) syncs.files ∙ way.gate

    journal : items_in (new.files Journal) ≡ Some items
    journal = ap (λ (files : DiskImage). items_in (files Journal)) syncs.files ∙ way.journal

    book : book_files new.files ≡ overlaid items (book_files start.files)
    book = ap book_files syncs.files ∙ way.leads

pub leaves_new : (items : List Item) (start old new : DiskState) → IsUnderWay items [] start old → Syncs old new → NothingPending new → Leaves (overlaid items (book_files start.files)) start new
leaves_new items start old new way syncs durable = record { book = ap book_files syncs.files ∙ way.leads; told = syncs.told ∙ way.told; durable = durable }

pub way_at : (items : List Item) (i : ℕ) (item : Item) (start now : DiskState) → i < length items → item ≡ get_or items i item → IsUnderWay items (drop i items) start now → IsUnderWay items (item ∷ drop (i + 1) items) start now
way_at items i item start now lt is way =
    subst (λ (rest : List Item). IsUnderWay items rest start now) (drop_more items i item lt ∙ ap (λ (x : Item). x ∷ drop (i + 1) items) (sym is)) way

pub way_ends : (items : List Item) (i : ℕ) (start now : DiskState) → length items ≤ i → IsUnderWay items (drop i items) start now → IsUnderWay items [] start now
way_ends items i start now le way = subst (λ (rest : List Item). IsUnderWay items rest start now) (drop_all i items le) way

-- ---- closing the gate

pub closing_crash : (start : DiskState) (crash : CrashState) → IsCarriedOut start → crash.image Journal ≡ start.files Journal → book_files crash.image ≡ book_files start.files → crash.told ≡ start.told → RecoversTo (book_files start.files) start [] crash
closing_crash start crash done journal books told = record {
  told = told;
  recovers = by (is_open_gate (crash.image Gate)) refl;
  others = λ name unnamed. ap (λ (files : Files). files name) books;
}
  where
    start_is : laid_over (items_in (start.files Journal)) (book_files start.files) ≡ Some (book_files start.files)
    start_is = rw done.gate at done.recovers

    by : (b : Bool) → is_open_gate (crash.image Gate) ≡ b → recovered_files crash.image ≡ Some (book_files start.files)
    by false is = closed_recovers crash.image is ∙ ap (λ (files : Files). Some files) books
    by true is = rw is (ap (λ (file : Option (List ℕ)). laid_over (items_in file) (book_files crash.image)) journal ∙ ap (laid_over (items_in (start.files Journal))) books ∙ start_is)

module _ {D : Type 0} (tells : Bool) (standing : D → DiskState) (time : D → ℕ) (was : D → ℕ → CrashState → Type 0)
    (only_now : (desk : D) (crash : CrashState) → IsTrue tells → was desk (time desk) crash → IsCrashState (standing desk) crash) (telling : IsTrue tells) (old : D) where
  pub carrying_starts : (items : List Item) → HasOpenJournal items (standing old) → AtEachCrash time was old old (RecoversTo (overlaid items (book_files (standing old).files)) (standing old) items)
  carrying_starts items due = started time was old _ (λ crash since. at_rest items items (standing old) (standing old) crash (under_way_at_start items (standing old) due) (only_now old crash telling since))

  abbrev Closing : CrashState → Type 0
  Closing = RecoversTo (book_files (standing old).files) (standing old) []

  pub gate_removed : (new : D) → IsCarriedOut (standing old) → Elapses (time old) (time new) (was old) (was new) (WhileWriting Gate (standing old)) → AtEachCrash time was old new Closing
  gate_removed new done call = goes_on time was old old new Closing _ (started time was old Closing at_start) call within
    where
      at_start : (crash : CrashState) → was old (time old) crash → Closing crash
      at_start crash since =
          let now = only_now old crash telling since in
          closing_crash (standing old) crash done (now.image Journal (done.durable Journal)) (fun_ext (λ name. now.image (Book name) (done.durable (Book name)))) now.told

      within : (crash : CrashState) → WhileWriting Gate (standing old) crash → Closing crash
      within crash now = closing_crash (standing old) crash done (now.others Journal (λ same. cc) (done.durable Journal)) (fun_ext (λ name. now.others (Book name) (λ same. cc) (done.durable (Book name)))) now.told

  pub removal_synced : (mid new : D) → IsCarriedOut (standing old) → AtEachCrash time was old mid Closing → Replaces Gate None (standing old) (standing mid) → Elapses (time mid) (time new) (was mid) (was new) (IsCrashState (standing mid)) → AtEachCrash time was old new Closing
  removal_synced mid new done so_far puts call = goes_on time was old mid new Closing _ so_far call within
    where
      same : (name : DeskName) → (name ≡ Gate → ⊥) → (crash : CrashState) → IsCrashState (standing mid) crash → crash.image name ≡ (standing old).files name
      same name other crash now = now.image name (puts.touches.pending_others name other ∙ done.durable name) ∙ puts.touches.others name other

      within : (crash : CrashState) → IsCrashState (standing mid) crash → Closing crash
      within crash now = closing_crash (standing old) crash done (same Journal (λ e. cc) crash now) (fun_ext (λ name. same (Book name) (λ e. cc) crash now)) (now.told ∙ puts.touches.told)

-- ---- all of it

pub written_is_new : (items : List Item) (start due : DiskState) (crash : CrashState) → Leaves (book_files start.files) start due → RecoversTo (overlaid items (book_files due.files)) due items crash → IsOldOrNew start items crash
written_is_new items start due crash left is = record {
  told = is.told ∙ left.told;
  recovers = inr (is.recovers ∙ ap (λ (files : Files). Some (overlaid items files)) left.book);
  others = λ name unnamed still. is.others name unnamed ∙ ap (λ (files : Files). files name) left.book;
}

pub closing_is_new : (items : List Item) (start due done : DiskState) (crash : CrashState) → Leaves (book_files start.files) start due → Leaves (overlaid items (book_files due.files)) due done → RecoversTo (book_files done.files) done [] crash → IsOldOrNew start items crash
closing_is_new items start due done crash left carried is = record {
  told = is.told ∙ carried.told ∙ left.told;
  recovers = inr (is.recovers ∙ ap (λ (files : Files). Some files) book);
  others = λ name unnamed still. is.others name refl ∙ ap (λ (files : Files). files name) book ∙ overlaid_other items (book_files start.files) name unnamed;
}
  where
    book : book_files done.files ≡ overlaid items (book_files start.files)
    book = carried.book ∙ ap (overlaid items) left.book
