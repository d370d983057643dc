-- Crashes in a recovery, and what it leaves.
use Rattle.std.proofs.Common.{◌≡◌, inl, inr, ⊎_elim, ℕ, List, [], true, false, Option, Some, None, refl, sym, ◌∙◌, ap, subst}
use Rattle.std.specs.Prelude.{IfSome}
use Rattle.bk_desk.specs.declared.desk_name.DeskName.TheVariants.{Book, Journal, Gate}
use Rattle.bk_desk.specs.Disk.{DiskImage, DiskState, CrashState, IsCrashImage, IsCrashState, Syncs, NothingPending}
use Rattle.jr_form.specs.declared.item.Item.{Item}
use Rattle.jr_burst.specs.SavedFiles.{Files, book_files, overlaid, names, is_open_gate, items_in, recovered_files}
use Rattle.jr_burst.specs.Commit.{HasOpenJournal, Leaves, RecoversTo}
use Rattle.jr_burst.specs.Recover.{RecoversAlike, IsUnnamed, IsStartOrRecovered, IsRecovered, HasOpenGate}
use Rattle.jr_burst.proofs.Overlay.{overlaid_other}
use Rattle.jr_burst.proofs.Recovering.{open_recovers, closed_recovers}

due_recovers : (items : List Item) (start : DiskState) → HasOpenJournal items start → recovered_files start.files ≡ Some (overlaid items (book_files start.files))
due_recovers items start due = open_recovers start.files items due.gate due.journal

is_unnamed : (items : List Item) (start : DiskState) (name : List ℕ) → HasOpenJournal items start → IsUnnamed start name → names items name ≡ false
is_unnamed items start name due unnamed = subst (λ (found : Option (List Item)). IfSome found (λ items. names items name ≡ false)) due.journal (unnamed due.gate)

pub carrying_recovers : (items : List Item) (start : DiskState) (crash : CrashState) → HasOpenJournal items start → RecoversTo (overlaid items (book_files start.files)) start items crash → IsStartOrRecovered start crash
carrying_recovers items start crash due is = record {
  told = is.told;
  recovers = inr (record { files = overlaid items (book_files start.files); one = is.recovers; two = due_recovers items start due });
  others = λ name unnamed still. is.others name (is_unnamed items start name due unnamed);
}

pub closing_recovers : (items : List Item) (start carried : DiskState) (crash : CrashState) → HasOpenJournal items start → Leaves (overlaid items (book_files start.files)) start carried → RecoversTo (book_files carried.files) carried [] crash → IsStartOrRecovered start crash
closing_recovers items start carried crash due left is = record {
  told = is.told ∙ left.told;
  recovers = inr (record {
    files = overlaid items (book_files start.files);
    one = is.recovers ∙ ap (λ (files : Files). Some files) left.book;
    two = due_recovers items start due;
  });
  others = λ name unnamed still. is.others name refl ∙ ap (λ (files : Files). files name) left.book ∙ overlaid_other items (book_files start.files) name (is_unnamed items start name due unnamed);
}

pub is_redone : (items : List Item) (start carried now : DiskState) → HasOpenJournal items start → Leaves (overlaid items (book_files start.files)) start carried → Leaves (book_files carried.files) carried now → now.files Gate ≡ None → IsRecovered start now
is_redone items start carried now due left closed gate = record {
  book = due_recovers items start due ∙ ap (λ (files : Files). Some files) (sym (closed.book ∙ left.book));
  told = closed.told ∙ left.told;
  gate = ap is_open_gate gate;
  durable = closed.durable;
}

-- before anything is written, each crash is one of the start
pub start_crash : (start : DiskState) (crash : CrashState) → IsCrashState start crash → IsStartOrRecovered start crash
start_crash start crash is = record { told = is.told; recovers = inl is.image; others = λ name unnamed. is.image (Book name) }

-- what holds after the first sync holds of the start
pub rebased : (start synced : DiskState) (crash : CrashState) → Syncs start synced → NothingPending synced → IsStartOrRecovered synced crash → IsStartOrRecovered start crash
rebased start synced crash syncs durable is = record {
  told = is.told ∙ syncs.told;
  recovers = ⊎_elim (λ (image : IsCrashImage synced crash.image). inl (λ name still. image name (durable name) ∙ ap (λ (files : DiskImage). files name) syncs.files)) (λ (alike : RecoversAlike crash.image synced.files). inr (record { files = alike.files; one = alike.one; two = ap recovered_files (sym syncs.files) ∙ alike.two })) is.recovers;
  others = λ name unnamed still. is.others name (subst (λ (files : DiskImage). is_open_gate (files Gate) ≡ true → IfSome (items_in (files Journal)) (λ items. names items name ≡ false)) (sym syncs.files) unnamed) (durable (Book name)) ∙ ap (λ (files : DiskImage). files (Book name)) syncs.files;
}

pub recovered_from : (start synced now : DiskState) → Syncs start synced → IsRecovered synced now → IsRecovered start now
recovered_from start synced now syncs is = record { book = ap recovered_files (sym syncs.files) ∙ is.book; told = is.told ∙ syncs.told; gate = is.gate; durable = is.durable }

-- with the gate closed nothing is to be done
pub closed_is_recovered : (start synced now : DiskState) → Syncs start synced → NothingPending synced → now ≡ synced → is_open_gate (synced.files Gate) ≡ false → IsRecovered start now
closed_is_recovered start synced now syncs durable same gate = subst (λ (s : DiskState). IsRecovered start s) (sym same) record {
  book = ap recovered_files (sym syncs.files) ∙ closed_recovers synced.files gate;
  told = syncs.told;
  gate = gate;
  durable = durable;
}

-- the journal has no reading
pub is_damaged : (standing : DiskState) → HasOpenGate standing → items_in (standing.files Journal) ≡ None → recovered_files standing.files ≡ None
is_damaged standing gate none = rw (gate.gate, none) refl
