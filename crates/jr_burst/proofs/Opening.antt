-- Crashes while the journal is written and the gate is opened.
use Rattle.std.proofs.Common.{◌≡◌, ℕ, List, Bool, Option, Some, ◌∙◌, ap}
use Rattle.std.specs.Prelude.{IsTrue}
use Rattle.std.proofs.Math.Path.{fun_ext}
use Rattle.bk_desk.specs.declared.desk_name.DeskName.{DeskName}
use Rattle.bk_desk.specs.declared.desk_name.DeskName.TheVariants.{Book, Journal, Gate}
use Rattle.bk_desk.specs.Disk.{DiskState, CrashState, IsCrashState, WhileWriting, Replaces, Syncs, NothingPending}
use Rattle.bk_desk.specs.CrashPoints.{Elapses, AtEachCrash}
use Rattle.bk_desk.proofs.Theorems.{started, goes_on}
use Rattle.jr_form.specs.declared.item.Item.{Item}
use Rattle.jr_form.specs.Reading.{reading}
use Rattle.jr_burst.specs.SavedFiles.{book_files, is_open_gate, items_in}
use Rattle.jr_burst.specs.Commit.{IsOldOrNew, IsClosed}
use Rattle.jr_burst.proofs.Recovering.{old_crash, either_crash}

-- a journal of the plan is on the disk, and all else is as at the start
pub record IsStaged (items : List Item) (start now : DiskState) : Type 0 where
  pub journal : items_in (now.files Journal) ≡ Some items
  pub book : book_files now.files ≡ book_files start.files
  pub told : now.told ≡ start.told
  pub durable : NothingPending now

pub is_staged : (items : List Item) (bytes : List ℕ) (start written now : DiskState) → reading bytes ≡ Some items → Replaces Journal (Some bytes) start written → Syncs written now → NothingPending now → IsStaged items start now
is_staged items bytes start written now reads puts syncs durable = record {
  journal = ap (λ (files : DeskName → Option (List ℕ)). items_in (files Journal)) syncs.files ∙ ap items_in puts.reads ∙ reads;
  book = fun_ext (λ name. ap (λ (files : DeskName → Option (List ℕ)). files (Book name)) syncs.files ∙ puts.touches.others (Book name) (λ same. cc));
  told = syncs.told ∙ puts.touches.told;
  durable = durable;
}

module _ {D : Type 0} (tells : Bool) (standing : D → DiskState) (time : D → ℕ) (was : D → ℕ → CrashState → Type 0)
    (only_now : (desk : D) (crash : CrashState) → IsTrue tells → was desk (time desk) crash → IsCrashState (standing desk) crash) (telling : IsTrue tells)
    (items : List Item) (old : D) (closed : IsClosed (standing old)) where
  abbrev P : CrashState → Type 0
  P = IsOldOrNew (standing old) items

  pub journal_written : (new : D) → Elapses (time old) (time new) (was old) (was new) (WhileWriting Journal (standing old)) → AtEachCrash time was old new P
  journal_written new call = goes_on time was old old new P _ (started time was old P at_start) call within
    where
      at_start : (crash : CrashState) → was old (time old) crash → P crash
      at_start crash since = let now = only_now old crash telling since in old_crash (standing old) items crash closed (ap is_open_gate (now.image Gate closed.durable) ∙ closed.closed) (λ name. now.image (Book name)) now.told

      within : (crash : CrashState) → WhileWriting Journal (standing old) crash → P crash
      within crash now = old_crash (standing old) items crash closed (ap is_open_gate (now.others Gate (λ same. cc) closed.durable) ∙ closed.closed) (λ name. now.others (Book name) (λ same. cc)) now.told

  pub journal_synced : (mid new : D) (file : Option (List ℕ)) → AtEachCrash time was old mid P → Replaces Journal file (standing old) (standing mid) → Elapses (time mid) (time new) (was mid) (was new) (IsCrashState (standing mid)) → AtEachCrash time was old new P
  journal_synced mid new file so_far puts call = goes_on time was old mid new P _ so_far call within
    where
      within : (crash : CrashState) → IsCrashState (standing mid) crash → P crash
      within crash now =
          let gate = now.image Gate (puts.touches.pending_others Gate (λ same. cc) ∙ closed.durable) ∙ puts.touches.others Gate (λ same. cc) in
          old_crash (standing old) items crash closed (ap is_open_gate gate ∙ closed.closed) (λ name still. now.image (Book name) (puts.touches.pending_others (Book name) (λ same. cc) ∙ still) ∙ puts.touches.others (Book name) (λ same. cc)) (now.told ∙ puts.touches.told)

  pub gate_written : (mid new : D) → AtEachCrash time was old mid P → IsStaged items (standing old) (standing mid) → Elapses (time mid) (time new) (was mid) (was new) (WhileWriting Gate (standing mid)) → AtEachCrash time was old new P
  gate_written mid new so_far staged call = goes_on time was old mid new P _ so_far call within
    where
      within : (crash : CrashState) → WhileWriting Gate (standing mid) crash → P crash
      within crash now =
          either_crash (standing old) items crash closed (ap items_in (now.others Journal (λ same. cc) (staged.durable Journal)) ∙ staged.journal) (fun_ext (λ name. now.others (Book name) (λ same. cc) (staged.durable (Book name))) ∙ staged.book) (now.told ∙ staged.told)

  pub gate_synced : (mid gated new : D) (file : Option (List ℕ)) → AtEachCrash time was old gated P → IsStaged items (standing old) (standing mid) → Replaces Gate file (standing mid) (standing gated) → Elapses (time gated) (time new) (was gated) (was new) (IsCrashState (standing gated)) → AtEachCrash time was old new P
  gate_synced mid gated new file so_far staged puts call = goes_on time was old gated new P _ so_far call within
    where
      same : (name : DeskName) → (name ≡ Gate → ⊥) → (crash : CrashState) → IsCrashState (standing gated) crash → crash.image name ≡ (standing mid).files name
      same name other crash now = now.image name (puts.touches.pending_others name other ∙ staged.durable name) ∙ puts.touches.others name other

      within : (crash : CrashState) → IsCrashState (standing gated) crash → P crash
      within crash now =
          either_crash (standing old) items crash closed (ap items_in (same Journal (λ e. cc) crash now) ∙ staged.journal) (fun_ext (λ name. same (Book name) (λ e. cc) crash now) ∙ staged.book) (now.told ∙ puts.touches.told ∙ staged.told)
