-- What a save of the root writes, and what a crash in it may leave; of this project, over the disk of `bk_desk` and the
-- commit of `jr_burst`.
--
--   item_of          the root as an item of a journal
--   IsCount          how many files differ from what was saved: 0 or 1
--   IsSaved          the session afterwards, and how many files were written
--   IsBurst          the disk afterwards
--   MayCrashInBurst  a crash at any point of the call
use Rattle.std.specs.Prelude.{◌≡◌, ◌≢◌, ◌⊎◌, ℕ, List, [], ◌∷◌, Some}
use Rattle.bk_desk.specs.Disk.{DiskState, CrashState, IsCrashState}
use Rattle.jr_form.specs.declared.item.Item.{Item}
use Rattle.jr_burst.specs.SavedFiles.{book_files, overlaid}
use Rattle.jr_burst.specs.Commit.{IsOldOrNew, IsClosed, Leaves}
use Rattle.ed_session.specs.Kept.{Kept}

abbrev pub item_of : List ℕ → List ℕ → Item
item_of root bytes = record { name = root; bytes = Some bytes }

-- how many files differ from what was saved
abbrev pub IsCount : Kept → ℕ → Type 0
IsCount k count = ((k.bytes ≡ k.saved) × (count ≡ 0)) ⊎ ((k.bytes ≢ k.saved) × (count ≡ 1))

-- the bytes as edited are now those last saved
pub record IsSaved (old new : Kept) (count : ℕ) : Type 0 where
  pub counts : IsCount old count
  pub new_is : new ≡ record { root = old.root; bytes = old.bytes; saved = old.bytes }

-- nothing was written where nothing differs; else the root was, and that is durable, and the gate is closed
abbrev pub IsBurst : Kept → DiskState → DiskState → ℕ → Type 0
IsBurst k old new count =
    ((k.bytes ≡ k.saved) × (count ≡ 0) × (new ≡ old))
    ⊎ ((k.bytes ≢ k.saved) × (count ≡ 1) × Leaves (overlaid (item_of k.root k.bytes ∷ []) (book_files old.files)) old new × IsClosed new)

abbrev pub MayCrashInBurst : Kept → DiskState → CrashState → Type 0
MayCrashInBurst k start crash = ((k.bytes ≢ k.saved) × IsOldOrNew start (item_of k.root k.bytes ∷ []) crash) ⊎ IsCrashState start crash
