-- What an image recovers to.
use Rattle.std.proofs.Common.{◌≡◌, inl, inr, ℕ, List, Bool, true, false, Some, refl, sym, ◌∙◌, ap}
use Rattle.bk_desk.specs.declared.desk_name.DeskName.TheVariants.{Book, Journal, Gate}
use Rattle.bk_desk.specs.Disk.{DiskImage, DiskState, CrashState, MayLeave, IsCrashImage}
use Rattle.jr_form.specs.declared.item.Item.{Item}
use Rattle.jr_burst.specs.SavedFiles.{Files, book_files, overlaid, is_open_gate, items_in, recovered_files}
use Rattle.jr_burst.specs.Commit.{IsOldOrNew, IsClosed}

pub closed_recovers : (image : DiskImage) → is_open_gate (image Gate) ≡ false → recovered_files image ≡ Some (book_files image)
closed_recovers image closed = rw closed refl

pub open_recovers : (image : DiskImage) (items : List Item) → is_open_gate (image Gate) ≡ true → items_in (image Journal) ≡ Some items → recovered_files image ≡ Some (overlaid items (book_files image))
open_recovers image items opened journal = rw (opened, journal) refl

-- the book files of one image and the control files of another
abbrev pub mixed : DiskImage → DiskImage → DiskImage
mixed books controls (Book name) = books (Book name)
mixed books controls Journal = controls Journal
mixed books controls Gate = controls Gate

-- with the gate closed, the image recovers to what one at the start recovers to
pub old_crash : (start : DiskState) (items : List Item) (crash : CrashState) → IsClosed start → is_open_gate (crash.image Gate) ≡ false → ((name : List ℕ) → MayLeave start (Book name) (crash.image (Book name))) → crash.told ≡ start.told → IsOldOrNew start items crash
old_crash start items crash closed now books told = record {
  told = told;
  recovers = inl (mixed crash.image start.files, is_image, closed_recovers crash.image now ∙ sym (closed_recovers (mixed crash.image start.files) closed.closed));
  others = λ name unnamed. books name;
}
  where
    is_image : IsCrashImage start (mixed crash.image start.files)
    is_image (Book name) = books name
    is_image Journal = λ still. refl
    is_image Gate = λ still. refl

-- whatever the gate reads as, over a journal of the plan
pub either_crash : (start : DiskState) (items : List Item) (crash : CrashState) → IsClosed start → items_in (crash.image Journal) ≡ Some items → book_files crash.image ≡ book_files start.files → crash.told ≡ start.told → IsOldOrNew start items crash
either_crash start items crash closed journal books told = by (is_open_gate (crash.image Gate)) refl
  where
    same : (name : List ℕ) → crash.image (Book name) ≡ start.files (Book name)
    same name = ap (λ (files : Files). files name) books

    by : (b : Bool) → is_open_gate (crash.image Gate) ≡ b → IsOldOrNew start items crash
    by false is = old_crash start items crash closed is (λ name still. same name) told
    by true is = record {
      told = told;
      recovers = inr (open_recovers crash.image items is journal ∙ ap (λ (files : Files). Some (overlaid items files)) books);
      others = λ name unnamed still. same name;
    }
