-- Files that are overlaid by items.
use Rattle.std.proofs.Common.{◌≡◌, ℕ, List, [], ◌∷◌, Bool, true, false, cond, refl, sym, ◌∙◌, subst}
use Rattle.std.specs.Prelude.{nat_eq}
use Rattle.std.proofs.Math.Path.{fun_ext}
use Rattle.std.specs.Cmp.Lexicographic.{pointwise, bytes_decides}
use Rattle.bk_desk.specs.declared.desk_name.DeskName.TheVariants.{Book}
use Rattle.bk_desk.specs.Disk.{DiskState, Replaces}
use Rattle.jr_form.specs.declared.item.Item.{Item}
use Rattle.jr_burst.specs.SavedFiles.{Files, book_files, changed, overlaid, names}

-- the files under the names that no item has decide
pub overlaid_same : (items : List Item) (f g : Files) → ((name : List ℕ) → names items name ≡ false → f name ≡ g name) → overlaid items f ≡ overlaid items g
overlaid_same [] f g same = fun_ext (λ name. same name refl)
overlaid_same (item ∷ items) f g same = overlaid_same items (changed item f) (changed item g) below
  where
    by : (b : Bool) (name : List ℕ) → pointwise nat_eq item.name name ≡ b → names items name ≡ false → cond b item.bytes (f name) ≡ cond b item.bytes (g name)
    by true name is unnamed = refl
    by false name is unnamed = same name (rw (is, unnamed) refl)

    below : (name : List ℕ) → names items name ≡ false → changed item f name ≡ changed item g name
    below name unnamed = by (pointwise nat_eq item.name name) name refl unnamed

-- a file that no item names is as before
pub overlaid_other : (items : List Item) (f : Files) (name : List ℕ) → names items name ≡ false → overlaid items f name ≡ f name
overlaid_other [] f name unnamed = refl
overlaid_other (item ∷ items) f name unnamed = by (pointwise nat_eq item.name name) refl (overlaid_other items (changed item f) name)
  where
    by : (b : Bool) → pointwise nat_eq item.name name ≡ b → (names items name ≡ false → overlaid items (changed item f) name ≡ changed item f name) → overlaid items (changed item f) name ≡ f name
    by true is below = let t : true ≡ false = rw is at unnamed in absurd cc
    by false is below =
        let u : names items name ≡ false = rw is at unnamed in
        below u ∙ rw is refl

pub overlaid_twice : (items : List Item) (f : Files) → overlaid items (overlaid items f) ≡ overlaid items f
overlaid_twice items f = overlaid_same items (overlaid items f) f (overlaid_other items f)

-- what writing or removing the item's file makes of the book
pub changed_by : (item : Item) (old new : DiskState) → Replaces (Book item.name) item.bytes old new → book_files new.files ≡ changed item (book_files old.files)
changed_by item old new puts = fun_ext (λ name. by (pointwise nat_eq item.name name) name refl)
  where
    by : (b : Bool) (name : List ℕ) → pointwise nat_eq item.name name ≡ b → new.files (Book name) ≡ cond b item.bytes (old.files (Book name))
    by true name is = subst (λ (n : List ℕ). new.files (Book n) ≡ item.bytes) ((bytes_decides item.name name).0 is) puts.reads
    by false name is = puts.touches.others (Book name) (λ same.
        let e : item.name ≡ name = cc in
        let t : true ≡ false = sym ((bytes_decides item.name name).1 e) ∙ is in
        absurd cc)
