-- What disks stand for, computed on small cases, right and wrong; and what the clauses `crash` of a commit and of a recovery
-- rule out.
use Rattle.std.proofs.Common.{◌≡◌, ◌∙◌, ℕ, List, [], ◌∷◌, Bool, true, false, Option, Some, None, refl, sym, ap, subst, inl, inr, unwrap_or}
use Rattle.std.specs.Prelude.{codes, nat_eq, if◌then◌else◌, IfSome}
use Rattle.std.specs.Cmp.Lexicographic.{pointwise}
use Rattle.bk_desk.specs.declared.desk_name.DeskName.TheVariants.{Book, Journal, Gate}
use Rattle.bk_desk.specs.Disk.{DiskImage, DiskState, CrashState}
use Rattle.jr_form.specs.declared.item.Item.{Item}
use Rattle.jr_form.specs.Reading.{reading}
use Rattle.jr_burst.specs.SavedFiles.{Files, book_files, overlaid, names, is_open_gate, open_text, items_in, laid_over, recovered_files}
use Rattle.jr_burst.specs.Commit.{IsOldOrNew}
use Rattle.jr_burst.specs.Recover.{IsStartOrRecovered}

-- `OPEN` alone is an open gate
is_open_gate-right : is_open_gate (Some (codes "OPEN")) ≡ true
is_open_gate-right = refl

is_open_gate-five_bytes : is_open_gate (Some (codes "OPEN ")) ≡ false
is_open_gate-five_bytes = refl

is_open_gate-absent : is_open_gate None ≡ false
is_open_gate-absent = refl

-- every file holds `old`
abbrev old_files : Files
old_files name = Some (codes "old")

-- a.xml is written as `new`, b.xml is removed
abbrev items : List Item
items = record { name = codes "a.xml"; bytes = Some (codes "new") } ∷ record { name = codes "b.xml"; bytes = None } ∷ []

overlaid-written : overlaid items old_files (codes "a.xml") ≡ Some (codes "new")
overlaid-written = refl

overlaid-removed : overlaid items old_files (codes "b.xml") ≡ None
overlaid-removed = refl

overlaid-left : overlaid items old_files (codes "c.xml") ≡ Some (codes "old")
overlaid-left = refl

names-right : names items (codes "b.xml") ≡ true
names-right = refl

names-wrong : names items (codes "c.xml") ≡ false
names-wrong = refl

-- a disk whose gate holds this, beside a journal that is none
abbrev disk : Option (List ℕ) → DiskImage
disk gate (Book name) = Some (codes "old")
disk gate Journal = Some (codes "x")
disk gate Gate = gate

-- with a closed gate it stands for its book files, whatever the journal holds
recovered_files-closed : recovered_files (disk (Some (codes "OPE"))) ≡ Some old_files
recovered_files-closed = refl

-- ---- what a crash may not leave

-- a.xml and c.xml hold these, beside this journal and this gate
abbrev holding : (a c journal gate : Option (List ℕ)) → DiskImage
holding a c journal gate (Book name) = if pointwise nat_eq (codes "a.xml") name then a else if pointwise nat_eq (codes "c.xml") name then c else None
holding a c journal gate Journal = journal
holding a c journal gate Gate = gate

abbrev old : Option (List ℕ)
old = Some (codes "old")

file_a : Files → List ℕ
file_a files = unwrap_or (files (codes "a.xml")) []

same_a : (a b : Files) → Some a ≡ Some b → file_a a ≡ file_a b
same_a a b is = ap (λ (o : Option Files). file_a (unwrap_or o a)) is

half_is_not_old : codes "n" ≡ codes "old" → ⊥
half_is_not_old is = absurd (cc)

half_is_not_new : codes "n" ≡ codes "new" → ⊥
half_is_not_new is = absurd (cc)

-- without a gate an image stands for its book files
no_gate : (image : DiskImage) → image Gate ≡ None → recovered_files image ≡ Some (book_files image)
no_gate image is = ap (λ (gate : Option (List ℕ)). if is_open_gate gate then laid_over (items_in (image Journal)) (book_files image) else Some (book_files image)) is

-- nothing is pending, and there is no gate
abbrev settled : DiskState
settled = record { files = holding old old None None; pending = λ name. false; told = [] }

-- a commit that writes a file before the gate is durable: half of it is there, and no gate
abbrev half_written : CrashState
half_written = record { image = holding (Some (codes "n")) old None None; told = [] }

commit_writes_early : IsOldOrNew settled items half_written → ⊥
unfolding file_a
commit_writes_early is = elim is.recovers as (λ _. ⊥) [
  | inl before ↦ half_is_not_old (same_a (book_files half_written.image) (book_files before.0) (before.2 ∙ no_gate before.0 (before.1 Gate refl)) ∙ ap (λ (o : Option (List ℕ)). unwrap_or o []) (before.1 (Book (codes "a.xml")) refl))
  | inr after ↦ half_is_not_new (same_a (book_files half_written.image) (overlaid items (book_files settled.files)) after)
]

-- .. one that touches a file outside its plan
commit_touches_another : IsOldOrNew settled items (record { image = holding (Some (codes "new")) (Some (codes "n")) None None; told = [] }) → ⊥
commit_touches_another is =
    let bad : Some (codes "n") ≡ old = is.others (codes "c.xml") refl refl in
    absurd (cc)

-- .. one that tells something
commit_tells : IsOldOrNew settled items (record { image = settled.files; told = codes "x" }) → ⊥
commit_tells is =
    let bad : codes "x" ≡ [] = is.told in
    absurd (cc)

-- the gate is open beside this journal, and is pending
abbrev gate_pending : List ℕ → DiskState
gate_pending journal = record {
  files = holding old old (Some journal) (Some open_text);
  pending = λ name. elim name as (λ _. Bool) [
    | Book n ↦ false
    | Journal ↦ false
    | Gate ↦ true
  ];
  told = [];
}

-- a recovery without its first sync: half of a file is there, and the gate is lost
abbrev gate_lost : List ℕ → CrashState
gate_lost journal = record { image = holding (Some (codes "n")) old (Some journal) None; told = [] }

recovers_unsynced : (journal : List ℕ) → reading journal ≡ Some items → IsStartOrRecovered (gate_pending journal) (gate_lost journal) → ⊥
unfolding file_a
recovers_unsynced journal reads is = elim is.recovers as (λ _. ⊥) [
  | inl before ↦ half_is_not_old (ap (λ (o : Option (List ℕ)). unwrap_or o []) (before (Book (codes "a.xml")) refl))
  | inr alike ↦ half_is_not_new (same_a (book_files (gate_lost journal).image) (overlaid items (book_files (gate_pending journal).files))
      (alike.one ∙ sym alike.two ∙ ap (λ (o : Option (List Item)). laid_over o (book_files (gate_pending journal).files)) reads))
]

-- .. one that touches a file outside the journal
recovery_touches_another : (journal : List ℕ) → reading journal ≡ Some items
    → IsStartOrRecovered (gate_pending journal) (record { image = holding (Some (codes "new")) (Some (codes "n")) (Some journal) None; told = [] }) → ⊥
recovery_touches_another journal reads is =
    let bad : Some (codes "n") ≡ old = is.others (codes "c.xml") (λ opened. subst (λ (o : Option (List Item)). IfSome o (λ listed. names listed (codes "c.xml") ≡ false)) (sym reads) refl) refl in
    absurd (cc)

-- .. one that tells something
recovery_tells : (journal : List ℕ) → IsStartOrRecovered (gate_pending journal) (record { image = (gate_pending journal).files; told = codes "x" }) → ⊥
recovery_tells journal is =
    let bad : codes "x" ≡ [] = is.told in
    absurd (cc)
