-- The definitions computed on small cases, right and wrong.
use Rattle.std.proofs.Common.{◌≡◌, ◌∙◌, ℕ, ◌+◌, List, [], ◌∷◌, true, false, Some, None, refl, sym, ap, arith}
use Rattle.std.specs.Prelude.{codes}
use Rattle.bk_desk.specs.declared.desk_name.DeskName.TheVariants.{Book, Journal, Gate}
use Rattle.bk_desk.specs.declared.desk.Got.TheVariants.{Absent, Bytes, Longer}
use Rattle.bk_desk.specs.declared.log.Call.{Call}
use Rattle.bk_desk.specs.declared.log.Call.TheVariants.{Put, Sync, Tell}
use Rattle.bk_desk.specs.declared.log.Entry.{Entry}
use Rattle.bk_desk.specs.declared.stop.Left.TheVariants as left
use Rattle.bk_desk.specs.DeskNames.{same_name}
use Rattle.bk_desk.specs.Disk.{DiskState, MayLeave, got_of}
use Rattle.bk_desk.specs.Cause.{Rose, StaysFaultless}
use Rattle.bk_desk.specs.Calls.{after, opening, failures}
use Rattle.bk_desk.specs.Left.{left_image}
use Rattle.bk_desk.specs.declared.mem_desk.MemDesk.{MemDesk}
use Rattle.bk_desk.specs.Mem.{is_listed, mem_calls, mem_fails, mem_faultless}

-- names are compared byte for byte, and a control file is no book file
same_name-right : same_name (Book (codes "a.xml")) (Book (codes "a.xml")) ≡ true
same_name-right = refl

same_name-wrong : same_name (Book (codes "a.xml")) (Book (codes "A.xml")) ≡ false
same_name-wrong = refl

same_name-control : same_name (Book (codes ".burst-gate")) Gate ≡ false
same_name-control = refl

-- a read with the cap 4: `OPEN` fits, a fifth byte doesn't
got_of-fits : got_of (Some (codes "OPEN")) 4 ≡ Bytes (codes "OPEN")
got_of-fits = refl

got_of-longer : got_of (Some (codes "OPEN ")) 4 ≡ Longer
got_of-longer = refl

got_of-absent : got_of None 4 ≡ Absent
got_of-absent = refl

-- a.xml holds `1`; it is written as `2` and synced, as `3`, and as `4` in a call that fails
abbrev entries : List Entry
entries = record { name = Book (codes "a.xml"); bytes = codes "1" } ∷ []

abbrev calls : List Call
calls = Put (Book (codes "a.xml")) (Some (codes "2")) true ∷ Sync true ∷ Put (Book (codes "a.xml")) (Some (codes "3")) true ∷ Put (Book (codes "a.xml")) (Some (codes "4")) false ∷ Tell (codes "ok") true ∷ []

after-reads : (after (opening entries) calls).files (Book (codes "a.xml")) ≡ Some (codes "3")
after-reads = refl

after-pending : (after (opening entries) calls).pending (Book (codes "a.xml")) ≡ true
after-pending = refl

after-told_ok : (after (opening entries) calls).told ≡ codes "ok"
after-told_ok = refl

failures-one : failures calls ≡ 1
failures-one = refl

-- what a stop leaves there
left_image-old : left_image entries calls left.Old (Book (codes "a.xml")) ≡ Some (codes "2")
left_image-old = refl

left_image-new : left_image entries calls left.New (Book (codes "a.xml")) ≡ Some (codes "4")
left_image-new = refl

left_image-absent : left_image entries calls left.Absent (Book (codes "a.xml")) ≡ None
left_image-absent = refl

left_image-other : left_image entries calls left.Absent Gate ≡ None
left_image-other = refl

-- a pending file may be left as anything; one that isn't, only as it reads
abbrev halfway : DiskState
halfway = record { files = λ name. Some (codes "new"); pending = same_name Gate; told = [] }

MayLeave-pending : MayLeave halfway Gate None
MayLeave-pending = λ still. absurd cc

MayLeave-settled : MayLeave halfway Journal (Some (codes "new"))
MayLeave-settled = λ still. refl

MayLeave-wrong : MayLeave halfway Journal None → ⊥
MayLeave-wrong leaves = let e : None ≡ Some (codes "new") = leaves refl in absurd cc

-- a count rose, or stands at its end
Rose-right : Rose 3 4
Rose-right = omega arith

Rose-end : Rose 18446744073709551615 18446744073709551615
Rose-end = omega arith

is_listed-right : is_listed (2 ∷ 5 ∷ []) 5 ≡ true
is_listed-right = refl

is_listed-wrong : is_listed (2 ∷ 5 ∷ []) 3 ≡ false
is_listed-wrong = refl

-- on a desk with no listed call none can fail; on one whose next call is listed one can
mem_faultless-right : (desk : MemDesk) → mem_fails desk ≡ [] → mem_faultless desk
mem_faultless-right desk none = λ number later. ap (λ (l : List ℕ). is_listed l number) none

mem_faultless-wrong : (desk : MemDesk) → mem_calls desk ≡ 4 → mem_fails desk ≡ 5 ∷ [] → mem_faultless desk → ⊥
mem_faultless-wrong desk four five sound =
    let bad : true ≡ false = sym (ap (λ (l : List ℕ). is_listed l 5) five) ∙ sound 5 (omega (arith, four)) in
    absurd cc

-- a fault that is counted where no call could fail is refused
stays_faultless-wrong : {D : Type 0} (faultless : D → Type 0) (faults : D → ℕ) (old new : D) → faultless old → faults new ≡ faults old + 1 → StaysFaultless faultless faults old new → ⊥
stays_faultless-wrong faultless faults old new sound one stays =
    let same = (stays sound).1 in
    omega (arith, one, same)
