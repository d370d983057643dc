-- One more call, and one more entry, of what a stop leaves.
use Rattle.std.proofs.Common.{◌≡◌, ℕ, List, [], ◌∷◌, ◌++◌, Bool, true, false, ◌||◌, ◌&&◌, not, cond, Option, Some, None, refl, sym, ◌∙◌, ap, subst, length, take}
use Rattle.std.proofs.Math.Path.{fun_ext}
use Rattle.bk_desk.specs.declared.desk_name.DeskName.{DeskName}
use Rattle.bk_desk.specs.declared.log.Call.{Call}
use Rattle.bk_desk.specs.declared.log.Call.TheVariants.{Read, Put, Sync, Tell}
use Rattle.bk_desk.specs.declared.log.Entry.{Entry}
use Rattle.bk_desk.specs.declared.stop.Left.{Left}
use Rattle.bk_desk.specs.DeskNames.{same_name}
use Rattle.bk_desk.specs.Disk.{DiskImage, DiskState}
use Rattle.bk_desk.specs.declared.mem_desk.MemDesk.{MemDesk}
use Rattle.bk_desk.specs.Calls.{step, after, file_in, opening, failures}
use Rattle.bk_desk.specs.Mem.{IsNew}
use Rattle.bk_desk.specs.MemLeft.{mem_left_image}
use Rattle.bk_desk.specs.Left.{is_sync, synced_files, left_image, restarted, is_named, is_put, is_written, entry_of}
use Rattle.bk_desk.specs.Covers.{Covers}
use Rattle.bk_desk.proofs.Names.{same_name-equal}

pub synced_files-push : (standing : DiskState) (files : DiskImage) (calls : List Call) (call : Call) → synced_files standing files (calls ++ call ∷ []) ≡ cond (is_sync call) (after standing (calls ++ call ∷ [])).files (synced_files standing files calls)
synced_files-push standing files [] call = refl
synced_files-push standing files (first ∷ calls) call = synced_files-push (step standing first) (cond (is_sync first) (step standing first).files files) calls call

-- a loop's next file of the last sync
pub one_synced : (standing : DiskState) (files : DiskImage) (calls later : List Call) (call : Call) (name : DeskName) (file synced result : Option (List ℕ)) → later ≡ calls ++ call ∷ []
    → file ≡ (after standing later).files name → synced ≡ synced_files standing files calls name → result ≡ cond (is_sync call) file synced → result ≡ synced_files standing files later name
one_synced standing files calls later call name file synced result is reads before now =
    now ∙ by (is_sync call) refl ∙ sym (ap (λ (l : List Call). synced_files standing files l name) is ∙ ap (λ (image : DiskImage). image name) (synced_files-push standing files calls call))
  where
    by : (b : Bool) → is_sync call ≡ b → cond (is_sync call) file synced ≡ cond (is_sync call) (after standing (calls ++ call ∷ [])).files (synced_files standing files calls) name
    by true e = rw e (reads ∙ ap (λ (l : List Call). (after standing l).files name) is)
    by false e = rw e before

or_assoc : (a b c : Bool) → (a || (b || c)) ≡ ((a || b) || c)
or_assoc true b c = refl
or_assoc false b c = refl

or_false : (a : Bool) → (a || false) ≡ a
or_false true = refl
or_false false = refl

pub is_named-push : (entries : List Entry) (entry : Entry) (name : DeskName) → is_named (entries ++ entry ∷ []) name ≡ (is_named entries name || same_name entry.name name)
is_named-push [] entry name = or_false (same_name entry.name name)
is_named-push (first ∷ entries) entry name = ap (λ (b : Bool). same_name first.name name || b) (is_named-push entries entry name) ∙ or_assoc (same_name first.name name) (is_named entries name) (same_name entry.name name)

pub is_written-push : (calls : List Call) (call : Call) (name : DeskName) → is_written (calls ++ call ∷ []) name ≡ (is_written calls name || is_put call name)
is_written-push [] call name = or_false (is_put call name)
is_written-push (first ∷ calls) call name = ap (λ (b : Bool). is_put first name || b) (is_written-push calls call name) ∙ or_assoc (is_put first name) (is_written calls name) (is_put call name)

file_in-append : (front back : List Entry) (name : DeskName) (file : Option (List ℕ)) → file_in (front ++ back) name file ≡ file_in back name (file_in front name file)
file_in-append [] back name file = refl
file_in-append (entry ∷ front) back name file = file_in-append front back name (cond (same_name entry.name name) (Some entry.bytes) file)

-- the entries cover the name of one entry more
pub covers-push : (image : DiskImage) (seen : DeskName → Bool) (entries : List Entry) (other : DeskName) → Covers image seen entries → Covers image (λ name. seen name || same_name other name) (entries ++ entry_of other (image other))
covers-push image seen entries other covers name =
    file_in-append entries (entry_of other (image other)) name None ∙ by (image other) refl (seen name) refl (same_name other name) refl
  where
    own : same_name other name ≡ true → image name ≡ image other
    own is = ap image (sym (same_name-equal other name is))

    by : (file : Option (List ℕ)) → image other ≡ file → (s : Bool) → seen name ≡ s → (o : Bool) → same_name other name ≡ o → file_in (entry_of other (image other)) name (file_in entries name None) ≡ cond (seen name || same_name other name) (image name) None
    by None is true s_is o o_is = rw (is, covers name, s_is) refl
    by None is false s_is true o_is = rw (is, covers name, s_is, o_is) (sym (own o_is ∙ is))
    by None is false s_is false o_is = rw (is, covers name, s_is, o_is) refl
    by (Some bytes) is true s_is true o_is = rw (is, covers name, s_is, o_is) (sym (own o_is ∙ is))
    by (Some bytes) is true s_is false o_is = rw (is, covers name, s_is, o_is) refl
    by (Some bytes) is false s_is true o_is = rw (is, covers name, s_is, o_is) (sym (own o_is ∙ is))
    by (Some bytes) is false s_is false o_is = rw (is, covers name, s_is, o_is) refl

neither : (a b : Bool) → (a || b) ≡ false → (a ≡ false) × (b ≡ false)
neither true b e = absurd cc
neither false b e = (refl, e)

-- what no entry names and no call writes is absent
unnamed : (entries : List Entry) (name : DeskName) (file : Option (List ℕ)) → is_named entries name ≡ false → file_in entries name file ≡ file
unnamed [] name file none = refl
unnamed (entry ∷ entries) name file none =
    let parts = neither (same_name entry.name name) (is_named entries name) none in
    rw parts.0 (unnamed entries name file parts.1)

record IsUntouched (name : DeskName) (old new : DiskState) : Type 0 where
  files : new.files name ≡ old.files name
  pending : old.pending name ≡ false → new.pending name ≡ false

sync_keeps : (done pending : Bool) → pending ≡ false → (not done && pending) ≡ false
sync_keeps true pending still = refl
sync_keeps false pending still = still

one_file : (done same : Bool) (bytes file : Option (List ℕ)) → same ≡ false → cond (done && same) bytes file ≡ file
one_file true same bytes file e = rw e refl
one_file false same bytes file e = refl

one_pending : (same pending : Bool) → same ≡ false → pending ≡ false → (same || pending) ≡ false
one_pending same pending e still = rw e still

one : (standing : DiskState) (call : Call) (name : DeskName) → is_put call name ≡ false → IsUntouched name standing (step standing call)
one standing (Read done) name e = record { files = refl; pending = λ still. still }
one standing (Put other bytes done) name e = record {
  files = one_file done (same_name other name) bytes (standing.files name) e;
  pending = λ still. one_pending (same_name other name) (standing.pending name) e still;
}
one standing (Sync done) name e = record { files = refl; pending = λ still. sync_keeps done (standing.pending name) still }
one standing (Tell bytes done) name e = record { files = refl; pending = λ still. still }

untouched : (standing : DiskState) (calls : List Call) (name : DeskName) → is_written calls name ≡ false → IsUntouched name standing (after standing calls)
untouched standing [] name none = record { files = refl; pending = λ still. still }
untouched standing (call ∷ calls) name none =
    let parts = neither (is_put call name) (is_written calls name) none in
    let first = one standing call name parts.0 in
    let rest = untouched (step standing call) calls name parts.1 in
    record { files = rest.files ∙ first.files; pending = λ still. rest.pending (first.pending still) }

-- so a stop leaves nothing under it
absent : (entries : List Entry) (calls : List Call) (left : Left) (name : DeskName) → (is_named entries name || is_written calls name) ≡ false → left_image entries calls left name ≡ None
absent entries calls left name none =
    let parts = neither (is_named entries name) (is_written calls name) none in
    let kept = untouched (opening entries) calls name parts.1 in
    rw (kept.pending refl) (kept.files ∙ unnamed entries name None parts.0)

-- entries that cover all names there are open a disk with this image
pub covers_all : (entries made : List Entry) (calls : List Call) (left : Left) → Covers (left_image entries calls left) (λ name. is_named entries name || is_written calls name) made → opening made ≡ restarted (left_image entries calls left)
covers_all entries made calls left covers = ap (λ (image : DiskImage). restarted image) (fun_ext (λ name. covers name ∙ by name (is_named entries name || is_written calls name) refl))
  where
    by : (name : DeskName) (b : Bool) → (is_named entries name || is_written calls name) ≡ b → cond (is_named entries name || is_written calls name) (left_image entries calls left name) None ≡ left_image entries calls left name
    by name true is = rw is refl
    by name false is = rw is (sym (absent entries calls left name is))

-- one entry of the start more
pub covers_entry : (image : DiskImage) (before after : List Entry) (entry : Entry) (made now : List Entry) → after ≡ before ++ entry ∷ [] → now ≡ made ++ entry_of entry.name (image entry.name)
    → Covers image (is_named before) made → Covers image (is_named after) now
covers_entry image before after entry made now is added covers = λ name.
    let step = subst (λ (l : List Entry). Covers image (λ name. is_named before name || same_name entry.name name) l) (sym added) (covers-push image (is_named before) made entry.name covers) in
    step name ∙ ap (λ (b : Bool). cond b (image name) None) (sym (ap (λ (l : List Entry). is_named l name) is ∙ is_named-push before entry name))

-- one written file more
pub covers_put : (image : DiskImage) (call : Call) (other : DeskName) (bytes : Option (List ℕ)) (done : Bool) (made now : List Entry) → call ≡ Put other bytes done → now ≡ made ++ entry_of other (image other)
    → (seen : DeskName → Bool) → Covers image seen made → Covers image (λ name. seen name || is_put call name) now
covers_put image call other bytes done made now is added seen covers =
    subst (λ (k : Call). Covers image (λ name. seen name || is_put k name) now) (sym is) (subst (λ (l : List Entry). Covers image (λ name. seen name || same_name other name) l) (sym added) (covers-push image seen made other covers))

-- one call more
pub covers_call : (image : DiskImage) (entries : List Entry) (before after : List Call) (call : Call) (now : List Entry) → after ≡ before ++ call ∷ []
    → Covers image (λ name. (is_named entries name || is_written before name) || is_put call name) now → Covers image (λ name. is_named entries name || is_written after name) now
covers_call image entries before after call now is covers = λ name.
    covers name ∙ ap (λ (b : Bool). cond b (image name) None) (sym (ap (λ (b : Bool). is_named entries name || b) (ap (λ (l : List Call). is_written l name) is ∙ is_written-push before call name) ∙ or_assoc (is_named entries name) (is_written before name) (is_put call name)))

-- the desk that a stop leaves
pub new_after_stop : (old new : MemDesk) (count : ℕ) (left : Left) (entries made : List Entry) (calls : List Call) → entries ≡ old.log.start.items → calls ≡ take count old.log.calls.items
    → Covers (left_image entries calls left) (λ name. is_named entries name || is_written calls name) made → new.log.start.items ≡ made → new.log.calls.items ≡ [] → new.fails.items ≡ []
    → IsNew (restarted (mem_left_image old count left)) [] new
new_after_stop old new count left entries made calls is_start is_calls covers is_made no_calls no_fails = record {
  standing = ap (after (opening new.log.start.items)) no_calls ∙ ap opening is_made ∙ covers_all entries made calls left covers ∙ ap (λ (l : List Entry). restarted (left_image l calls left)) is_start ∙ ap (λ (l : List Call). restarted (left_image old.log.start.items l left)) is_calls;
  calls = ap length no_calls;
  fails = no_fails;
  faults = ap failures no_calls;
}
