-- What a command makes of a session and of the disk below it.
use Rattle.std.proofs.Common.{◌≡◌, ◌≢◌, ◌≤◌, ◌∙◌, ℕ, List, [], ◌∷◌, Bool, true, false, Some, length, refl, sym, ap, subst, inl, inr, ⊎_elim, bytes_eq}
use Rattle.std.specs.Prelude.{nat_eq, IsTrue}
use Rattle.std.proofs.Math.Path.{fun_ext}
use Rattle.std.proofs.lemmas.List.{append-nil}
use Rattle.std.specs.List.{list_any}
use Rattle.std.specs.Cmp.Lexicographic.{pointwise, bytes_decides}
use Rattle.xt_spec.specs.Tree.{Items, source_text}
use Rattle.bk_desk.specs.declared.desk_name.DeskName.TheVariants as desk_name
use Rattle.bk_desk.specs.declared.desk_name.DeskName.TheVariants.{Gate}
use Rattle.bk_desk.specs.Disk.{DiskImage, DiskState, CrashState, IsCrashImage, IsCrashState, NothingPending}
use Rattle.bk_desk.specs.CrashPoints.{AtEachCrash}
use Rattle.bk_desk.proofs.Theorems.{started}
use Rattle.jr_burst.specs.SavedFiles.{Files, book_files, overlaid, names, is_open_gate, recovered_files}
use Rattle.jr_burst.specs.Commit.{IsClosed, IsOldOrNew}
use Rattle.jr_burst.proofs.Theorems.{closed_recovers}
use Rattle.ed_spec.specs.Book.{Book, with_file, Opens}
use Rattle.ed_spec.specs.Edit.{Edit}
use Rattle.ed_spec.specs.Session.{Session, opened, Reply, edit, burst, done, refused, saved_files, AreDifferences, after_edit, after_burst, Does, accepts, refuses, saves}
use Rattle.ed_session.specs.declared.refusal.Refusal.{Refusal}
use Rattle.ed_session.specs.declared.refusal.EditFault.TheVariants.{Refused}
use Rattle.ed_session.specs.Kept.{Kept}
use Rattle.ed_session.specs.Start.{IsStarted}
use Rattle.ed_session.specs.Edits.{refusal_of, IsRefusedIn, IsEdited}
use Rattle.ed_session.specs.Burst.{item_of, IsSaved, IsBurst, MayCrashInBurst}
use Rattle.bk_script.specs.declared.command.Command.{Command}
use Rattle.bk_script.specs.declared.command.Command.TheVariants as code
use Rattle.bk_run.specs.Doing.{asked_of, Stands, IsDone, MayCrashIn}
use Rattle.bk_run.specs.Telling.{MayStop}

-- ---- books with other bytes in a file

is_itself : (name : List ℕ) → pointwise nat_eq name name ≡ true
is_itself name = (bytes_decides name name).1 refl

pub file_there : (name bytes : List ℕ) (book : Book) → with_file name bytes book name ≡ Some bytes
file_there name bytes book = rw (is_itself name) refl

file_twice : (name a b : List ℕ) (book : Book) → with_file name a (with_file name b book) ≡ with_file name a book
file_twice name a b book = fun_ext (λ other. by other (pointwise nat_eq name other) refl)
  where
    by : (other : List ℕ) (same : Bool) → pointwise nat_eq name other ≡ same → with_file name a (with_file name b book) other ≡ with_file name a book other
    by other true is = rw is refl
    by other false is = rw is refl

same_file : (name bytes : List ℕ) (book : Book) → book name ≡ Some bytes → with_file name bytes book ≡ book
same_file name bytes book there = fun_ext (λ other. by other (pointwise nat_eq name other) refl)
  where
    by : (other : List ℕ) (same : Bool) → pointwise nat_eq name other ≡ same → with_file name bytes book other ≡ book other
    by other true is = rw is (sym there ∙ ap book ((bytes_decides name other).0 is))
    by other false is = rw is refl

-- ---- the start

-- a session that was started stands, with nothing done
pub start_stands : (root : List ℕ) (old now : DiskState) (k : Kept) → IsStarted root old now k → Stands k now (opened root (book_files now.files))
start_stands root old now k is = record {
  book = refl;
  edited = sym (same_file k.root k.bytes (book_files now.files) there);
  root = there ∙ ap (λ (l : List ℕ). Some l) (sym is.over.saved);
  gate = is.recovered.gate;
  durable = is.recovered.durable;
}
  where
    there : book_files now.files k.root ≡ Some k.bytes
    there = ap (book_files now.files) is.over.named ∙ is.over.found

pub start_closes : (root : List ℕ) (old now : DiskState) (k : Kept) → IsStarted root old now k → IsClosed now
start_closes root old now k is = record { closed = is.recovered.gate; durable = is.recovered.durable Gate }

pub start_opens : (root : List ℕ) (old now : DiskState) (k : Kept) → IsStarted root old now k → (items : Items) × Opens root (book_files now.files) k.bytes items
start_opens root old now k is = (is.over.items, record { found = is.over.found; nodes = is.over.opens.0; opens = is.over.opens.1 })

-- ---- edits

pub edit_done : (k now : Kept) (disk : DiskState) (s : Session) (e : Edit) → Stands k disk s → IsEdited e k now → IsDone k.root s (edit e) done now disk
edit_done k now disk s e stands is = record {
  next = after_edit s next;
  does = accepts e next (k.bytes, is.items, is.edited.others, record { found = found; nodes = is.opens.0; opens = is.opens.1 }, is.edited.accepts, refl);
  root_is = is.root;
  stands = record {
    book = stands.book;
    edited = ap (λ (b : Book). with_file k.root (source_text is.edited.others) b) stands.edited
        ∙ file_twice k.root (source_text is.edited.others) k.bytes s.saved
        ∙ ap (λ (l : List ℕ). with_file k.root l s.saved) (sym is.edited.bytes_are)
        ∙ ap (λ (l : List ℕ). with_file l now.bytes s.saved) (sym is.root);
    root = ap s.saved is.root ∙ stands.root ∙ ap (λ (l : List ℕ). Some l) (sym is.saved);
    gate = stands.gate;
    durable = stands.durable;
  };
}
  where
    next : Book
    next = with_file k.root (source_text is.edited.others) s.book

    found : s.book k.root ≡ Some k.bytes
    found = ap (λ (b : Book). b k.root) stands.edited ∙ file_there k.root k.bytes s.saved

pub edit_refused : (k now : Kept) (disk : DiskState) (s : Session) (e : Edit) (refusal : Refusal) → Stands k disk s → now ≡ k → IsRefusedIn k.root k.bytes e (Refused refusal)
    → IsDone k.root s (edit e) (refused (refusal_of refusal)) now disk
edit_refused k now disk s e refusal stands same (items, opens, is) = record {
  next = s;
  does = refuses e (refusal_of refusal) (k.bytes, items, record { found = ap (λ (b : Book). b k.root) stands.edited ∙ file_there k.root k.bytes s.saved; nodes = opens.0; opens = opens.1 }, is);
  root_is = ap (λ (k : Kept). k.root) same;
  stands = subst (λ (k : Kept). Stands k disk s) (sym same) stands;
}

-- ---- saves

pub none_differ : (a b : Book) → a ≡ b → AreDifferences a b []
none_differ a b same = record {
  distinct = refl;
  only = λ name among. absurd (cc);
  all = λ name other. absurd (other (ap (λ (book : Book). book name) same));
}

pub names_root : (a b : Book) (root : List ℕ) → a root ≢ b root → ((name : List ℕ) → name ≢ root → a name ≡ b name) → AreDifferences a b (root ∷ [])
names_root a b root apart others = record {
  distinct = refl;
  only = λ name among same. apart (subst (λ (n : List ℕ). a n ≡ b n) (named name among) same);
  all = λ name other. by name other (bytes_eq name root) refl;
}
  where
    named : (name : List ℕ) → list_any (bytes_eq name) (root ∷ []) ≡ true → name ≡ root
    named name among = one (bytes_eq name root) refl
      where
        one : (same : Bool) → bytes_eq name root ≡ same → name ≡ root
        one true e = (bytes_decides name root).0 e
        one false e = let bad : false ≡ true = rw e at among in absurd (cc)

    by : (name : List ℕ) → a name ≢ b name → (same : Bool) → bytes_eq name root ≡ same → list_any (bytes_eq name) (root ∷ []) ≡ true
    by name other true e = rw e refl
    by name other false e = absurd (other (others name (λ is.
        let bad : true ≡ false = sym ((bytes_decides name root).1 is) ∙ e in
        cc)))

-- two books are the same where they are at the root, and beside it
pub all_same : (root : List ℕ) (a b : Book) → a root ≡ b root → ((name : List ℕ) → name ≢ root → a name ≡ b name) → a ≡ b
all_same root a b here others = fun_ext (λ name. by name (bytes_eq name root) refl)
  where
    by : (name : List ℕ) (same : Bool) → bytes_eq name root ≡ same → a name ≡ b name
    by name true e = subst (λ (n : List ℕ). a n ≡ b n) (sym ((bytes_decides name root).0 e)) here
    by name false e = others name (λ is.
        let bad : true ≡ false = sym ((bytes_decides name root).1 is) ∙ e in
        cc)

-- no other file changes
pub other_file : (root name bytes : List ℕ) (book : Book) → name ≢ root → with_file root bytes book name ≡ book name
other_file root name bytes book apart = by (pointwise nat_eq root name) refl
  where
    by : (same : Bool) → pointwise nat_eq root name ≡ same → with_file root bytes book name ≡ book name
    by true is = absurd (apart (sym ((bytes_decides root name).0 is)))
    by false is = rw is refl

some_same : (x y : List ℕ) → Some x ≡ Some y → x ≡ y
some_same x y e = cc

one_differs : (a b : Book) (root bytes saved : List ℕ) → a ≡ with_file root bytes b → b root ≡ Some saved → bytes ≢ saved → AreDifferences a b (root ∷ [])
one_differs a b root bytes saved is there other =
    names_root a b root (λ same. other (some_same bytes saved (sym (ap (λ (book : Book). book root) is ∙ file_there root bytes b) ∙ same ∙ there))) (λ name apart. ap (λ (book : Book). book name) is ∙ other_file root name bytes b apart)

saved_stands : (k now : Kept) (disk : DiskState) (s : Session) (names : List (List ℕ)) (count : ℕ) → Stands k disk s → now ≡ record { root = k.root; bytes = k.bytes; saved = k.bytes }
    → (new : DiskState) → book_files new.files ≡ s.book → is_open_gate (new.files Gate) ≡ false → NothingPending new → AreDifferences s.book s.saved names → count ≡ length names → IsDone k.root s burst (saved_files count) now new
saved_stands k now disk s names count stands is new book gate durable differ counts = record {
  next = after_burst s;
  does = subst (λ (n : ℕ). Does k.root s burst (saved_files n) (after_burst s)) (sym counts) (saves names differ);
  root_is = ap (λ (k : Kept). k.root) is;
  stands = subst (λ (k : Kept). Stands k new (after_burst s)) (sym is) record {
    book = book;
    edited = sym (same_file k.root k.bytes s.book there);
    root = there;
    gate = gate;
    durable = durable;
  };
}
  where
    there : s.book k.root ≡ Some k.bytes
    there = ap (λ (b : Book). b k.root) stands.edited ∙ file_there k.root k.bytes s.saved

pub burst_done : (k now : Kept) (disk new : DiskState) (s : Session) (count : ℕ) → Stands k disk s → IsSaved k now count → IsBurst k disk new count → IsDone k.root s burst (saved_files count) now new
burst_done k now disk new s count stands saved (inl (same, none, still)) =
    let is : s.book ≡ s.saved = stands.edited ∙ ap (λ (l : List ℕ). with_file k.root l s.saved) same ∙ same_file k.root k.saved s.saved stands.root in
    subst (λ (d : DiskState). IsDone k.root s burst (saved_files count) now d) (sym still) (saved_stands k now disk s [] count stands saved.new_is disk (stands.book ∙ sym is) stands.gate stands.durable (none_differ s.book s.saved is) none)
burst_done k now disk new s count stands saved (inr (other, one, left, closed)) =
    saved_stands k now disk s (k.root ∷ []) count stands saved.new_is new (left.book ∙ ap (λ (f : Book). with_file k.root k.bytes f) stands.book ∙ sym stands.edited) closed.closed left.durable (one_differs s.book s.saved k.root k.bytes k.saved stands.edited stands.root other) one

-- ---- crashes

pub stands_recovers : (k : Kept) (disk : DiskState) (s : Session) (image : DiskImage) → Stands k disk s → IsCrashImage disk image → recovered_files image ≡ Some s.saved
stands_recovers k disk s image stands is =
    let same : image ≡ disk.files = fun_ext (λ name. is name (stands.durable name)) in
    ap recovered_files same ∙ closed_recovers disk.files stands.gate ∙ ap (λ (f : Files). Some f) stands.book

-- a crash leaves each file as it was saved
pub stands_holds : (k : Kept) (disk : DiskState) (s : Session) (image : DiskImage) → Stands k disk s → IsCrashImage disk image → (name : List ℕ) → image (desk_name.Book name) ≡ s.saved name
stands_holds k disk s image stands is name = is (desk_name.Book name) (stands.durable (desk_name.Book name)) ∙ ap (λ (f : Files). f name) stands.book

burst_saves : (root : List ℕ) (s next : Session) (reply : Reply) → Does root s burst reply next → next.saved ≡ s.book
burst_saves root s _ _ (saves names differ) = refl

before_it : (disk : DiskState) (s : Session) (after : Book) (reply : Reply) (crash : CrashState) → recovered_files crash.image ≡ Some s.saved → crash.told ≡ disk.told → ((name : List ℕ) → after name ≡ s.saved name → crash.image (desk_name.Book name) ≡ s.saved name)
    → MayStop disk s.saved after reply crash
before_it disk s after reply crash recovers told others = record {
  count = 0;
  told = told ∙ sym (append-nil disk.told);
  recovers = inr (refl, recovers);
  others = others;
}

at_rest : (k : Kept) (disk : DiskState) (s : Session) (after : Book) (reply : Reply) (crash : CrashState) → Stands k disk s → IsCrashState disk crash → MayStop disk s.saved after reply crash
at_rest k disk s after reply crash stands is = before_it disk s after reply crash (stands_recovers k disk s crash.image stands is.image) is.told (λ name same. stands_holds k disk s crash.image stands is.image name)

-- the root is written where it differs alone, and no other file is
not_written : (k : Kept) (disk : DiskState) (s : Session) (after : Book) (crash : CrashState) → Stands k disk s → after ≡ s.book → k.bytes ≢ k.saved → IsOldOrNew disk (item_of k.root k.bytes ∷ []) crash
    → (name : List ℕ) → after name ≡ s.saved name → crash.image (desk_name.Book name) ≡ s.saved name
not_written k disk s after crash stands saved other is name same = by (pointwise nat_eq k.root name) refl
  where
    by : (here : Bool) → pointwise nat_eq k.root name ≡ here → crash.image (desk_name.Book name) ≡ s.saved name
    by true e =
        let at : k.root ≡ name = (bytes_decides k.root name).0 e in
        let new : after name ≡ Some k.bytes = ap (λ (b : Book). b name) (saved ∙ stands.edited) ∙ sym (ap (with_file k.root k.bytes s.saved) at) ∙ file_there k.root k.bytes s.saved in
        let old : s.saved name ≡ Some k.saved = sym (ap s.saved at) ∙ stands.root in
        absurd (other (some_same k.bytes k.saved (sym new ∙ same ∙ old)))
    by false e =
        let unnamed : names (item_of k.root k.bytes ∷ []) name ≡ false = rw e refl in
        is.others name unnamed (stands.durable (desk_name.Book name)) ∙ ap (λ (f : Files). f name) stands.book

bursting : (k : Kept) (disk : DiskState) (s next : Session) (reply : Reply) (crash : CrashState) → Stands k disk s → next.saved ≡ s.book → MayCrashInBurst k disk crash → MayStop disk s.saved next.saved reply crash
bursting k disk s next reply crash stands saved (inr is) = at_rest k disk s next.saved reply crash stands is
bursting k disk s next reply crash stands saved (inl (other, is)) = ⊎_elim old new is.recovers
  where
    old : ((image : DiskImage) × IsCrashImage disk image × (recovered_files crash.image ≡ recovered_files image)) → MayStop disk s.saved next.saved reply crash
    old (image, is_image, same) = before_it disk s next.saved reply crash (same ∙ stands_recovers k disk s image stands is_image) is.told (not_written k disk s next.saved crash stands saved other is)

    new : recovered_files crash.image ≡ Some (overlaid (item_of k.root k.bytes ∷ []) (book_files disk.files)) → MayStop disk s.saved next.saved reply crash
    new e = record {
      count = 0;
      told = is.told ∙ sym (append-nil disk.told);
      recovers = inl (e ∙ ap (λ (f : Book). Some (with_file k.root k.bytes f)) stands.book ∙ ap (λ (f : Book). Some f) (sym stands.edited ∙ sym saved));
      others = not_written k disk s next.saved crash stands saved other is;
    }

pub doing_stop : (root : List ℕ) (command : Command) (k : Kept) (disk : DiskState) (s next : Session) (reply : Reply) (crash : CrashState) → Stands k disk s → Does root s (asked_of command) reply next
    → MayCrashIn command k disk crash → MayStop disk s.saved next.saved reply crash
doing_stop root (code.Edit op) k disk s next reply crash stands does is = at_rest k disk s next.saved reply crash stands is
doing_stop root code.Burst k disk s next reply crash stands does is = bursting k disk s next reply crash stands (burst_saves root s next reply does) is

-- ---- the disk

pub burst_closes : (k : Kept) (disk new : DiskState) (count : ℕ) → IsClosed disk → IsBurst k disk new count → IsClosed new
burst_closes k disk new count closed (inl (same, none, still)) = subst IsClosed (sym still) closed
burst_closes k disk new count closed (inr (other, one, left, now)) = now

pub burst_told : (k : Kept) (disk : DiskState) (crash : CrashState) → MayCrashInBurst k disk crash → crash.told ≡ disk.told
burst_told k disk crash (inl (other, is)) = is.told
burst_told k disk crash (inr is) = is.told

module _ {D : Type 0} (tells : Bool) (standing : D → DiskState) (time : D → ℕ) (was : D → ℕ → CrashState → Type 0)
    (counts_now : (desk : D) (t : ℕ) (crash : CrashState) → IsTrue tells → t ≤ time desk → IsCrashState (standing desk) crash → was desk t crash)
    (only_now : (desk : D) (crash : CrashState) → IsTrue tells → was desk (time desk) crash → IsCrashState (standing desk) crash)
    (telling : IsTrue tells) where
  -- where each crash leaves this output, it is what was told
  pub told_stays : (old new : D) (P : CrashState → Type 0) (told : List ℕ) → AtEachCrash time was old new P → ((crash : CrashState) → P crash → crash.told ≡ told) → (standing new).told ≡ told
  told_stays old new P told run is =
      is now (run.each now (counts_now new (time old) now telling run.later record { image = λ name still. refl; told = refl }))
    where
      now : CrashState
      now = record { image = (standing new).files; told = (standing new).told }

  -- no call was made
  pub at_once : (old : D) → AtEachCrash time was old old (IsCrashState (standing old))
  at_once old = started time was old _ (λ crash since. only_now old crash telling since)
