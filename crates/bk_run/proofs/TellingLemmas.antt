-- Replies that are told, one after the other.
use Rattle.std.proofs.Common.{◌≡◌, ◌≤◌, ◌<◌, ◌+◌, ◌∙◌, ℕ, List, [], ◌∷◌, ◌++◌, Bool, true, false, ◌||◌, Some, length, take, drop, get_or, map, refl, sym, ap, ap₂, subst, arith, inl, inr, ⊎_elim, append_assoc}
use Rattle.std.proofs.Math.Seq.{take-append-add, take-length}
use Rattle.std.proofs.lemmas.Bool.{cases_lt}
use Rattle.std.proofs.lemmas.List.{append-nil, take_all, take-append-le, length-take-le, drop_more, map_more, take-append-drop, map-append}
use Rattle.bk_desk.specs.declared.desk_name.DeskName.TheVariants as desk_name
use Rattle.bk_desk.specs.declared.desk_name.DeskName.TheVariants.{Gate}
use Rattle.bk_desk.specs.Disk.{DiskState, CrashState, IsCrashState, WhileTelling, Tells, TellsPrefix}
use Rattle.bk_desk.specs.CrashPoints.{AtEachCrash}
use Rattle.bk_desk.proofs.Theorems.{joined, weaker}
use Rattle.jr_burst.specs.SavedFiles.{book_files, is_open_gate, recovered_files}
use Rattle.jr_burst.specs.Commit.{IsClosed}
use Rattle.ed_spec.specs.Book.{Book}
use Rattle.ed_spec.specs.Session.{Session, Command, Reply, done, refused, nothing_to_undo, nothing_to_redo, saved_files, Step, Does, DoesAll, nothing, then}
use Rattle.ed_laws.proofs.Theorems.{one_reply, one_run}
use Rattle.ed_session.specs.Kept.{Kept}
use Rattle.bk_script.specs.declared.command.Command.{Command as CommandOfCode}
use Rattle.bk_script.specs.declared.command.Command.TheVariants as code
use Rattle.ed_edit.specs.declared.edit.Edit.TheVariants.{Text}
use Rattle.bk_script.specs.View.{command_of}
use Rattle.bk_run.specs.Replies.{AreCommandsOf, IsCommandOf, reply_text, replies_text, is_refusal, any_refused}
use Rattle.bk_run.specs.Stops.{saved_after, IsCut, IsSameInAll, IsOfOneBurst}
use Rattle.bk_run.specs.Doing.{asked_of, Stands, IsDone, MayCrashIn}
use Rattle.bk_run.specs.Telling.{IsTold, AreTold, MayStop}
use Rattle.bk_run.proofs.DoingLemmas.{stands_recovers, stands_holds, doing_stop}

-- ---- what the commands of the code ask

asked_one : (command : CommandOfCode) (asked : Command) → IsCommandOf (command_of command) asked → asked ≡ asked_of command
asked_one (code.Edit (Text place from to value)) asked is = is.1
asked_one code.Burst asked is = is

pub asked_all : (commands : List CommandOfCode) (asked : List Command) → AreCommandsOf (map command_of commands) asked → asked ≡ map asked_of commands
asked_all [] asked is = is
asked_all (command ∷ commands) [] is = elim is [ ]
asked_all (command ∷ commands) (first ∷ asked) (is, are) = ap₂ (λ (c : Command) (cs : List Command). c ∷ cs) (asked_one command first is) (asked_all commands asked are)

-- .. and each that is built asks something
asks_one : (command : CommandOfCode) → IsCommandOf (command_of command) (asked_of command)
asks_one (code.Edit (Text place from to value)) = (refl, refl)
asks_one code.Burst = refl

pub asks_all : (commands : List CommandOfCode) → AreCommandsOf (map command_of commands) (map asked_of commands)
asks_all [] = refl
asks_all (command ∷ commands) = (asks_one command, asks_all commands)

-- ---- texts

-- each reply has a byte
some_text : (reply : Reply) → 0 < length (reply_text reply)
some_text done = omega arith
some_text (refused refusal) = omega arith
some_text nothing_to_undo = omega arith
some_text nothing_to_redo = omega arith
some_text (saved_files count) = omega arith

none_cut : (rest : List Step) → IsCut [] rest
none_cut [] = tt
none_cut (step ∷ rest) = some_text step.reply

replies_text-push : (whole : List Step) (step : Step) → replies_text (whole ++ step ∷ []) ≡ replies_text whole ++ reply_text step.reply
replies_text-push [] step = append-nil (reply_text step.reply)
replies_text-push (first ∷ whole) step = ap (λ (l : List ℕ). reply_text first.reply ++ l) (replies_text-push whole step) ∙ sym (append_assoc (reply_text first.reply) (replies_text whole) (reply_text step.reply))

pub replies_text-append : (whole rest : List Step) → replies_text (whole ++ rest) ≡ replies_text whole ++ replies_text rest
replies_text-append [] rest = refl
replies_text-append (first ∷ whole) rest = ap (λ (l : List ℕ). reply_text first.reply ++ l) (replies_text-append whole rest) ∙ sym (append_assoc (reply_text first.reply) (replies_text whole) (replies_text rest))

or_assoc : (a b c : Bool) → (a || (b || c)) ≡ ((a || b) || c)
or_assoc true b c = refl
or_assoc false b c = refl

or_false : (a : Bool) → (a || false) ≡ a
or_false true = refl
or_false false = refl

any_refused-push : (whole : List Step) (step : Step) → any_refused (whole ++ step ∷ []) ≡ (any_refused whole || is_refusal step.reply)
any_refused-push [] step = or_false (is_refusal step.reply)
any_refused-push (first ∷ whole) step = ap (λ (b : Bool). is_refusal first.reply || b) (any_refused-push whole step) ∙ or_assoc (is_refusal first.reply) (any_refused whole) (is_refusal step.reply)

saved_after-push : (first : Book) (whole : List Step) (step : Step) → saved_after first (whole ++ step ∷ []) ≡ step.session.saved
saved_after-push first [] step = refl
saved_after-push first (one ∷ whole) step = saved_after-push one.session.saved whole step

-- a file that is the same in all books saved is so in those saved by some steps, and in the last of them
same_in_front : (first : Book) (whole rest : List Step) (name : List ℕ) → IsSameInAll first (whole ++ rest) name → IsSameInAll first whole name × IsSameInAll first rest name
same_in_front first [] rest name are = (tt, are)
same_in_front first (step ∷ whole) rest name (is, are) = let parts = same_in_front first whole rest name are in ((is, parts.0), parts.1)

same_after : (first book : Book) (steps : List Step) (name : List ℕ) → book name ≡ first name → IsSameInAll first steps name → saved_after book steps name ≡ first name
same_after first book [] name same are = same
same_after first book (step ∷ steps) name same (is, are) = same_after first step.session.saved steps name is are

-- ---- sessions

pub saved_by : (root : List ℕ) (s last : Session) (commands : List Command) (steps : List Step) → DoesAll root s commands steps last → saved_after s.saved steps ≡ last.saved
saved_by root _ _ _ _ (nothing s) = refl
saved_by root _ _ _ _ (then s next last command commands reply steps does all) = saved_by root next last commands steps all

does_more : (root : List ℕ) (s mid next : Session) (commands : List Command) (command : Command) (reply : Reply) (steps : List Step) → DoesAll root s commands steps mid → Does root mid command reply next
    → DoesAll root s (commands ++ command ∷ []) (steps ++ (record { reply = reply; session = next }) ∷ []) next
does_more root _ _ next _ command reply _ (nothing s) does = then s next next command [] reply [] does (nothing next)
does_more root _ _ next _ command reply _ (then s one mid first commands r steps is all) does =
    then s one next first (commands ++ command ∷ []) r (steps ++ (record { reply = reply; session = next }) ∷ []) is (does_more root one mid next commands command reply steps all does)

-- the replies so far are the first of all, and the next one is that of the next command
pub record IsNext (root : List ℕ) (mid : Session) (command : Command) (steps whole : List Step) : Type 0 where
  pub step : Step
  pub rest : List Step
  pub parts : steps ≡ whole ++ step ∷ rest
  pub does : Does root mid command step.reply step.session

same_first : (r q : Reply) (one n : Session) (steps others : List Step) → r ≡ q → one ≡ n → steps ≡ others → (record { reply = q; session = n }) ∷ steps ≡ (record { reply = r; session = one }) ∷ others
same_first r q one n steps others a b c = ap₂ (λ (a : Reply) (v : Session). (record { reply = a; session = v }) ∷ steps) (sym a) (sym b) ∙ ap (λ (l : List Step). (record { reply = r; session = one }) ∷ l) c

pub next_of : (root : List ℕ) (s mid last : Session) (front : List Command) (command : Command) (back all : List Command) (whole steps : List Step)
    → DoesAll root s front whole mid → DoesAll root s all steps last → all ≡ front ++ command ∷ back → IsNext root mid command steps whole
next_of root _ _ _ _ command back _ _ _ (nothing s) (nothing z) e = absurd (cc)
next_of root _ _ _ _ command back _ _ _ (nothing s) (then z n last c cs q steps does all) e =
    let same : c ≡ command = cc in
    record { step = record { reply = q; session = n }; rest = steps; parts = refl; does = subst (λ (c : Command). Does root z c q n) same does }
next_of root _ _ _ _ command back _ _ _ (then s one mid first front r whole is so_far) (nothing z) e = absurd (cc)
next_of root _ _ _ _ command back _ _ _ (then s one mid first front r whole is so_far) (then z n last c cs q steps does all) e =
    let head : c ≡ first = cc in
    let tail : cs ≡ front ++ command ∷ back = cc in
    let same = one_reply root s one n first r q is (subst (λ (c : Command). Does root z c q n) head does) in
    let rest = next_of root n mid last front command back cs whole steps (subst (λ (v : Session). DoesAll root v front whole mid) same.1 so_far) all tail in
    record {
      step = rest.step;
      rest = rest.rest;
      parts = same_first r q one n steps (whole ++ rest.step ∷ rest.rest) same.0 same.1 rest.parts;
      does = rest.does;
    }

-- ---- a reply is told

stands_told : (k : Kept) (old new : DiskState) (s : Session) (text : List ℕ) → Stands k old s → Tells text old new → Stands k new s
stands_told k old new s text stands tells = record {
  book = ap book_files tells.files ∙ stands.book;
  edited = stands.edited;
  root = stands.root;
  gate = ap (λ (f : _). is_open_gate (f Gate)) tells.files ∙ stands.gate;
  durable = λ name. ap (λ (p : _). p name) tells.pending ∙ stands.durable name;
}

pub closed_told : (old new : DiskState) (text : List ℕ) → IsClosed old → Tells text old new → IsClosed new
closed_told old new text closed tells = record {
  closed = ap (λ (f : _). is_open_gate (f Gate)) tells.files ∙ closed.closed;
  durable = ap (λ (p : _). p Gate) tells.pending ∙ closed.durable;
}

pub is_told : (root : List ℕ) (s : Session) (command : Command) (reply : Reply) (k : Kept) (old mid new : DiskState) (is_refused : Bool) → IsDone root s command reply k mid → mid.told ≡ old.told → Tells (reply_text reply) mid new → is_refused ≡ is_refusal reply → IsTold root s command k old new is_refused
is_told root s command reply k old mid new is_refused is same tells flag = record {
  reply = reply;
  done = record { next = is.next; does = is.does; root_is = is.root_is; stands = stands_told k mid new is.next (reply_text reply) is.stands tells };
  told = tells.told ∙ ap (λ (l : List ℕ). l ++ reply_text reply) same;
  refused_is = flag;
}

-- the reply of the code is the one of the session
pub prefix_told : (root : List ℕ) (s next : Session) (command : Command) (reply given : Reply) (k : Kept) (old mid new : DiskState) → IsDone root s command given k mid → Does root s command reply next → mid.told ≡ old.told → TellsPrefix (reply_text given) mid new
    → (count : ℕ) × (new.told ≡ old.told ++ take count (reply_text reply))
prefix_told root s next command reply given k old mid new is does same tells =
    (tells.0, tells.1.told ∙ ap₂ (λ (l : List ℕ) (r : Reply). l ++ take tells.0 (reply_text r)) same (one_reply root s is.next next command given reply is.does does).0)

pub none_told : (text : List ℕ) (old new : DiskState) → new.told ≡ old.told → (count : ℕ) × (new.told ≡ old.told ++ take count text)
none_told text old new same = (0, same ∙ sym (append-nil old.told))

pub telling_stop : (root : List ℕ) (s next : Session) (command : Command) (reply given : Reply) (k : Kept) (old mid : DiskState) (crash : CrashState) → IsDone root s command given k mid → Does root s command reply next → mid.told ≡ old.told
    → WhileTelling (reply_text given) mid crash → MayStop old s.saved next.saved reply crash
telling_stop root s next command reply given k old mid crash is does same tells =
    let one = one_reply root s is.next next command given reply is.does does in
    record {
      count = tells.told.0;
      told = tells.told.1 ∙ ap₂ (λ (l : List ℕ) (r : Reply). l ++ take tells.told.0 (reply_text r)) same one.0;
      recovers = inl (stands_recovers k mid is.next crash.image is.stands tells.image ∙ ap (λ (s : Session). Some s.saved) one.1);
      others = λ name same. stands_holds k mid is.next crash.image is.stands tells.image name ∙ ap (λ (s : Session). s.saved name) one.1 ∙ same;
    }

-- ---- the replies so far

pub none_yet : (k : Kept) (disk : DiskState) (s : Session) → Stands k disk s → AreTold k.root s [] k disk disk false
none_yet k disk s stands = record {
  steps = [];
  last = s;
  does = nothing s;
  root_is = refl;
  stands = stands;
  told = sym (append-nil disk.told);
  refused_is = refl;
}

pub one_more : (root : List ℕ) (s : Session) (commands : List Command) (command : Command) (k now : Kept) (start old new : DiskState) (before one : Bool) (told : AreTold root s commands k start old before)
    → IsTold k.root told.last command now old new one → AreTold root s (commands ++ command ∷ []) now start new (before || one)
one_more root s commands command k now start old new before one told is = record {
  steps = told.steps ++ step ∷ [];
  last = is.done.next;
  does = does_more root s told.last is.done.next commands command is.reply told.steps told.does (subst (λ (r : List ℕ). Does r told.last command is.reply is.done.next) told.root_is is.done.does);
  root_is = is.done.root_is ∙ told.root_is;
  stands = is.done.stands;
  told = is.told ∙ ap (λ (l : List ℕ). l ++ reply_text is.reply) told.told ∙ append_assoc start.told (replies_text told.steps) (reply_text is.reply)
      ∙ ap (λ (l : List ℕ). start.told ++ l) (sym (replies_text-push told.steps step));
  refused_is = ap₂ (λ (a b : Bool). a || b) told.refused_is is.refused_is ∙ sym (any_refused-push told.steps step);
}
  where
    step : Step
    step = record { reply = is.reply; session = is.done.next }

-- a front of the next reply, behind the replies so far
pub prefix_more : (start old new : DiskState) (whole rest steps : List Step) (step : Step) → steps ≡ whole ++ step ∷ rest → old.told ≡ start.told ++ replies_text whole → (count : ℕ) → new.told ≡ old.told ++ take count (reply_text step.reply)
    → (count : ℕ) × (new.told ≡ start.told ++ take count (replies_text steps))
prefix_more start old new whole rest steps step parts so_far count told = ⊎_elim cut all (cases_lt count (length (reply_text step.reply)))
  where
    told_is : new.told ≡ start.told ++ (replies_text whole ++ take count (reply_text step.reply))
    told_is = told ∙ ap (λ (l : List ℕ). l ++ take count (reply_text step.reply)) so_far ∙ append_assoc start.told (replies_text whole) (take count (reply_text step.reply))

    texts : replies_text steps ≡ replies_text whole ++ (reply_text step.reply ++ replies_text rest)
    texts = ap replies_text parts ∙ replies_text-append whole (step ∷ rest)

    front : (n : ℕ) → n ≤ length (reply_text step.reply) → take (length (replies_text whole) + n) (replies_text steps) ≡ replies_text whole ++ take n (reply_text step.reply)
    front n le = ap (take (length (replies_text whole) + n)) texts ∙ take-append-add (replies_text whole) (reply_text step.reply ++ replies_text rest) n ∙ ap (λ (l : List ℕ). replies_text whole ++ l) (take-append-le n (reply_text step.reply) (replies_text rest) le)

    cut : count < length (reply_text step.reply) → (count : ℕ) × (new.told ≡ start.told ++ take count (replies_text steps))
    cut lt = (length (replies_text whole) + count, told_is ∙ ap (λ (l : List ℕ). start.told ++ l) (sym (front count (omega (arith, lt)))))

    all : length (reply_text step.reply) ≤ count → (count : ℕ) × (new.told ≡ start.told ++ take count (replies_text steps))
    all le = (
      length (replies_text whole) + length (reply_text step.reply),
      told_is ∙ ap (λ (l : List ℕ). start.told ++ (replies_text whole ++ l)) (take_all count (reply_text step.reply) le ∙ sym (take-length (reply_text step.reply))) ∙ ap (λ (l : List ℕ). start.told ++ l) (sym (front (length (reply_text step.reply)) (omega arith))),
    )

pub prefix_all : (root : List ℕ) (s last : Session) (commands : List Command) (k : Kept) (old new : DiskState) (is_refused : Bool) (steps : List Step) → AreTold root s commands k old new is_refused → DoesAll root s commands steps last
    → (count : ℕ) × (new.told ≡ old.told ++ take count (replies_text steps))
prefix_all root s last commands k old new is_refused steps told does =
    let same = one_run root s told.last last commands told.steps steps told.does does in
    (length (replies_text steps), told.told ∙ ap (λ (l : List Step). old.told ++ replies_text l) same.0 ∙ ap (λ (l : List ℕ). old.told ++ l) (sym (take-length (replies_text steps))))

-- ---- crashes

pub stop_at_start : (k : Kept) (start : DiskState) (s : Session) (steps : List Step) (more : List ℕ) (crash : CrashState) → Stands k start s → IsCrashState start crash → IsOfOneBurst start s.saved steps more crash
stop_at_start k start s steps more crash stands is = record {
  whole = [];
  rest = steps;
  parts = refl;
  count = 0;
  told = is.told ∙ sym (append-nil start.told);
  cut = none_cut steps;
  recovers = inl (stands_recovers k start s crash.image stands is.image);
  others = λ name same. stands_holds k start s crash.image stands is.image name;
}

-- a crash at the next command, behind the replies so far
pub stop_later : (start now : DiskState) (first before : Book) (whole rest steps : List Step) (step : Step) (more : List ℕ) (crash : CrashState) → steps ≡ whole ++ step ∷ rest → now.told ≡ start.told ++ replies_text whole → saved_after first whole ≡ before
    → MayStop now before step.session.saved step.reply crash → IsOfOneBurst start first steps more crash
stop_later start now first before whole rest steps step more crash parts so_far saved is = ⊎_elim cut all (cases_lt is.count (length text))
  where
    text : List ℕ
    text = reply_text step.reply

    told_is : crash.told ≡ start.told ++ (replies_text whole ++ take is.count text)
    told_is = is.told ∙ ap (λ (l : List ℕ). l ++ take is.count text) so_far ∙ append_assoc start.told (replies_text whole) (take is.count text)

    others : (name : List ℕ) → IsSameInAll first steps name → crash.image (desk_name.Book name) ≡ first name
    others name same =
        let are = same_in_front first whole (step ∷ rest) name (subst (λ (l : List Step). IsSameInAll first l name) parts same) in
        let was : before name ≡ first name = ap (λ (b : Book). b name) (sym saved) ∙ same_after first first whole name refl are.0 in
        is.others name (are.1.0 ∙ sym was) ∙ was

    cut : is.count < length text → IsOfOneBurst start first steps more crash
    cut lt =
        let taken : take is.count ((text ++ replies_text rest) ++ more) ≡ take is.count text = ap (take is.count) (append_assoc text (replies_text rest) more) ∙ take-append-le is.count text (replies_text rest ++ more) (omega (arith, lt)) in
        record {
          whole = whole;
          rest = step ∷ rest;
          parts = parts;
          count = is.count;
          told = told_is ∙ ap (λ (l : List ℕ). start.told ++ (replies_text whole ++ l)) (sym taken);
          cut = subst (λ (l : List ℕ). length l < length text) (sym taken) (omega (arith, lt, length-take-le is.count text (omega (arith, lt))));
          recovers = ⊎_elim (λ (e : recovered_files crash.image ≡ Some step.session.saved). inr e) (λ (e : (is.count ≡ 0) × (recovered_files crash.image ≡ Some before)). inl (e.1 ∙ ap (λ (b : Book). Some b) (sym saved))) is.recovers;
          others = others;
        }

    all : length text ≤ is.count → IsOfOneBurst start first steps more crash
    all le = record {
      whole = whole ++ step ∷ [];
      rest = rest;
      parts = parts ∙ sym (append_assoc whole (step ∷ []) rest);
      count = 0;
      told = told_is ∙ ap (λ (l : List ℕ). start.told ++ l) (ap (λ (l : List ℕ). replies_text whole ++ l) (take_all is.count text le) ∙ sym (replies_text-push whole step) ∙ sym (append-nil (replies_text (whole ++ step ∷ []))));
      cut = none_cut rest;
      recovers = inl (⊎_elim (λ (e : recovered_files crash.image ≡ Some step.session.saved). e) (λ (e : (is.count ≡ 0) × (recovered_files crash.image ≡ Some before)). absurd (never e.0)) is.recovers ∙ ap (λ (b : Book). Some b) (sym (saved_after-push first whole step)));
      others = others;
    }
      where
        never : is.count ≡ 0 → ⊥
        never e = let some = some_text step.reply in omega (arith, le, some, e)

-- a crash while a last text is told, behind all replies
pub stop_last : (k : Kept) (start now : DiskState) (first : Book) (last : Session) (steps : List Step) (more : List ℕ) (crash : CrashState) → Stands k now last → now.told ≡ start.told ++ replies_text steps → saved_after first steps ≡ last.saved
    → WhileTelling more now crash → IsOfOneBurst start first steps more crash
stop_last k start now first last steps more crash stands told saved is = record {
  whole = steps;
  rest = [];
  parts = sym (append-nil steps);
  count = is.told.0;
  told = is.told.1 ∙ ap (λ (l : List ℕ). l ++ take is.told.0 more) told ∙ append_assoc start.told (replies_text steps) (take is.told.0 more);
  cut = tt;
  recovers = inl (stands_recovers k now last crash.image stands is.image ∙ ap (λ (b : Book). Some b) (sym saved));
  others = λ name same. stands_holds k now last crash.image stands is.image name ∙ ap (λ (b : Book). b name) (sym saved) ∙ same_after first first steps name refl same;
}

-- ---- the loop

around : (commands : List CommandOfCode) (i : ℕ) (command : CommandOfCode) → i < length commands → command ≡ get_or commands i command
    → map asked_of commands ≡ map asked_of (take i commands) ++ asked_of command ∷ map asked_of (drop (i + 1) commands)
around commands i command lt is =
    ap (map asked_of) (sym (take-append-drop i commands) ∙ ap (λ (l : List CommandOfCode). take i commands ++ l) (drop_more commands i command lt ∙ ap (λ (c : CommandOfCode). c ∷ drop (i + 1) commands) (sym is)))
    ∙ map-append asked_of (take i commands) (command ∷ drop (i + 1) commands)

pub next_told : (root : List ℕ) (s last : Session) (commands : List CommandOfCode) (i : ℕ) (command : CommandOfCode) (k : Kept) (start now : DiskState) (flag : Bool) (steps : List Step) → i < length commands → command ≡ get_or commands i command
    → (told : AreTold root s (map asked_of (take i commands)) k start now flag) → DoesAll root s (map asked_of commands) steps last → IsNext k.root told.last (asked_of command) steps told.steps
next_told root s last commands i command k start now flag steps lt is told does =
    subst (λ (r : List ℕ). IsNext r told.last (asked_of command) steps told.steps) (sym told.root_is)
    (next_of root s told.last last (map asked_of (take i commands)) (asked_of command) (map asked_of (drop (i + 1) commands)) (map asked_of commands) told.steps steps told.does does (around commands i command lt is))

pub more_told : (root : List ℕ) (s : Session) (commands : List CommandOfCode) (i : ℕ) (command : CommandOfCode) (k now : Kept) (start old new : DiskState) (flag one both : Bool) → i < length commands → command ≡ get_or commands i command
    → (told : AreTold root s (map asked_of (take i commands)) k start old flag) → IsTold k.root told.last (asked_of command) now old new one → both ≡ (flag || one) → AreTold root s (map asked_of (take (i + 1) commands)) now start new both
more_told root s commands i command k now start old new flag one both lt at told is either =
    subst (λ (b : Bool). AreTold root s (map asked_of (take (i + 1) commands)) now start new b) (sym either)
    (subst (λ (l : List Command). AreTold root s l now start new (flag || one)) (sym (map_more asked_of commands i command lt ∙ ap (λ (c : CommandOfCode). map asked_of (take i commands) ++ asked_of c ∷ []) (sym at)))
    (one_more root s (map asked_of (take i commands)) (asked_of command) k now start old new flag one told is))

pub all_told : (root : List ℕ) (s : Session) (commands : List CommandOfCode) (asked : List Command) (i : ℕ) (k : Kept) (start now : DiskState) (flag : Bool) → length commands ≤ i → AreCommandsOf (map command_of commands) asked
    → AreTold root s (map asked_of (take i commands)) k start now flag → AreTold root s asked k start now flag
all_told root s commands asked i k start now flag le are told =
    subst (λ (l : List Command). AreTold root s l k start now flag) (ap (map asked_of) (take_all i commands le) ∙ sym (asked_all commands asked are)) told

-- .. of the replies to what is asked
pub does_asked : (root : List ℕ) (s last : Session) (commands : List CommandOfCode) (asked : List Command) (steps : List Step) → AreCommandsOf (map command_of commands) asked → DoesAll root s asked steps last → DoesAll root s (map asked_of commands) steps last
does_asked root s last commands asked steps are does = subst (λ (l : List Command). DoesAll root s l steps last) (asked_all commands asked are) does

-- what one command more tells, where it may fail
pub one_prefix : (root : List ℕ) (s last : Session) (commands : List CommandOfCode) (i : ℕ) (command : CommandOfCode) (k : Kept) (start old new : DiskState) (flag : Bool) (steps : List Step) → i < length commands → command ≡ get_or commands i command
    → AreTold root s (map asked_of (take i commands)) k start old flag → DoesAll root s (map asked_of commands) steps last
    → ((s next : Session) (reply : Reply) → Stands k old s → Does k.root s (asked_of command) reply next → (count : ℕ) × (new.told ≡ old.told ++ take count (reply_text reply)))
    → (count : ℕ) × (new.told ≡ start.told ++ take count (replies_text steps))
one_prefix root s last commands i command k start old new flag steps lt is told does one =
    let next = next_told root s last commands i command k start old flag steps lt is told does in
    let more = one told.last next.step.session next.step.reply told.stands next.does in
    prefix_more start old new told.steps next.rest steps next.step next.parts told.told more.0 more.1

module _ {D : Type 0} (standing : D → DiskState) (time : D → ℕ) (was : D → ℕ → CrashState → Type 0) where
  -- the crashes of one command, before its reply is told
  pub doing_crash : (root : List ℕ) (command : CommandOfCode) (k : Kept) (old mid : D) (s next : Session) (reply : Reply) → Stands k (standing old) s → Does root s (asked_of command) reply next
      → AtEachCrash time was old mid (MayCrashIn command k (standing old)) → AtEachCrash time was old mid (MayStop (standing old) s.saved next.saved reply)
  doing_crash root command k old mid s next reply stands does run =
      weaker time was old mid (MayCrashIn command k (standing old)) (MayStop (standing old) s.saved next.saved reply) run (λ crash is. doing_stop root command k (standing old) s next reply crash stands does is)

  -- .. and while it is told
  pub telling_crash : (root : List ℕ) (command : CommandOfCode) (k now : Kept) (old mid new : D) (s next : Session) (reply given : Reply) → Stands k (standing old) s → Does root s (asked_of command) reply next
      → IsDone root s (asked_of command) given now (standing mid) → (standing mid).told ≡ (standing old).told → AtEachCrash time was old mid (MayCrashIn command k (standing old))
      → AtEachCrash time was mid new (WhileTelling (reply_text given) (standing mid)) → AtEachCrash time was old new (MayStop (standing old) s.saved next.saved reply)
  telling_crash root command k now old mid new s next reply given stands does is same doing tells =
      joined time was old mid new (MayStop (standing old) s.saved next.saved reply) (doing_crash root command k old mid s next reply stands does doing)
      (weaker time was mid new (WhileTelling (reply_text given) (standing mid)) (MayStop (standing old) s.saved next.saved reply) tells
      (λ crash at. telling_stop root s next (asked_of command) reply given now (standing old) (standing mid) crash is does same at))

  -- the crashes of one command more
  pub one_crash : (root : List ℕ) (s last : Session) (commands : List CommandOfCode) (i : ℕ) (command : CommandOfCode) (k : Kept) (start old new : D) (flag : Bool) (steps : List Step) (more : List ℕ) → i < length commands → command ≡ get_or commands i command
      → AreTold root s (map asked_of (take i commands)) k (standing start) (standing old) flag → DoesAll root s (map asked_of commands) steps last
      → AtEachCrash time was start old (IsOfOneBurst (standing start) s.saved steps more)
      → ((s next : Session) (reply : Reply) → Stands k (standing old) s → Does k.root s (asked_of command) reply next → AtEachCrash time was old new (MayStop (standing old) s.saved next.saved reply))
      → AtEachCrash time was start new (IsOfOneBurst (standing start) s.saved steps more)
  one_crash root s last commands i command k start old new flag steps more lt is told does so_far one =
      let next = next_told root s last commands i command k (standing start) (standing old) flag steps lt is told does in
      joined time was start old new (IsOfOneBurst (standing start) s.saved steps more) so_far
      (weaker time was old new (MayStop (standing old) told.last.saved next.step.session.saved next.step.reply) (IsOfOneBurst (standing start) s.saved steps more) (one told.last next.step.session next.step.reply told.stands next.does)
      (λ crash stops. stop_later (standing start) (standing old) s.saved told.last.saved told.steps next.rest steps next.step more crash next.parts told.told (saved_by root s told.last (map asked_of (take i commands)) told.steps told.does) stops))
