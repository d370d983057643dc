-- Words, script and files give one output.
use Rattle.std.proofs.Common.{◌≡◌, ◌∙◌, ℕ, ◌<◌, ◌≤◌, List, [], ◌∷◌, ◌++◌, length, arith, refl, sym, ap, ap₂, subst, Option, Some, None}
use Rattle.xt_spec.specs.Limit.{most_file_bytes}
use Rattle.xt_spec.specs.Tree.{Items}
use Rattle.bk_spec.specs.Node.{Nodes}
use Rattle.bk_spec.specs.Fault.{Fault, fault_line}
use Rattle.bk_spec.specs.Opening.{IsOpen}
use Rattle.bk_spec.specs.Print.{print_tree}
use Rattle.ent_doc.proofs.Theorems.{document_fault_once, open_has_no_fault, opens_once}
use Rattle.bk_spec.specs.FirstFault.{IsDocumentFault, IsRootFault, absent, longer, faulty}
use Rattle.ed_spec.specs.Book.{Book, Opens}
use Rattle.ed_spec.specs.Session.{Session, Command, Reply, Step, opened, Does, accepts, refuses, undoes, undoes_nothing, redoes, redoes_nothing, saves, DoesAll, nothing, then}
use Rattle.ed_laws.proofs.Theorems.{one_run}
use Rattle.bk_desk.specs.Disk.{DiskImage}
use Rattle.bk_script.specs.Command as script
use Rattle.bk_script.proofs.Theorems.{one_reading, no_fault, one_fault}
use Rattle.jr_burst.specs.SavedFiles.{recovered_files}
use Rattle.bk_run.specs.Replies.{IsCommandOf, AreCommandsOf, replies_text}
use Rattle.book_cli.specs.Words.{root_of}
use Rattle.book_cli.specs.Output.{script_fault_line, IsTree, status_after, IsRun, IsBookRun, closed, ran, BookOutput, ScriptOutput, no_script, damaged, recovered, RootOutput, IsOutput}

pub some_same : (A : Type 0) (a b : A) (found : Option A) → found ≡ Some a → found ≡ Some b → a ≡ b
some_same A a b found first second = let e : ◌≡◌ {A = Option A} (Some a) (Some b) = sym first ∙ second in cc

pub none_some : (A : Type 0) (a : A) (found : Option A) → found ≡ None → found ≡ Some a → ⊥
none_some A a found first second = let e : ◌≡◌ {A = Option A} None (Some a) = sym first ∙ second in cc

-- ---- commands

command_once : (command : script.Command) (x y : Command) → IsCommandOf command x → IsCommandOf command y → x ≡ y
command_once (script.edit_text place from to value) x y first second = first.1 ∙ sym second.1
command_once (script.put place side fragment) x y first second = absurd first
command_once (script.attr place name value) x y first second = absurd first
command_once (script.drop_attr place name) x y first second = absurd first
command_once (script.insert place side fragment) x y first second = absurd first
command_once (script.insert_at place index fragment) x y first second = absurd first
command_once (script.delete place) x y first second = absurd first
command_once (script.move place to side) x y first second = absurd first
command_once (script.extract place name) x y first second = absurd first
command_once (script.inline place) x y first second = absurd first
command_once script.undo x y first second = first ∙ sym second
command_once script.redo x y first second = first ∙ sym second
command_once script.burst x y first second = first ∙ sym second
command_once script.tree x y first second = absurd first
command_once (script.owner place) x y first second = absurd first

-- commands of a script ask one list of commands of the session
asked_once : (commands : List script.Command) (xs ys : List Command) → AreCommandsOf commands xs → AreCommandsOf commands ys → xs ≡ ys
asked_once [] xs ys first second = first ∙ sym second
asked_once (command ∷ commands) [] ys first second = absurd first
asked_once (command ∷ commands) (x ∷ xs) [] first second = absurd second
asked_once (command ∷ commands) (x ∷ xs) (y ∷ ys) first second = ap₂ (λ (c : Command) (l : List Command). c ∷ l) (command_once command x y first.0 second.0) (asked_once commands xs ys first.1 second.1)

-- ---- the tree of a book

pub tree_once : (root : List ℕ) (book : Book) (x y : List ℕ) → IsTree root book x → IsTree root book y → x ≡ y
tree_once root book x y a b =
    let bytes : a.bytes ≡ b.bytes = some_same (List ℕ) a.bytes b.bytes (book root) a.opens.found b.opens.found in
    let one = opens_once root b.bytes a.items b.items a.opens.nodes b.opens.nodes (subst (λ (t : List ℕ). IsOpen root t a.items a.opens.nodes) bytes a.opens.opens) b.opens.opens in
    a.printed ∙ ap (λ (n : Nodes). print_tree n) one.1 ∙ sym b.printed

-- ---- a run

run_once : (root : List ℕ) (commands : List script.Command) (book : Book) (xs ys : List Step) (x y : List ℕ)
    → IsRun root commands book xs x → IsRun root commands book ys y → (xs ≡ ys) × (x ≡ y)
run_once root commands book xs ys x y a b =
    let asked : a.asked ≡ b.asked = asked_once commands a.asked b.asked a.asks b.asks in
    let run = one_run root (opened root book) a.last b.last b.asked xs ys (subst (λ (l : List Command). DoesAll root (opened root book) l xs a.last) asked a.does) b.does in
    (run.0, tree_once root b.last.book x y (subst (λ (s : Session). IsTree root s.book x) run.1 a.shows) b.shows)

-- a session of a book whose root doesn't open, in which nothing was edited
record IsShut (root : List ℕ) (s : Session) : Type 0 where
  never : (bytes : List ℕ) (items : Items) → Opens root s.book bytes items → ⊥
  past : s.past ≡ []
  future : s.future ≡ []

none_first : (books others : List Book) (book : Book) → books ≡ [] → books ≡ book ∷ others → ⊥
none_first books others book first second = let bad : [] ≡ book ∷ others = sym first ∙ second in cc

stays_shut : (root : List ℕ) (s next : Session) (command : Command) (reply : Reply) → Does root s command reply next → IsShut root s → IsShut root next
stays_shut root s _ _ _ (accepts e next x) shut = absurd (shut.never x.0 x.1 x.3)
stays_shut root s _ _ _ (refuses e refusal x) shut = absurd (shut.never x.0 x.1 x.2)
stays_shut root s _ _ _ (undoes book past is) shut = absurd (none_first s.past past book shut.past is)
stays_shut root s _ _ _ (undoes_nothing is) shut = shut
stays_shut root s _ _ _ (redoes book future is) shut = absurd (none_first s.future future book shut.future is)
stays_shut root s _ _ _ (redoes_nothing is) shut = shut
stays_shut root s _ _ _ (saves names are) shut = record { never = shut.never; past = shut.past; future = shut.future }

ends_shut : (root : List ℕ) (s last : Session) (commands : List Command) (steps : List Step) → DoesAll root s commands steps last → IsShut root s → IsShut root last
ends_shut root _ _ _ _ (nothing s) shut = shut
ends_shut root _ _ _ _ (then s next last command commands reply steps does all) shut = ends_shut root next last commands steps all (stays_shut root s next command reply does shut)

-- no run is over a book whose root doesn't open
pub no_run : (root : List ℕ) (commands : List script.Command) (book : Book) (steps : List Step) (tree : List ℕ)
    → ((bytes : List ℕ) (items : Items) → Opens root book bytes items → ⊥) → IsRun root commands book steps tree → ⊥
no_run root commands book steps tree never run =
    let shut : IsShut root run.last = ends_shut root (opened root book) run.last run.asked steps run.does (record { never = never; past = refl; future = refl }) in
    shut.never run.shows.bytes run.shows.items run.shows.opens

-- ---- a root that doesn't open

too_long : (bytes others : List ℕ) → bytes ≡ others → most_file_bytes < length bytes → length others ≤ most_file_bytes → ⊥
too_long bytes others same more fits = let size = ap length same in absurd (omega (arith, size, more, fits))

root_fault_once : (root : List ℕ) (file : Option (List ℕ)) (a b : Fault) → IsRootFault root file a → IsRootFault root file b → a ≡ b
root_fault_once root file a b (absent none is) (absent also same) = is ∙ sym same
root_fault_once root file a b (absent none is) (longer bytes found more same) = absurd (none_some (List ℕ) bytes file none found)
root_fault_once root file a b (absent none is) (faulty bytes found fits fault) = absurd (none_some (List ℕ) bytes file none found)
root_fault_once root file a b (longer bytes found more is) (absent none same) = absurd (none_some (List ℕ) bytes file none found)
root_fault_once root file a b (longer bytes found more is) (longer others also long same) = is ∙ sym same
root_fault_once root file a b (longer bytes found more is) (faulty others also fits fault) = absurd (too_long bytes others (some_same (List ℕ) bytes others file found also) more fits)
root_fault_once root file a b (faulty bytes found fits fault) (absent none same) = absurd (none_some (List ℕ) bytes file none found)
root_fault_once root file a b (faulty bytes found fits fault) (longer others also more same) = absurd (too_long others bytes (some_same (List ℕ) others bytes file also found) more fits)
root_fault_once root file a b (faulty bytes found fits fault) (faulty others also size other) =
    document_fault_once root others a b (subst (λ (l : List ℕ). IsDocumentFault root l a) (some_same (List ℕ) bytes others file found also) fault) other

pub fault_shuts : (root : List ℕ) (book : Book) (fault : Fault) → IsRootFault root (book root) fault → (bytes : List ℕ) (items : Items) → Opens root book bytes items → ⊥
fault_shuts root book fault (absent none is) bytes items opens = none_some (List ℕ) bytes (book root) none opens.found
fault_shuts root book fault (longer others found more is) bytes items opens = too_long others bytes (some_same (List ℕ) others bytes (book root) found opens.found) more opens.opens.size
fault_shuts root book fault (faulty others found fits cause) bytes items opens =
    open_has_no_fault root bytes items opens.nodes fault opens.opens (subst (λ (l : List ℕ). IsDocumentFault root l fault) (some_same (List ℕ) others bytes (book root) found opens.found) cause)

-- ---- the output

-- replies, what is told behind them and the status are the same
pub record AreSame (steps others : List Step) (last more : List ℕ) (status other : ℕ) : Type 0 where
  pub steps_are : steps ≡ others
  pub last_is : last ≡ more
  pub status_is : status ≡ other

pub one_book_run : (root : List ℕ) (commands : List script.Command) (book : Book) (xs ys : List Step) (x y : List ℕ) (s t : ℕ)
    → IsBookRun root commands book xs x s → IsBookRun root commands book ys y t → AreSame xs ys x y s t
one_book_run root commands book xs ys x y s t (closed fault cause no_steps line is) (closed more also empty other same) =
    record { steps_are = no_steps ∙ sym empty; last_is = line ∙ ap fault_line (root_fault_once root (book root) fault more cause also) ∙ sym other; status_is = is ∙ sym same }
one_book_run root commands book xs ys x y s t (closed fault cause _ _ _) (ran run _) = absurd (no_run root commands book ys y (fault_shuts root book fault cause) run)
one_book_run root commands book xs ys x y s t (ran run _) (closed fault cause _ _ _) = absurd (no_run root commands book xs x (fault_shuts root book fault cause) run)
one_book_run root commands book xs ys x y s t (ran run is) (ran more same) =
    let one = run_once root commands book xs ys x y run more in
    record { steps_are = one.0; last_is = one.1; status_is = is ∙ ap status_after one.0 ∙ sym same }

book_unique : (root : List ℕ) (commands : List script.Command) (book : Book) (s t : ℕ) (x y : List ℕ)
    → BookOutput root commands book s x → BookOutput root commands book t y → (s ≡ t) × (x ≡ y)
book_unique root commands book s t x y (xs, first, run, text) (ys, second, more, other) =
    let one = one_book_run root commands book xs ys first second s t run more in
    (one.status_is, text ∙ ap₂ (λ (l : List Step) (u : List ℕ). replies_text l ++ u) one.steps_are one.last_is ∙ sym other)

script_unique : (root bytes : List ℕ) (files : DiskImage) (s t : ℕ) (x y : List ℕ)
    → ScriptOutput root bytes files s x → ScriptOutput root bytes files t y → (s ≡ t) × (x ≡ y)
script_unique root bytes files s t x y (no_script d has line is) (no_script e also other same) = (is ∙ sym same, line ∙ ap script_fault_line (one_fault bytes d e has also) ∙ sym other)
script_unique root bytes files s t x y (no_script d has line is) (damaged commands read _ _ _) = absurd (no_fault bytes commands d read has)
script_unique root bytes files s t x y (no_script d has line is) (recovered commands book read _ _) = absurd (no_fault bytes commands d read has)
script_unique root bytes files s t x y (damaged commands read _ _ _) (no_script d has line is) = absurd (no_fault bytes commands d read has)
script_unique root bytes files s t x y (recovered commands book read _ _) (no_script d has line is) = absurd (no_fault bytes commands d read has)
script_unique root bytes files s t x y (damaged _ _ _ is line) (damaged _ _ _ same other) = (is ∙ sym same, line ∙ sym other)
script_unique root bytes files s t x y (damaged _ _ none _ _) (recovered _ book _ found _) = absurd (none_some Book book (recovered_files files) none found)
script_unique root bytes files s t x y (recovered _ book _ found _) (damaged _ _ none _ _) = absurd (none_some Book book (recovered_files files) none found)
script_unique root bytes files s t x y (recovered commands book read found output) (recovered others more also same other) =
    let asked : commands ≡ others = one_reading bytes commands others read also in
    let books : book ≡ more = some_same Book book more (recovered_files files) found same in
    book_unique root others more s t x y (subst (λ (b : Book). BookOutput root others b s x) books (subst (λ (l : List script.Command). BookOutput root l book s x) asked output)) other

root_unique : (root : Option (List ℕ)) (bytes : List ℕ) (files : DiskImage) (s t : ℕ) (x y : List ℕ)
    → RootOutput root bytes files s x → RootOutput root bytes files t y → (s ≡ t) × (x ≡ y)
root_unique None bytes files s t x y first second = (first.0 ∙ sym second.0, first.1 ∙ sym second.1)
root_unique (Some root) bytes files s t x y first second = script_unique root bytes files s t x y first second

-- words, script and files give one status and one output
pub output_unique : (words : List (List ℕ)) (bytes : List ℕ) (files : DiskImage) (s t : ℕ) (x y : List ℕ)
    → IsOutput words bytes files s x → IsOutput words bytes files t y → (s ≡ t) × (x ≡ y)
output_unique words bytes files s t x y first second = root_unique (root_of words) bytes files s t x y first second

-- ---- what a run tells

-- the tree that was printed of the root's nodes
pub tree_stands : (root bytes : List ℕ) (items : Items) (nodes : Nodes) (book : Book) (text : List ℕ) → IsOpen root bytes items nodes → book root ≡ Some bytes → text ≡ print_tree nodes → IsTree root book text
tree_stands root bytes items nodes book text opens found is = record { bytes = bytes; items = items; opens = record { found = found; nodes = nodes; opens = opens }; printed = is }

-- a root that opens has a tree
pub tree_exists : (root : List ℕ) (book : Book) (bytes : List ℕ) (items : Items) → Opens root book bytes items → (text : List ℕ) × IsTree root book text
tree_exists root book bytes items opens = (print_tree opens.nodes, record { bytes = bytes; items = items; opens = opens; printed = refl })
