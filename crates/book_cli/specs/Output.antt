-- The output of a run and its exit status, from the words, the script and the files on the disk; of this project. Each line
-- ends in LF.
--
--   IsTree           the tree of a book
--   IsRun            a run over a book whose root opens
--   IsBookRun        .. over a book that was recovered: its replies, what is told behind them, and the status
--   BookOutput       status and output for a book that was recovered, its root and the commands
--   ScriptOutput     .. for a root, the bytes of a script and the files
--   IsOutput         .. for the words, the script and the files
--   is_book_status, is_script_status, is_exit_status  a status that comes with a whole output
--   is_answer        what a run answers
--   WritesOutput     a whole output was added to what was told
--   WritesPrefix     a prefix of one was, or nothing
use Rattle.std.specs.Prelude.{◌≡◌, ◌⊎◌, ℕ, Bool, ◌||◌, ◌==◌, List, [], ◌++◌, take, codes, if◌then◌else◌, Option, Some, None}
use Rattle.std.specs.Fmt.{decimal}
use Rattle.xt_spec.specs.Tree.{Items}
use Rattle.bk_spec.specs.Fault.{Fault, fault_line}
use Rattle.bk_spec.specs.Print.{print_tree}
use Rattle.ed_spec.specs.Book.{Book, Opens}
use Rattle.ed_spec.specs.Session.{Session, Command, Step, opened, DoesAll}
use Rattle.bk_desk.specs.Disk.{DiskImage}
use Rattle.bk_script.specs.Command as script
use Rattle.bk_script.specs.Script.{IsScript, ScriptFault, too_long, bad_line, too_many, IsFaultOf}
use Rattle.jr_burst.specs.SavedFiles.{recovered_files}
use Rattle.book_cli.specs.Words.{root_of}
use Rattle.bk_spec.specs.FirstFault.{IsRootFault}
use Rattle.bk_run.specs.Replies.{AreCommandsOf, replies_text, any_refused}

abbrev pub usage_line : List ℕ
usage_line = codes "usage: bookedit [--base URI] ROOT [CATALOG]...\n"

abbrev pub journal_line : List ℕ
journal_line = codes "fault journal\n"

abbrev pub source_line : List ℕ
source_line = codes "fault source\n"

-- the line of a script's fault
abbrev pub script_fault_line : ScriptFault → List ℕ
script_fault_line too_long = codes "fault script long\n"
script_fault_line (bad_line number) = codes "fault script line " ++ decimal number ++ codes "\n"
script_fault_line too_many = codes "fault script commands\n"

-- the tree of a book with this root
pub record IsTree (root : List ℕ) (book : Book) (text : List ℕ) : Type 0 where
  pub bytes : List ℕ
  pub items : Items
  pub opens : Opens root book bytes items
  pub printed : text ≡ print_tree opens.nodes

-- 1 where a command was refused
abbrev pub status_after : List Step → ℕ
status_after steps = if any_refused steps then 1 else 0

-- a run over a book whose root opens: the replies to the commands, and the tree after them
pub record IsRun (root : List ℕ) (commands : List script.Command) (book : Book) (steps : List Step) (tree : List ℕ) : Type 0 where
  pub asked : List Command
  pub asks : AreCommandsOf commands asked
  pub last : Session
  pub does : DoesAll root (opened root book) asked steps last
  pub shows : IsTree root last.book tree

-- A run over a book that was recovered: the replies to the commands and what is told behind them. No replies, the line of the
-- root's first fault and 3 where the root doesn't open; else the tree, and 0 or 1.
pub data IsBookRun (root : List ℕ) (commands : List script.Command) (book : Book) (steps : List Step) (last : List ℕ) (status : ℕ) : Type 0 where
  closed : (fault : Fault) → IsRootFault root (book root) fault → steps ≡ [] → last ≡ fault_line fault → status ≡ 3 → IsBookRun root commands book steps last status
  ran : IsRun root commands book steps last → status ≡ status_after steps → IsBookRun root commands book steps last status

abbrev pub BookOutput : List ℕ → List script.Command → Book → ℕ → List ℕ → Type 0
BookOutput root commands book status text = (steps : List Step) × (last : List ℕ) × IsBookRun root commands book steps last status × (text ≡ replies_text steps ++ last)

-- 4 where the script has no reading, 8 where the journal under an open gate has none
pub data ScriptOutput (root bytes : List ℕ) (files : DiskImage) (status : ℕ) (text : List ℕ) : Type 0 where
  no_script : (fault : ScriptFault) → IsFaultOf bytes fault → text ≡ script_fault_line fault → status ≡ 4 → ScriptOutput root bytes files status text
  damaged : (commands : List script.Command) → IsScript bytes commands → recovered_files files ≡ None
      → status ≡ 8 → text ≡ journal_line → ScriptOutput root bytes files status text
  recovered : (commands : List script.Command) (book : Book) → IsScript bytes commands → recovered_files files ≡ Some book
      → BookOutput root commands book status text → ScriptOutput root bytes files status text

-- the root that the words give, the script and the files give this status and this output: 2 where the words have no reading
abbrev pub RootOutput : Option (List ℕ) → List ℕ → DiskImage → ℕ → List ℕ → Type 0
RootOutput None bytes files status text = (status ≡ 2) × (text ≡ usage_line)
RootOutput (Some root) bytes files status text = ScriptOutput root bytes files status text

abbrev pub IsOutput : List (List ℕ) → List ℕ → DiskImage → ℕ → List ℕ → Type 0
IsOutput words bytes files status text = RootOutput (root_of words) bytes files status text

-- a status of a run whose script has a reading; is_script_status: of one whose words have; is_exit_status: of any whole output
abbrev pub is_book_status : ℕ → Bool
is_book_status status = status == 0 || status == 1 || status == 3 || status == 8

abbrev pub is_script_status : ℕ → Bool
is_script_status status = is_book_status status || status == 4

abbrev pub is_exit_status : ℕ → Bool
is_exit_status status = is_script_status status || status == 2

-- .. or 5, 6 or 7: the source, the disk or the output failed, or memory was wanting
abbrev pub is_answer : ℕ → Bool
is_answer answer = is_exit_status answer || answer == 5 || answer == 6 || answer == 7

-- the output that comes with this status was told, behind what was told before
abbrev pub WritesOutput : (ℕ → List ℕ → Type 0) → ℕ → List ℕ → List ℕ → Type 0
WritesOutput output status earlier now = (text : List ℕ) × output status text × (now ≡ earlier ++ text)

-- nothing was told, or the first bytes of an output
abbrev pub WritesPrefix : (ℕ → List ℕ → Type 0) → List ℕ → List ℕ → Type 0
WritesPrefix output earlier now =
    (now ≡ earlier) ⊎ ((status : ℕ) × (text : List ℕ) × (count : ℕ) × output status text × (now ≡ earlier ++ take count text))
