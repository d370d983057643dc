-- The steps of a session are local.
use Rattle.std.proofs.Common.{◌≡◌, ◌∙◌, ℕ, List, [], ◌∷◌, refl, sym, ap, subst, Some, encode_utf8_all}
use Rattle.xt_spec.specs.Tree.{Items, source_text}
use Rattle.bk_spec.specs.Node.{Nodes}
use Rattle.bk_spec.specs.Opening.{IsOpen}
use Rattle.ed_spec.specs.Place.{text_set}
use Rattle.ed_spec.specs.Book.{Book, Opens}
use Rattle.ed_spec.specs.Edit.{Edit, text_edit, IsInText, range_replaced, Accepts, AcceptsIn}
use Rattle.ed_spec.specs.Session.{Session, Command, Reply, Step, opened, after_undo, after_redo, Does, accepts, refuses, undoes, undoes_nothing, redoes, redoes_nothing, saves, DoesAll, nothing, then}
use Rattle.ed_laws.specs.Bytes.{ChangesOneText}
use Rattle.ed_laws.specs.LocalSteps.{IsLocalEdit, IsLocalStep, AreLocalSteps}
use Rattle.ed_laws.proofs.Bytes.{changes_one_text, file_there}
use Rattle.ed_laws.proofs.Opened.{accepted_opens}
use Rattle.ed_laws.proofs.Outcomes.{in_text_once, other_files_stay}

-- the nodes afterwards, by the characters that the changed bytes had
next_opens : (root bytes : List ℕ) (items others : Items) (nodes : Nodes) (place : List ℕ) (from to : ℕ) (new : List ℕ) (changes : ChangesOneText items others place from to new) → IsOpen root bytes items nodes → Accepts items (text_edit place from to new) others
    → IsOpen root (source_text others) others (text_set nodes place (encode_utf8_all (range_replaced changes.characters from to new)))
next_opens root bytes items others nodes place from to new changes opens made =
    let (path, characters, inside, next) = accepted_opens root bytes items others nodes place from to new opens made in
    subst (λ (l : List ℕ). IsOpen root (source_text others) others (text_set nodes place (encode_utf8_all (range_replaced l from to new))))
    (in_text_once items place from to path changes.path characters changes.characters inside changes.inside).1 next

pub local_edit : (root : List ℕ) (edit : Edit) (book next : Book) → AcceptsIn root book edit next → IsLocalEdit root edit book next
local_edit root (text_edit place from to new) book next (bytes, items, others, opens, made, is) =
    let changes = changes_one_text items others place from to new made in
    let same : bytes ≡ source_text items = sym opens.opens.reading.joined in
    record {
      items = items;
      others = others;
      nodes = opens.nodes;
      before = subst (λ (l : List ℕ). book root ≡ Some l) same opens.found;
      opens = subst (λ (l : List ℕ). IsOpen root l items opens.nodes) same opens.opens;
      after = ap (λ (b : Book). b root) is ∙ file_there root (source_text others) book;
      changes = changes;
      opens_next = next_opens root bytes items others opens.nodes place from to new changes opens.opens made;
      same = λ name apart. other_files_stay root name book next (text_edit place from to new) (bytes, items, others, opens, made, is) apart;
    }

-- ---- commands in a row

-- books to go back to, the nearest first: a local edit led from each to the one behind it
abbrev AreBefore : List ℕ → Book → List Book → Type 0
AreBefore root book [] = Unit {0}
AreBefore root book (old ∷ olds) = ((e : Edit) × IsLocalEdit root e old book) × AreBefore root old olds

-- .. to go forth to
abbrev AreBehind : List ℕ → Book → List Book → Type 0
AreBehind root book [] = Unit {0}
AreBehind root book (new ∷ news) = ((e : Edit) × IsLocalEdit root e book new) × AreBehind root new news

record IsInLine (root : List ℕ) (s : Session) : Type 0 where
  past : AreBefore root s.book s.past
  future : AreBehind root s.book s.future

record IsStepInLine (root : List ℕ) (s : Session) (command : Command) (reply : Reply) (next : Session) : Type 0 where
  local : IsLocalStep root s.book command reply next.book
  line : IsInLine root next

step_in_line : (root : List ℕ) (s next : Session) (command : Command) (reply : Reply) → Does root s command reply next → IsInLine root s → IsStepInLine root s command reply next
step_in_line root s _ _ _ (accepts e book made) line =
    let local = local_edit root e s.book book made in
    record { local = local; line = record { past = ((e, local), line.past); future = tt } }
step_in_line root s _ _ _ (refuses e refusal why) line = record { local = refl; line = line }
step_in_line root s _ _ _ (undoes book past is) line =
    let back = subst (λ (l : List Book). AreBefore root s.book l) is line.past in
    record { local = back.0; line = record { past = back.1; future = (back.0, line.future) } }
step_in_line root s _ _ _ (undoes_nothing is) line = record { local = refl; line = line }
step_in_line root s _ _ _ (redoes book future is) line =
    let forth = subst (λ (l : List Book). AreBehind root s.book l) is line.future in
    record { local = forth.0; line = record { past = (forth.0, line.past); future = forth.1 } }
step_in_line root s _ _ _ (redoes_nothing is) line = record { local = refl; line = line }
step_in_line root s _ _ _ (saves names are) line = record { local = refl; line = record { past = line.past; future = line.future } }

steps_in_line : (root : List ℕ) (s last : Session) (commands : List Command) (steps : List Step) → DoesAll root s commands steps last → IsInLine root s → AreLocalSteps root s.book commands steps
steps_in_line root s last _ _ (nothing _) line = tt
steps_in_line root s last _ _ (then _ next _ command commands reply steps does all) line =
    let step = step_in_line root s next command reply does line in
    (step.local, steps_in_line root next last commands steps all step.line)

pub local_steps : (root : List ℕ) (book : Book) (last : Session) (commands : List Command) (steps : List Step) → DoesAll root (opened root book) commands steps last → AreLocalSteps root book commands steps
local_steps root book last commands steps does = steps_in_line root (opened root book) last commands steps does (record { past = tt; future = tt })
