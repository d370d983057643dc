-- Why a text is not read on by its longest tokens, as a fault of `xt_spec`; that this is the first fault of the file is proved
-- (`proofs/FirstFaults`). Of the code's answers, which fault each is: want of memory is none.
--
--   reading_fault  the fault that an answer of the code is; none where memory ran out
--   fault_at       a halt at a place, as an answer
--   IsHalt         the text is not read on in this state: no token stands, or one that may not, or it ends too early
--   IsTooDeep      .. a tag would begin an element at level 129
--   IsHaltAt       the fault of one place
--   IsBodyFault    the first fault of a body
--   IsMarkupFault  the first fault of a text of markup: of what stands in front, or of its body
--   IsPlainFault   the first fault of a text that is read as one text
--   IsTextFault    the first fault of a text in a role
--   IsFaultOf      the first fault of a file
use Rattle.std.specs.Prelude.{◌≡◌, ◌≢◌, ◌≤◌, ◌⊎◌, ℕ, true, false, List, [], drop, length, Option, Some, None, IsUtf8}
use Rattle.std.specs.Str.{IsValidUpTo}
use Rattle.xt_spec.specs.Token.{NoFront}
use Rattle.xt_read.specs.Run.{Body, Tok, IsToken, State, begin, is_too_deep, step, IsWhole, Passes}
use Rattle.xt_spec.specs.Front.{after_mark, IsForeign}
use Rattle.xt_spec.specs.FirstFault.{ReadingFault, not_utf8, encoding, not_well_formed, too_deep, HasBodyAt, IsFirstNoChar}
use Rattle.xt_read.specs.Front.{form_of, body_for}
use Rattle.xt_read.specs.declared.front.FileRole.{FileRole}
use Rattle.xt_read.specs.declared.front.FileRole.TheVariants as file
use Rattle.xt_read.specs.declared.front.MarkupRole.{MarkupRole}
use Rattle.xt_read.specs.declared.front.MarkupRole.TheVariants as markup
use Rattle.xt_read.specs.declared.unread.Unread.{Unread}
use Rattle.xt_read.specs.declared.unread.Unread.TheVariants as unread
use Rattle.xt_read.specs.declared.unread.Halt.{Halt}
use Rattle.xt_read.specs.declared.unread.Halt.TheVariants as halt

abbrev pub reading_fault : Unread → Option ReadingFault
reading_fault (unread.NotUtf8 at) = Some (not_utf8 at)
reading_fault unread.Encoding = Some encoding
reading_fault (unread.NotWellFormed at) = Some (not_well_formed at)
reading_fault unread.TooDeep = Some too_deep
reading_fault unread.NoMemory = None

abbrev pub fault_at : Halt → ℕ → Unread
fault_at halt.Misplaced at = unread.NotWellFormed at
fault_at halt.TooDeep at = unread.TooDeep
fault_at halt.NoMemory at = unread.NoMemory

-- a token stands in front that may not, though not for its level
pub record IsMisplaced (s : State) (text : List ℕ) : Type 0 where
  pub tok : Tok
  pub is : IsToken tok text
  pub none : step s tok ≡ None
  pub level : is_too_deep s tok ≡ false

pub record IsTooDeep (s : State) (text : List ℕ) : Type 0 where
  pub tok : Tok
  pub is : IsToken tok text
  pub level : is_too_deep s tok ≡ true

-- the text is not read on: no token stands in front, or one that may not; or it ends where something is left open
abbrev pub IsHalt : State → List ℕ → Type 0
IsHalt s text = ((text ≢ []) × NoFront text) ⊎ (IsMisplaced s text ⊎ ((text ≡ []) × ¬ IsWhole s))

-- the fault of the text at this place, in this state; those of the whole file are none
abbrev pub IsHaltAt : List ℕ → ℕ → State → ReadingFault → Type 0
IsHaltAt text at s (not_well_formed place) = (place ≡ at) × IsHalt s (drop at text)
IsHaltAt text at s too_deep = IsTooDeep s (drop at text)
IsHaltAt text at s (not_utf8 place) = ⊥
IsHaltAt text at s encoding = ⊥

-- the body that begins at one place is read up to another, and no further
pub record IsBodyFault (body : Body) (text : List ℕ) (from : ℕ) (fault : ReadingFault) : Type 0 where
  pub at : ℕ
  pub order : from ≤ at
  pub within : at ≤ length text
  pub state : State
  pub passes : Passes (begin body) (drop from text) state (drop at text)
  pub halts : IsHaltAt text at state fault

-- .. behind what stands in front
pub record IsBehindFront (role : MarkupRole) (text : List ℕ) (which : ReadingFault) : Type 0 where
  pub to : ℕ
  pub body : HasBodyAt (form_of role) text to
  pub fault : IsBodyFault (body_for role) text to which

-- the first fault of a text of markup in this role: the encoding that it declares, or where its body is read no further
abbrev pub IsMarkupFault : MarkupRole → List ℕ → ReadingFault → Type 0
IsMarkupFault role text encoding = IsForeign (form_of role) (after_mark text)
IsMarkupFault role text (not_utf8 at) = ⊥
IsMarkupFault role text (not_well_formed at) = IsBehindFront role text (not_well_formed at)
IsMarkupFault role text too_deep = IsBehindFront role text too_deep

-- the first fault of a text that is read as one text: such a character; nothing else is asked of it
abbrev pub IsPlainFault : List ℕ → ReadingFault → Type 0
IsPlainFault text encoding = ⊥
IsPlainFault text (not_utf8 at) = ⊥
IsPlainFault text (not_well_formed at) = IsFirstNoChar text at
IsPlainFault text too_deep = ⊥

-- the first fault of a text in this role
abbrev pub IsTextFault : FileRole → List ℕ → ReadingFault → Type 0
IsTextFault file.Document text = IsMarkupFault markup.Document text
IsTextFault file.Entity text = IsMarkupFault markup.Entity text
IsTextFault file.Text text = IsPlainFault text

-- the first fault of a file: its bytes aren't UTF-8 behind so many, or that of its text
abbrev pub IsFaultOf : FileRole → List ℕ → ReadingFault → Type 0
IsFaultOf role bytes (not_utf8 at) = (¬ IsUtf8 bytes) × IsValidUpTo bytes at
IsFaultOf role bytes encoding = IsUtf8 bytes × IsTextFault role bytes encoding
IsFaultOf role bytes (not_well_formed at) = IsUtf8 bytes × IsTextFault role bytes (not_well_formed at)
IsFaultOf role bytes too_deep = IsUtf8 bytes × IsTextFault role bytes too_deep
