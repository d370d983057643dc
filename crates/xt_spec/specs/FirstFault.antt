-- The first fault of a file in a role: why it has no reading. What is well-formed is said by the readings (XML 1.0, Fifth
-- Edition); the order of faults is of this project. Bytes that aren't UTF-8 come first, then a declaration in front that
-- names another encoding. Then tokens are taken from left to right, each the longest at its place, as long as they are the
-- front of some whole body; the fault is where they end. Places are bytes, from 0.
--
--   ReadingFault     the faults
--   open_behind      how many elements are open behind a token
--   AreTokens        a text is tokens up to a place, and so many elements are open there
--   IsFrontOf        something whole begins so
--   IsReadTo         the text is tokens up to a place, and these are the front of something whole
--   IsStopped        why it is not read on, though not for its levels
--   IsTooDeep        it is not read on, since a tag would begin an element at level 129
--   IsFirstNoChar    so many bytes stand before the first character that no document may hold
--   IsFirstFault     the first fault of a file in a role
use Rattle.std.specs.Prelude.{◌≡◌, ◌≢◌, ℕ, suc, ◌+◌, ◌-◌, ◌≤◌, Bool, true, false, nat_le, List, [], ◌∷◌, ◌++◌, length, take, drop, IsUtf8, encode_utf8_all}
use Rattle.std.specs.List.{list_all}
use Rattle.std.specs.Str.{chars, IsValidUpTo}
use Rattle.xt_spec.specs.Limit.{most_levels}
use Rattle.xt_spec.specs.Char.{is_char}
use Rattle.xt_spec.specs.Declaration.{Declaration}
use Rattle.xt_spec.specs.Token.{TokenKind, start_tag, empty_tag, end_tag, char_data, char_ref, entity_ref, cdata_section, comment, pi, declaration, doctype, IsLongestFront, NoFront}
use Rattle.xt_spec.specs.Tree.{Items, source_text}
use Rattle.xt_spec.specs.Reading.{Role, document, entity, fragment, plain_text}
use Rattle.xt_spec.specs.Front.{IsBody, form_of, IsForeign, after_mark, BeginsBody}

-- the bytes aren't UTF-8: so many of them are; a declaration in front names another encoding; at this place no token stands,
-- or one that may not, or the file ends too early; a tag would begin an element at level 129
pub data ReadingFault : Type 0 where
  not_utf8 : (at : ℕ) → ReadingFault
  encoding : ReadingFault
  not_well_formed : (at : ℕ) → ReadingFault
  too_deep : ReadingFault

-- how many elements are open behind a token, where so many are in front of it
abbrev pub open_behind : TokenKind → ℕ → ℕ
open_behind start_tag opened = suc opened
open_behind empty_tag opened = opened
open_behind end_tag opened = opened - 1
open_behind char_data opened = opened
open_behind char_ref opened = opened
open_behind entity_ref opened = opened
open_behind cdata_section opened = opened
open_behind comment opened = opened
open_behind pi opened = opened
open_behind declaration opened = opened
open_behind doctype opened = opened

-- a token that begins an element within so many
abbrev pub begins_too_deep : TokenKind → ℕ → Bool
begins_too_deep start_tag opened = nat_le most_levels opened
begins_too_deep empty_tag opened = nat_le most_levels opened
begins_too_deep end_tag opened = false
begins_too_deep char_data opened = false
begins_too_deep char_ref opened = false
begins_too_deep entity_ref opened = false
begins_too_deep cdata_section opened = false
begins_too_deep comment opened = false
begins_too_deep pi opened = false
begins_too_deep declaration opened = false
begins_too_deep doctype opened = false

-- from so many open elements on the text is longest tokens for so many bytes, and then so many elements are open
pub data AreTokens : List ℕ → ℕ → ℕ → ℕ → Type 0 where
  no_tokens : (text : List ℕ) (opened : ℕ) → AreTokens text opened 0 opened
  token_before : (text : List ℕ) (opened : ℕ) (kind : TokenKind) (n behind last : ℕ) → IsLongestFront text kind n
      → AreTokens (drop n text) (open_behind kind opened) behind last → AreTokens text opened (n + behind) last

-- the text is the front of something whole
abbrev pub IsFrontOf : (Items → Type 0) → List ℕ → Type 0
IsFrontOf Whole front = (more : List ℕ) × (items : Items) × Whole items × (source_text items ≡ front ++ more)

-- the text is tokens up to this place, where so many elements are open, and they are the front of something whole
pub record IsReadTo (Whole : Items → Type 0) (text : List ℕ) (at opened : ℕ) : Type 0 where
  pub within : at ≤ length text
  pub tokens : AreTokens text 0 at opened
  pub front : IsFrontOf Whole (take at text)

-- The text is not read on from there: no token stands; or one with which nothing whole goes on, though not for its level; or
-- the text ends, and is nothing whole.
pub data IsStopped (Whole : Items → Type 0) (text : List ℕ) (at opened : ℕ) : Type 0 where
  no_token : drop at text ≢ [] → NoFront (drop at text) → IsStopped Whole text at opened
  misplaced : (kind : TokenKind) (n : ℕ) → IsLongestFront (drop at text) kind n → begins_too_deep kind opened ≡ false
      → ¬ IsFrontOf Whole (take (at + n) text) → IsStopped Whole text at opened
  too_early : drop at text ≡ [] → ((items : Items) → Whole items → source_text items ≢ text) → IsStopped Whole text at opened

-- the body is read to this place, and no further
pub record IsIllFormed (Whole : Items → Type 0) (body : List ℕ) (at : ℕ) : Type 0 where
  pub opened : ℕ
  pub read : IsReadTo Whole body at opened
  pub stopped : IsStopped Whole body at opened

-- .. since a tag there would begin an element at level 129
pub record IsTooDeep (Whole : Items → Type 0) (body : List ℕ) : Type 0 where
  pub at : ℕ
  pub opened : ℕ
  pub read : IsReadTo Whole body at opened
  pub kind : TokenKind
  pub n : ℕ
  pub token : IsLongestFront (drop at body) kind n
  pub deep : begins_too_deep kind opened ≡ true

-- the body of a file of markup begins at this place, and no encoding hinders it
pub record HasBodyAt (form : Declaration → Bool) (text : List ℕ) (to : ℕ) : Type 0 where
  pub known : ¬ IsForeign form (after_mark text)
  pub begins : BeginsBody form text to

-- Of the text's characters the first that is no [2] Char stands behind so many bytes. A byte order mark in front counts as
-- a character: it is a Char.
pub record IsFirstNoChar (text : List ℕ) (at : ℕ) : Type 0 where
  pub before : List ℕ
  pub character : ℕ
  pub behind : List ℕ
  pub are : chars text ≡ before ++ character ∷ behind
  pub pass : list_all is_char before ≡ true
  pub fails : is_char character ≡ false
  pub at_is : at ≡ length (encode_utf8_all before)

-- the place, counted from the beginning of a body that begins there
pub record IsIllFormedBehind (role : Role) (text : List ℕ) (at : ℕ) : Type 0 where
  pub to : ℕ
  pub body : HasBodyAt (form_of role) text to
  pub n : ℕ
  pub at_is : at ≡ to + n
  pub fault : IsIllFormed (IsBody role) (drop to text) n

pub record IsTooDeepBehind (role : Role) (text : List ℕ) : Type 0 where
  pub to : ℕ
  pub body : HasBodyAt (form_of role) text to
  pub fault : IsTooDeep (IsBody role) (drop to text)

-- not well-formed at this place: the body is read no further; or that character stands there
abbrev pub IsIllFormedIn : Role → List ℕ → ℕ → Type 0
IsIllFormedIn document text at = IsIllFormedBehind document text at
IsIllFormedIn entity text at = IsIllFormedBehind entity text at
IsIllFormedIn fragment text at = IsIllFormed (IsBody fragment) text at
IsIllFormedIn plain_text text at = IsFirstNoChar text at

abbrev pub IsTooDeepIn : Role → List ℕ → Type 0
IsTooDeepIn document text = IsTooDeepBehind document text
IsTooDeepIn entity text = IsTooDeepBehind entity text
IsTooDeepIn fragment text = IsTooDeep (IsBody fragment) text
IsTooDeepIn plain_text text = ⊥

abbrev pub IsFirstFault : Role → List ℕ → ReadingFault → Type 0
IsFirstFault role bytes (not_utf8 at) = (¬ IsUtf8 bytes) × IsValidUpTo bytes at
IsFirstFault role bytes encoding = IsUtf8 bytes × IsForeign (form_of role) (after_mark bytes)
IsFirstFault role bytes (not_well_formed at) = IsUtf8 bytes × IsIllFormedIn role bytes at
IsFirstFault role bytes too_deep = IsUtf8 bytes × IsTooDeepIn role bytes
