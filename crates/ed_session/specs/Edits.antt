-- What an edit of a session makes, and why it is refused; of this project. Which test refuses an edit, and what an accepted
-- one makes, is said by `ed_spec` (`Edit`); ranges count characters from 0, and lengths are in bytes.
--
--   refusal_of    the refusal that a variant of the code is
--   IsNoTextAt    why a path, and IsNoText why a place, has no text to edit
--   IsNoValue     why a range of a text does not give way to another text
--   IsTooLarge    why a file of these bytes is not made
--   IsNewText     the text at a place has this path, and with the edit this value
--   IsRefusal     why an edit of items, and IsRefusedIn why one of bytes, is refused
--   IsEditOf      the bytes of the root with the edit
--   IsEdited      the session afterwards
--   CountsBytes   how many steps an edit takes, after this answer
use Rattle.std.specs.Prelude.{◌≡◌, ◌⊎◌, ◌<◌, ◌≤◌, ◌+◌, ℕ, List, length, true, false, Some, None, Result, Ok, Err}
use Rattle.std.specs.List.{list_all}
use Rattle.xt_spec.specs.Limit.{most_file_bytes}
use Rattle.xt_spec.specs.Char.{is_char}
use Rattle.xt_spec.specs.Tree.{Items, Item, source_text}
use Rattle.xt_spec.specs.Paths.{item_at}
use Rattle.ed_spec.specs.Place.{path_of}
use Rattle.ed_spec.specs.Edit as spec
use Rattle.ed_spec.specs.Edit.{Edit, is_text, IsAt, IsInText, range_replaced, Refuses, Accepts}
use Rattle.ed_session.specs.declared.refusal.Refusal.{Refusal}
use Rattle.ed_session.specs.declared.refusal.Refusal.TheVariants.{NoSuchPlace, WrongKind, BadRange, BadText, TooLarge}
use Rattle.ed_session.specs.declared.refusal.EditFault.{EditFault}
use Rattle.ed_session.specs.declared.refusal.EditFault.TheVariants.{Refused, NoMemory}
use Rattle.ed_session.specs.Kept.{Kept, Opens}

abbrev pub refusal_of : Refusal → spec.Refusal
refusal_of NoSuchPlace = spec.no_such_place
refusal_of WrongKind = spec.wrong_kind
refusal_of BadRange = spec.bad_range
refusal_of BadText = spec.bad_text
refusal_of TooLarge = spec.too_large

-- .. an item at a path
abbrev pub IsNoTextAt : Items → List ℕ → Refusal → Type 0
IsNoTextAt items path NoSuchPlace = item_at items path ≡ None
IsNoTextAt items path WrongKind = (item : Item) × (item_at items path ≡ Some item) × (is_text item ≡ false)
IsNoTextAt items path BadRange = ⊥
IsNoTextAt items path BadText = ⊥
IsNoTextAt items path TooLarge = ⊥

abbrev pub IsNoText : Items → List ℕ → EditFault → Type 0
IsNoText items place (Refused NoSuchPlace) = path_of items place ≡ None
IsNoText items place (Refused WrongKind) = (path : List ℕ) × (item : Item) × IsAt items place path item × (is_text item ≡ false)
IsNoText items place (Refused BadRange) = ⊥
IsNoText items place (Refused BadText) = ⊥
IsNoText items place (Refused TooLarge) = ⊥
IsNoText items place NoMemory = Unit {0}

abbrev pub IsNoValue : List ℕ → ℕ → ℕ → List ℕ → EditFault → Type 0
IsNoValue old from to new (Refused BadRange) = (to < from) ⊎ (length old < to)
IsNoValue old from to new (Refused BadText) = (from ≤ to) × (to ≤ length old) × (list_all is_char new ≡ false)
IsNoValue old from to new (Refused NoSuchPlace) = ⊥
IsNoValue old from to new (Refused WrongKind) = ⊥
IsNoValue old from to new (Refused TooLarge) = ⊥
IsNoValue old from to new NoMemory = Unit {0}

abbrev pub IsTooLarge : List ℕ → EditFault → Type 0
IsTooLarge bytes (Refused TooLarge) = most_file_bytes < length bytes
IsTooLarge bytes (Refused NoSuchPlace) = ⊥
IsTooLarge bytes (Refused WrongKind) = ⊥
IsTooLarge bytes (Refused BadRange) = ⊥
IsTooLarge bytes (Refused BadText) = ⊥
IsTooLarge bytes NoMemory = Unit {0}

-- the text at the path, with these characters as its new value
pub record IsNewText (items : Items) (place : List ℕ) (from to : ℕ) (new path value : List ℕ) : Type 0 where
  pub characters : List ℕ
  pub inside : IsInText items place from to path characters
  pub new_are : list_all is_char new ≡ true
  pub value_is : value ≡ range_replaced characters from to new

-- the edit of these items is refused so
abbrev pub IsRefusal : Items → Edit → EditFault → Type 0
IsRefusal items edit (Refused refusal) = Refuses items edit (refusal_of refusal)
IsRefusal items edit NoMemory = Unit {0}

-- the bytes of the root with the edit, where the items are its tree
pub record IsEditOf (root : List ℕ) (items : Items) (edit : Edit) (bytes : List ℕ) : Type 0 where
  pub others : Items
  pub accepts : Accepts items edit others
  pub bytes_are : bytes ≡ source_text others
  pub opens : Opens root bytes others

-- the root was refused so, or memory was wanting
abbrev pub IsRefusedIn : List ℕ → List ℕ → Edit → EditFault → Type 0
IsRefusedIn root bytes edit fault = (items : Items) × Opens root bytes items × IsRefusal items edit fault

-- the root has the bytes of the edit; what is saved stays
pub record IsEdited (edit : Edit) (old new : Kept) : Type 0 where
  pub root : new.root ≡ old.root
  pub saved : new.saved ≡ old.saved
  pub items : Items
  pub opens : Opens old.root old.bytes items
  pub edited : IsEditOf old.root items edit new.bytes

-- One step a byte of the root with the edit, and none for an edit that is refused. Where memory was wanting either none was
-- counted, or those of an edit that no test refuses.
abbrev pub CountsBytes : {A : Type 0} → Edit → Kept → Kept → Result A EditFault → ℕ → ℕ → Type 0
CountsBytes edit old new (Ok made) earlier now = now ≡ earlier + length new.bytes
CountsBytes edit old new (Err (Refused refusal)) earlier now = now ≡ earlier
CountsBytes edit old new (Err NoMemory) earlier now = (now ≡ earlier) ⊎ ((made : Kept) × IsEdited edit old made × (now ≡ earlier + length made.bytes))
