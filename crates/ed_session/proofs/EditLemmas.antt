-- From the parts of an edit to its outcome.
use Rattle.std.proofs.Common.{◌≡◌, ◌∙◌, refl, ℕ, ◌+◌, ◌<◌, ◌≤◌, List, length, sym, ap, subst, true, false, Some, Result, Ok, Err, inr, Vec, Global, encode_utf8_all}
use Rattle.std.specs.Prelude.{IfOk, IsErrAnd}
use Rattle.std.specs.List.{list_all}
use Rattle.xt_spec.specs.Limit.{most_file_bytes}
use Rattle.xt_spec.specs.Char.{is_char}
use Rattle.xt_spec.specs.Tree.{Item, element_item, leaf_item, text_item, reference_item, comment_item, pi_item, gap, Items, source_text}
use Rattle.xt_spec.specs.Text.{IsTextItem, HasTextValue}
use Rattle.xt_spec.specs.Reading.{document, IsReading}
use Rattle.xt_read.proofs.Theorems.{one_tree, no_first_fault}
use Rattle.xt_read.specs.declared.unread.Unread.{Unread}
use Rattle.xt_read.specs.declared.unread.Unread.TheVariants as unread
use Rattle.xt_read.specs.Faults.{reading_fault}
use Rattle.xt_spec.specs.FirstFault.{not_utf8, encoding, not_well_formed, too_deep, IsFirstFault}
use Rattle.std.specs.Option.{IfSome}
use Rattle.xt_spec.specs.Paths.{item_at}
use Rattle.ed_spec.specs.TextEdit.{text_edited}
use Rattle.ed_spec.specs.Edit as spec
use Rattle.ed_spec.specs.Edit.{Edit, text_edit, IsAt, range_replaced, edited, no_node, no_text, no_range, no_char, no_room, Accepts, accepted}
use Rattle.ed_text.proofs.Theorems.{document_text_at}
use Rattle.ed_laws.proofs.Theorems.{an_edited_document_opens}
use Rattle.ed_session.specs.declared.refusal.Refusal.TheVariants.{NoSuchPlace, WrongKind, BadRange, BadText, TooLarge}
use Rattle.ed_session.specs.declared.refusal.EditFault.{EditFault}
use Rattle.ed_session.specs.declared.refusal.EditFault.TheVariants.{Refused, NoMemory}
use Rattle.ed_session.specs.Edits.{IsNoText, IsNoValue, IsTooLarge, IsNewText, IsRefusal, IsEditOf, IsEdited, CountsBytes}
use Rattle.ed_session.specs.Kept.{Kept, Opens}

pub no_text_refused : (items : Items) (place new : List ℕ) (from to : ℕ) (e : EditFault) → IsNoText items place e → IsRefusal items (text_edit place from to new) e
no_text_refused items place new from to (Refused NoSuchPlace) none = no_node place from to new none
no_text_refused items place new from to (Refused WrongKind) (path, item, at, other) = no_text place from to new path item at other
no_text_refused items place new from to (Refused BadRange) none = absurd none
no_text_refused items place new from to (Refused BadText) none = absurd none
no_text_refused items place new from to (Refused TooLarge) none = absurd none
no_text_refused items place new from to NoMemory none = tt

pub no_value_refused : (items : Items) (place new path text characters : List ℕ) (from to : ℕ) (e : EditFault) → IsAt items place path (leaf_item text_item text) → HasTextValue text (encode_utf8_all characters)
    → IsNoValue characters from to new e → IsRefusal items (text_edit place from to new) e
no_value_refused items place new path text characters from to (Refused BadRange) at has none = no_range place from to new path (leaf_item text_item text) characters at has none
no_value_refused items place new path text characters from to (Refused BadText) at has (ascends, within, bad) =
    no_char place from to new path characters (record { item = leaf_item text_item text; at = at; value = has; ascends = ascends; within = within }) bad
no_value_refused items place new path text characters from to (Refused NoSuchPlace) at has none = absurd none
no_value_refused items place new path text characters from to (Refused WrongKind) at has none = absurd none
no_value_refused items place new path text characters from to (Refused TooLarge) at has none = absurd none
no_value_refused items place new path text characters from to NoMemory at has none = tt

pub new_text_is : (items : Items) (place new path text characters value : List ℕ) (from to : ℕ) → IsAt items place path (leaf_item text_item text) → HasTextValue text (encode_utf8_all characters)
    → (from ≤ to) × (to ≤ length characters) × (list_all is_char new ≡ true) × (value ≡ range_replaced characters from to new) → IsNewText items place from to new path value
new_text_is items place new path text characters value from to at has (ascends, within, are, is) = record {
  characters = characters;
  inside = record { item = leaf_item text_item text; at = at; value = has; ascends = ascends; within = within };
  new_are = are;
  value_is = is;
}

-- the text at a place of a document is a text item
pub opened_text : (root bytes : List ℕ) (items : Items) (place path text : List ℕ) → Opens root bytes items → IsAt items place path (leaf_item text_item text) → IsTextItem text
opened_text root bytes items place path text (nodes, opens) at = document_text_at items path text at.there opens.reading.ordered

pub new_text_there : (items : Items) (place new path value : List ℕ) (from to : ℕ) → IsNewText items place from to new path value → (text : List ℕ) × (item_at items path ≡ Some (leaf_item text_item text))
new_text_there items place new path value from to is = by is.inside.item is.inside.value is.inside.at.there
  where
    by : (item : Item) → spec.IsTextItemOf item is.characters → item_at items path ≡ Some item → (text : List ℕ) × (item_at items path ≡ Some (leaf_item text_item text))
    by (leaf_item text_item text) has there = (text, there)
    by (leaf_item reference_item text) has there = absurd has
    by (leaf_item comment_item text) has there = absurd has
    by (leaf_item pi_item text) has there = absurd has
    by (leaf_item gap text) has there = absurd has
    by (element_item open_tag kids close) has there = absurd has

-- the tree of the patched bytes is that of the edit, and they open
pub edit_of_new : (root old : List ℕ) (items : Items) (place new path value bytes : List ℕ) (from to : ℕ) → Opens root old items → IsNewText items place from to new path value
    → bytes ≡ source_text (text_edited false items path value) → length bytes ≤ most_file_bytes → IsEditOf root items (text_edit place from to new) bytes
edit_of_new root old items place new path value bytes from to (nodes, opens) is bytes_are fits =
    let same : text_edited false items path value ≡ edited items path is.characters from to new = ap (λ (l : List ℕ). text_edited false items path l) is.value_is in
    let all : bytes ≡ source_text (edited items path is.characters from to new) = bytes_are ∙ ap source_text same in
    let small : length (source_text (edited items path is.characters from to new)) ≤ most_file_bytes = subst (λ (l : List ℕ). length l ≤ most_file_bytes) all fits in
    let accepts : Accepts items (text_edit place from to new) (edited items path is.characters from to new) = accepted place from to new path is.characters is.inside is.new_are small in
    let next = an_edited_document_opens root old items (edited items path is.characters from to new) nodes (text_edit place from to new) opens accepts in
    record {
      others = edited items path is.characters from to new;
      accepts = accepts;
      bytes_are = all;
      opens = subst (λ (l : List ℕ). Opens root l (edited items path is.characters from to new)) (sym all) next;
    }

pub too_large_refused : (items : Items) (place new path value bytes : List ℕ) (from to : ℕ) (e : EditFault) → IsNewText items place from to new path value → bytes ≡ source_text (text_edited false items path value)
    → IsTooLarge bytes e → IsRefusal items (text_edit place from to new) e
too_large_refused items place new path value bytes from to (Refused TooLarge) is bytes_are large =
    no_room place from to new path is.characters is.inside is.new_are
    (subst (λ (l : List ℕ). most_file_bytes < length l) (bytes_are ∙ ap (λ (l : List ℕ). source_text (text_edited false items path l)) is.value_is) large)
too_large_refused items place new path value bytes from to (Refused NoSuchPlace) is bytes_are large = absurd large
too_large_refused items place new path value bytes from to (Refused WrongKind) is bytes_are large = absurd large
too_large_refused items place new path value bytes from to (Refused BadRange) is bytes_are large = absurd large
too_large_refused items place new path value bytes from to (Refused BadText) is bytes_are large = absurd large
too_large_refused items place new path value bytes from to NoMemory is bytes_are large = tt

pub is_edited : (edit : Edit) (old new : Kept) (bytes out : List ℕ) (items : Items) → old.bytes ≡ bytes → Opens old.root bytes items → IsEditOf old.root items edit out
    → new ≡ record { root = old.root; bytes = out; saved = old.saved } → IsEdited edit old new
is_edited edit old new bytes out items same opens is new_is = record {
  root = ap (λ (k : Kept). k.root) new_is;
  saved = ap (λ (k : Kept). k.saved) new_is;
  items = items;
  opens = subst (λ (l : List ℕ). Opens old.root l items) (sym same) opens;
  edited = subst (λ (l : List ℕ). IsEditOf old.root items edit l) (sym (ap (λ (k : Kept). k.bytes) new_is)) is;
}

-- memory was wanting behind the bytes of the edit
pub counts_wanting : {A : Type 0} (edit : Edit) (old new made : Kept) (r : Result A EditFault) (earlier now : ℕ) → IsErrAnd r (λ fault. fault ≡ NoMemory) → IsEdited edit old made → now ≡ earlier + length made.bytes
    → CountsBytes edit old new r earlier now
counts_wanting edit old new made (Ok done) earlier now wanting is counted = absurd wanting
counts_wanting edit old new made (Err (Refused refusal)) earlier now wanting is counted = absurd (cc)
counts_wanting edit old new made (Err NoMemory) earlier now wanting is counted = inr (made, is, counted)

-- what is read again are the items that are known
pub opens_read : (root bytes : List ℕ) (items again : Items) → Opens root bytes items → IsReading document bytes again → Opens root bytes again
opens_read root bytes items again opens reading = subst (λ (is : Items). Opens root bytes is) (one_tree bytes items again opens.1.reading reading) opens

-- what opens has no fault but want of memory
pub no_fault_again : (root bytes : List ℕ) (items : Items) (fault : Unread) → Opens root bytes items → IfSome (reading_fault fault) (IsFirstFault document bytes) → (fault ≡ unread.NoMemory → ⊥) → ⊥
no_fault_again root bytes items (unread.NotUtf8 at) opens is other = no_first_fault document bytes items (not_utf8 at) opens.1.reading is
no_fault_again root bytes items unread.Encoding opens is other = no_first_fault document bytes items encoding opens.1.reading is
no_fault_again root bytes items (unread.NotWellFormed at) opens is other = no_first_fault document bytes items (not_well_formed at) opens.1.reading is
no_fault_again root bytes items unread.TooDeep opens is other = no_first_fault document bytes items too_deep opens.1.reading is
no_fault_again root bytes items unread.NoMemory opens is other = other refl

pub same_edit : (result : Result (Vec ℕ Global) EditFault) (bytes : List ℕ) (items : Items) (a b : Edit) → a ≡ b → IfOk result (λ out. (root : List ℕ) → Opens root bytes items → IsEditOf root items a out.items)
    → IfOk result (λ out. (root : List ℕ) → Opens root bytes items → IsEditOf root items b out.items)
same_edit result bytes items a b same is = subst (λ (e : Edit). IfOk result (λ out. (root : List ℕ) → Opens root bytes items → IsEditOf root items e out.items)) same is
