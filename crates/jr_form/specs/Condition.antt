-- The condition on the items of a save as tests; of this project. `are_writable` says what both are.
use Rattle.std.specs.Prelude.{ℕ, ◌-◌, List, [], ◌∷◌, length, Bool, true, ◌&&◌, nat_le, Option, Some, None}
use Rattle.xt_spec.specs.Limit.{most_file_bytes, most_saved_bytes, most_saved_files}
use Rattle.jr_form.specs.declared.item.Item.{Item}
use Rattle.jr_form.specs.Journal.{comes_after, file_size}

-- the names stand in strictly ascending byte order, the first of them behind this one
abbrev pub ascends : Option (List ℕ) → List Item → Bool
ascends before [] = true
ascends before (item ∷ items) = comes_after before item.name && ascends (Some item.name) items

-- each file has at most 4,194,304 bytes, and all together fit into so many
abbrev pub files_fit : ℕ → List Item → Bool
files_fit room [] = true
files_fit room (item ∷ items) = (nat_le (file_size item.bytes) most_file_bytes && nat_le (file_size item.bytes) room) && files_fit (room - file_size item.bytes) items

-- the whole condition
abbrev pub is_met : List Item → Bool
is_met items = nat_le 1 (length items) && nat_le (length items) most_saved_files && ascends None items && files_fit most_saved_bytes items
