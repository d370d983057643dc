-- Reading from the front of a text: what each step leaves, or none. A text is the list of its bytes.
use Rattle.std.specs.Prelude.{zero, suc, ◌||◌, ◌&&◌, ℕ, length, not, Bool, true, false, ◌==◌, List, [], ◌∷◌, codes, Option, Some, None, if◌then◌else◌}
use Rattle.std.specs.Str.{chars}
use Rattle.std.specs.List.{list_all}
use Rattle.xt_spec.specs.Char.{is_space, is_char}
use Rattle.xt_spec.specs.Name.{are_ncname_chars}
use Rattle.xt_spec.specs.Reference.{is_decimal_digit, is_hexadecimal_digit, number_behind}
use Rattle.xt_spec.specs.Doctype.{is_quote_or_end}
use Rattle.xt_spec.specs.Markup.{is_reserved}
use Rattle.xt_spec.specs.Token.{TokenKind, char_ref, entity_ref}
use Rattle.xt_scan.specs.Form.{read_quoted}
pub use Rattle.xt_scan.specs.Step.{◌>>=◌, take_while, drop_while, after_all}
use Rattle.xt_lex.specs.NameTest.{is_name_byte}

abbrev pub maybe : {A B : Type 0} → B → (A → B) → Option A → B
maybe none some None = none
maybe none some (Some x) = some x

abbrev pub is_found : {A : Type 0} → Option A → Bool
is_found None = false
is_found (Some x) = true

-- what follows the byte c
abbrev pub after : ℕ → List ℕ → Option (List ℕ)
after c [] = None
after c (b ∷ bs) = if b == c then Some bs else None

abbrev pub after_ncname : List ℕ → Option (List ℕ)
after_ncname text = if are_ncname_chars (chars (take_while is_name_byte text)) then Some (drop_while is_name_byte text) else None

-- what follows white space, of which there is some
abbrev pub after_space : List ℕ → Option (List ℕ)
after_space [] = None
after_space (b ∷ bs) = if is_space b then Some (drop_while is_space bs) else None

-- the Char whose number digits spell in a base
abbrev pub named : ℕ → List ℕ → Option ℕ
named base digits = if is_char (number_behind base 0 digits) then Some (number_behind base 0 digits) else None

-- the Char that digits name, and what follows the `;` behind them
unfoldable pub after_number : ℕ → (ℕ → Bool) → List ℕ → Option (ℕ × List ℕ)
after_number base is_digit text = named base (take_while is_digit text) >>= λ c. after 0x3B (drop_while is_digit text) >>= λ r. Some (c, r)

-- behind `&#`: the Char of the reference, and what follows it
unfoldable pub after_char_ref : List ℕ → Option (ℕ × List ℕ)
after_char_ref text = maybe (after_number 10 is_decimal_digit text) (after_number 16 is_hexadecimal_digit) (after 0x78 text)

abbrev pub ended : ℕ → List ℕ → Option ℕ
ended c [] = Some c
ended c (b ∷ bs) = None

-- the Char of a character reference that is the whole text
unfoldable pub numbered : List ℕ → Option ℕ
numbered text = after 0x26 text >>= λ s. after 0x23 s >>= λ h. after_char_ref h >>= λ x. ended x.0 x.1

-- behind the `&` of an entity reference
abbrev pub entity_step : List ℕ → Option (TokenKind × List ℕ)
entity_step text = after_ncname text >>= λ n. after 0x3B n >>= λ r. Some (entity_ref, r)

-- behind the `&#` of a character reference
abbrev pub number_step : List ℕ → Option (TokenKind × List ℕ)
number_step text = after_char_ref text >>= λ x. Some (char_ref, x.1)

-- the kind of the reference at the front, and what follows it
unfoldable pub reference : List ℕ → Option (TokenKind × List ℕ)
reference text = after 0x26 text >>= λ s. maybe (entity_step s) number_step (after 0x23 s)

abbrev pub is_no_ampersand : ℕ → Bool
is_no_ampersand b = not (b == 0x26)

-- each `&` begins a reference
abbrev pub references_stand : List ℕ → Bool
references_stand [] = true
references_stand (b ∷ bs) = (if b == 0x26 then is_found (reference (b ∷ bs)) else true) && references_stand bs

abbrev pub is_attr_char : ℕ → Bool
is_attr_char c = is_char c && not (c == 0x3C)

-- what may stand between quotes, but for the quotes
abbrev pub is_value : List ℕ → Bool
is_value text = list_all is_attr_char (chars text) && references_stand text

-- what follows a value and its second quote q
abbrev pub after_value : ℕ → List ℕ → Option (List ℕ)
after_value q text = if is_value (take_while (λ b. not (b == q)) text) then after q (drop_while (λ b. not (b == q)) text) else None

-- what follows a value in quotes
abbrev pub after_quoted : List ℕ → Option (List ℕ)
after_quoted [] = None
after_quoted (b ∷ bs) = if b == 0x22 || b == 0x27 then after_value b bs else None

-- what is left when a step is taken as often as it can be, at most n times
abbrev pub many_in : ℕ → (List ℕ → Option (List ℕ)) → List ℕ → List ℕ
many_in zero f s = s
many_in (suc n) f s = maybe s (many_in n f) (f s)

unfoldable pub many : (List ℕ → Option (List ℕ)) → List ℕ → List ℕ
many f s = many_in (length s) f s

-- one byte more before a cut
abbrev pub longer_by : ℕ → Option (List ℕ × List ℕ) → Option (List ℕ × List ℕ)
longer_by b None = None
longer_by b (Some x) = Some (b ∷ x.0, x.1)

-- the cut of a text that begins with the byte, from that behind it, and what follows the needle if it stands in front
abbrev pub cut_either : ℕ → Option (List ℕ × List ℕ) → Option (List ℕ) → Option (List ℕ × List ℕ)
cut_either b later None = longer_by b later
cut_either b later (Some r) = Some ([], r)

-- what stands before the first place where the needle stands, and what follows it there
abbrev pub cut : List ℕ → List ℕ → Option (List ℕ × List ℕ)
cut needle [] = None
cut needle (b ∷ bs) = cut_either b (cut needle bs) (after_all needle (b ∷ bs))

abbrev pub are_chars : List ℕ → Bool
are_chars text = list_all is_char (chars text)

-- what follows Chars and the needle that ends them, where it first stands
unfoldable pub after_chars : List ℕ → List ℕ → Option (List ℕ)
after_chars needle text = cut needle text >>= λ x. if are_chars x.0 then Some x.1 else None

-- what stands between quotes, and what follows them
abbrev pub quoted : List ℕ → Option (List ℕ × List ℕ)
quoted = read_quoted

-- what follows the needle where it first stands
abbrev pub after_first : List ℕ → List ℕ → Option (List ℕ)
after_first needle text = cut needle text >>= λ x. Some x.1

-- behind a `<` of a subset: what follows a comment, a PI, or the byte alone
unfoldable pub after_less : List ℕ → Option (List ℕ)
after_less text = maybe (maybe (Some text) (after_first (codes "?>")) (after 0x3F text)) (after_first (codes "-->")) (after_all (codes "!--") text)

-- a literal, or what begins with `<`
unfoldable pub after_marked : List ℕ → Option (List ℕ)
after_marked text = maybe (quoted text >>= λ x. Some x.1) after_less (after 0x3C text)

-- a byte of a subset that begins nothing
abbrev pub is_plain_in_subset : ℕ → Bool
is_plain_in_subset b = not (is_quote_or_end b || b == 0x3C)

-- one part of a subset
abbrev pub after_subset_part : List ℕ → Option (List ℕ)
after_subset_part [] = None
after_subset_part (b ∷ bs) = if is_plain_in_subset b then Some bs else after_marked (b ∷ bs)

-- what follows a subset in brackets
abbrev pub after_bracketed : List ℕ → Option (List ℕ)
after_bracketed text = after 0x5B text >>= λ s. after 0x5D (many after_subset_part s)

-- what follows the target of a PI
abbrev pub after_target : List ℕ → Option (List ℕ)
after_target text =
    if are_ncname_chars (chars (take_while is_name_byte text)) && not (is_reserved (take_while is_name_byte text)) then Some (drop_while is_name_byte text) else None

-- behind the target: what follows the end
unfoldable pub after_data : List ℕ → Option (List ℕ)
after_data text = maybe (after_space text >>= λ d. after_chars (codes "?>") text) Some (after_all (codes "?>") text)
