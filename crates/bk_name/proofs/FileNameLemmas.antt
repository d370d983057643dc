-- What `is_file_name` says, and that a text is bytes.
use Rattle.std.proofs.Common.{◌≡◌, ℕ, ◌+◌, ◌/◌, ◌%◌, ◌<◌, true, false, ltb, ◌&&◌, List, [], ◌∷◌, length, All, ap, subst, ⊎_elim, arith}
use Rattle.std.specs.Prelude.{IsUtf8, nat_le}
use Rattle.std.specs.Str.{is_utf8}
use Rattle.std.proofs.Math.Utf8.{encode, encodes, scalar, scalars, scalar_cases}
use Rattle.std.proofs.lemmas.Bool.{cond_both, and_parts, cases_Bool}
use Rattle.std.proofs.lemmas.Bool.Decides.{nat_tests}
use Rattle.std.proofs.lemmas.List.Elements.{All-nil, All-cons, All-append}
use Rattle.std.proofs.lemmas.Str.{IsUtf8-from_is_utf8, is_utf8-from_IsUtf8}
use Rattle.percent_encoding.proofs.PercentLemmas.{IsByte}
use Rattle.bk_name.specs.FileName.{is_file_name, are_segments}

-- a text is a name where it is short and each part is a segment
pub is_file_name-text : (text : List ℕ) → IsUtf8 text → is_file_name text ≡ (nat_le (length text) 255 && are_segments text)
unfolding is_file_name
is_file_name-text text utf8 = ap (λ b. b && nat_le (length text) 255 && are_segments text) (is_utf8-from_IsUtf8 text utf8)

-- bytes that are no text are no name
pub is_file_name-no_text : (bytes : List ℕ) → ¬ (IsUtf8 bytes) → is_file_name bytes ≡ false
unfolding is_file_name
is_file_name-no_text bytes other =
    ⊎_elim (λ utf8. absurd (other (IsUtf8-from_is_utf8 bytes utf8)))
    (λ none. ap (λ b. b && nat_le (length bytes) 255 && are_segments bytes) none) (cases_Bool _)

pub record IsTextOfSegments (name : List ℕ) : Type 0 where
  pub utf8 : is_utf8 name ≡ true
  pub short : nat_le (length name) 255 ≡ true
  pub segments : are_segments name ≡ true

-- ---- a text is bytes

one_byte : (a : ℕ) → a < 256 → All IsByte (a ∷ [])
one_byte a small = All-cons IsByte a [] small (All-nil IsByte)

two_bytes : (a b : ℕ) → a < 256 → b < 256 → All IsByte (a ∷ b ∷ [])
two_bytes a b first second = All-cons IsByte a (b ∷ []) first (one_byte b second)

three_bytes : (a b d : ℕ) → a < 256 → b < 256 → d < 256 → All IsByte (a ∷ b ∷ d ∷ [])
three_bytes a b d first second third = All-cons IsByte a (b ∷ d ∷ []) first (two_bytes b d second third)

four_bytes : (a b d e : ℕ) → a < 256 → b < 256 → d < 256 → e < 256 → All IsByte (a ∷ b ∷ d ∷ e ∷ [])
four_bytes a b d e first second third fourth = All-cons IsByte a (b ∷ d ∷ e ∷ []) first (three_bytes b d e second third fourth)

next_small : (bits : ℕ) → 128 + bits % 64 < 256
next_small bits = omega arith

encode_bytes : (c : ℕ) → c < 1114112 → All IsByte (encode c)
unfolding encode
encode_bytes c small =
    cond_both (ltb c 128) _ _ (All IsByte) (λ ascii. one_byte c (grind (arith, nat_tests)))
    (λ _. cond_both (ltb c 2048) _ _ (All IsByte)
    (λ two. two_bytes (192 + c / 64) (128 + c % 64) (grind (arith, nat_tests)) (next_small c))
    (λ _. cond_both (ltb c 65536) _ _ (All IsByte)
    (λ three. three_bytes (224 + c / 4096) (128 + c / 64 % 64) (128 + c % 64) (grind (arith, nat_tests)) (next_small (c / 64)) (next_small c))
    (λ _. four_bytes (240 + c / 262144) (128 + c / 4096 % 64) (128 + c / 64 % 64) (128 + c % 64) (omega arith) (next_small (c / 4096)) (next_small (c / 64)) (next_small c))))

encodes_bytes : (cs : List ℕ) → scalars cs ≡ true → All IsByte (encodes cs)
encodes_bytes [] all = All-nil IsByte
encodes_bytes (c ∷ cs) all =
    let both = and_parts (scalar c) (scalars cs) all in
    let small : c < 1114112 = ⊎_elim (λ low. omega arith) (λ high. high.1) (scalar_cases c both.0) in
    All-append IsByte (encode c) (encodes cs) (encode_bytes c small) (encodes_bytes cs both.1)

pub text_bytes : (bs : List ℕ) → IsUtf8 bs → All IsByte bs
text_bytes bs utf8 = subst (All IsByte) utf8.1.1 (encodes_bytes utf8.0 utf8.1.0)

-- the three tests of a name
pub file_name_parts : (name : List ℕ) → is_file_name name ≡ true → IsTextOfSegments name
unfolding is_file_name
file_name_parts name is =
    let outer = and_parts (is_utf8 name && nat_le (length name) 255) (are_segments name) is in
    let inner = and_parts (is_utf8 name) (nat_le (length name) 255) outer.0 in
    record { utf8 = inner.0; short = inner.1; segments = outer.1 }

-- a name is bytes
pub name_bytes : (name : List ℕ) → is_file_name name ≡ true → All IsByte name
name_bytes name is = text_bytes name (IsUtf8-from_is_utf8 name (file_name_parts name is).utf8)
