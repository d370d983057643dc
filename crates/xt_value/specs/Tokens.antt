-- Tokens of a value, from left to right. XML 1.0 (Fifth Edition), section 3.3.3.
--
--   tokens      the words between spaces, without the empty ones
--   with_token  what was put, and one more word
--   with_tokens .. and more of them
use Rattle.std.specs.Prelude.{ℕ, Bool, ◌==◌, List, [], ◌∷◌, ◌++◌}
use Rattle.std.specs.List.{slice_split, join_with_byte}
use Rattle.xt_spec.specs.Value.{without_empty}

abbrev pub is_blank : ℕ → Bool
is_blank b = b == 0x20

abbrev pub tokens : List ℕ → List (List ℕ)
tokens value = without_empty (slice_split is_blank value)

abbrev pub with_token : List ℕ → List ℕ → List ℕ
with_token out [] = out
with_token [] (b ∷ word) = b ∷ word
with_token (a ∷ out) (b ∷ word) = (a ∷ out) ++ 0x20 ∷ b ∷ word

abbrev pub with_tokens : List ℕ → List (List ℕ) → List ℕ
with_tokens out [] = out
with_tokens [] (word ∷ words) = join_with_byte 0x20 (word ∷ words)
with_tokens (a ∷ out) (word ∷ words) = (a ∷ out) ++ 0x20 ∷ join_with_byte 0x20 (word ∷ words)
