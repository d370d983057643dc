-- Words between spaces, from left to right.
use Rattle.std.proofs.Common.{not, ◌≡◌, ◌∙◌, ℕ, ◌<◌, List, [], ◌∷◌, ◌++◌, refl, sym, ap, arith, true, false, Bool, inl, inr, append_assoc}
use Rattle.std.proofs.lemmas.Bool.{and_parts}
use Rattle.std.proofs.lemmas.Bool.Decides.{nat_tests}
use Rattle.std.specs.List.{slice_split, join_with_byte, onto_first}
use Rattle.xt_spec.specs.Value.{without_empty}
use Rattle.xt_value.specs.Parts.{lacks_all, Stops, IsCut}
use Rattle.xt_value.specs.Tokens.{is_blank, tokens, with_token, with_tokens}

from_not : (b : Bool) → not b ≡ true → b ≡ false
from_not true is = let bad : false ≡ true = is in absurd (cc)
from_not false is = refl

-- a front without spaces belongs to the first word
front_split : (front rest : List ℕ) (others : List (List ℕ)) → lacks_all is_blank front ≡ true → slice_split is_blank rest ≡ [] ∷ others → slice_split is_blank (front ++ rest) ≡ front ∷ others
front_split [] rest others lacks is = is
front_split (b ∷ front) rest others lacks is =
    let both = and_parts (not (is_blank b)) (lacks_all is_blank front) lacks in
    let plain : is_blank b ≡ false = from_not (is_blank b) both.0 in
    rw plain (ap (onto_first b) (front_split front rest others both.1 is))

-- a word, and then others; an empty one counts nothing
abbrev with_word : List ℕ → List (List ℕ) → List (List ℕ)
with_word word words = without_empty (word ∷ words)

none_more : without_empty ([] ∷ []) ≡ []
none_more = refl

-- what follows the space, or nothing
abbrev pub Follows : List ℕ → List ℕ → Type 0
Follows rest behind = (rest ≡ [] → behind ≡ []) × ((b : ℕ) (bytes : List ℕ) → rest ≡ b ∷ bytes → b < 128 → behind ≡ bytes)

blank_small : (b : ℕ) → is_blank b ≡ true → b < 128
blank_small b is = grind (arith, nat_tests)

blank_splits : (b : ℕ) (bytes : List ℕ) → is_blank b ≡ true → slice_split is_blank (b ∷ bytes) ≡ [] ∷ slice_split is_blank bytes
blank_splits b bytes is = rw is refl

pub tokens_step : (text word rest behind : List ℕ) → IsCut is_blank text word rest → Follows rest behind → tokens text ≡ with_word word (slice_split is_blank behind)
tokens_step text word rest behind cut follows = ap (λ (l : List ℕ). tokens l) (sym cut.joined) ∙ by cut.stops
  where
    last : (word : List ℕ) → without_empty (word ∷ []) ≡ with_word word ([] ∷ [])
    last [] = refl
    last (b ∷ word) = refl

    by : Stops is_blank rest → tokens (word ++ rest) ≡ with_word word (slice_split is_blank behind)
    by (inl none) =
        let split : slice_split is_blank (word ++ rest) ≡ word ∷ [] = front_split word rest [] cut.lacks (ap (slice_split is_blank) none) in
        ap without_empty split ∙ last word ∙ ap (λ (l : List ℕ). with_word word (slice_split is_blank l)) (sym (follows.0 none))
    by (inr (b, bytes, begins, is)) =
        let split : slice_split is_blank (word ++ rest) ≡ word ∷ slice_split is_blank bytes = front_split word rest (slice_split is_blank bytes) cut.lacks (ap (slice_split is_blank) begins ∙ blank_splits b bytes is) in
        ap without_empty split ∙ ap (λ (l : List ℕ). with_word word (slice_split is_blank l)) (sym (follows.1 b bytes begins (blank_small b is)))

-- one more word that isn't empty
one_more : (out : List ℕ) (b : ℕ) (word : List ℕ) (words : List (List ℕ)) → with_tokens out ((b ∷ word) ∷ words) ≡ with_tokens (with_token out (b ∷ word)) words
one_more [] b word [] = refl
one_more [] b word (next ∷ words) = refl
one_more (a ∷ out) b word [] = refl
one_more (a ∷ out) b word (next ∷ words) = sym (append_assoc (a ∷ out) (0x20 ∷ b ∷ word) (0x20 ∷ join_with_byte 0x20 (next ∷ words)))

pub word_put : (old new word : List ℕ) (words : List (List ℕ)) → new ≡ with_token old word → with_tokens old (without_empty (word ∷ words)) ≡ with_tokens new (without_empty words)
word_put old new [] words is = ap (λ (l : List ℕ). with_tokens l (without_empty words)) (sym is)
word_put old new (b ∷ word) words is = one_more old b word (without_empty words) ∙ ap (λ (l : List ℕ). with_tokens l (without_empty words)) (sym is)

pub next_put : (text word rest behind old new : List ℕ) → IsCut is_blank text word rest → Follows rest behind → new ≡ with_token old word → with_tokens old (tokens text) ≡ with_tokens new (tokens behind)
next_put text word rest behind old new cut follows is =
    ap (with_tokens old) (tokens_step text word rest behind cut follows) ∙ word_put old new word (slice_split is_blank behind) is
