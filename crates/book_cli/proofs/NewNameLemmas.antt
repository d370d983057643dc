-- The path of a new file names no file of a book.
use Rattle.std.proofs.Common.{◌≡◌, ◌∙◌, ℕ, Bool, true, false, ◌&&◌, ◌||◌, ◌==◌, List, [], ◌∷◌, ◌++◌, length, refl, ap, ⊎_elim}
use Rattle.std.specs.Prelude.{codes, nat_le, nat_eq, bytes_eq, not}
use Rattle.std.specs.List.{list_all, onto_first, slice_split, starts_with}
use Rattle.std.proofs.lemmas.List.{append_assoc}
use Rattle.std.specs.Str.{is_utf8}
use Rattle.std.proofs.Math.Bool.{and-false, or-true}
use Rattle.std.proofs.lemmas.Bool.{cases_Bool}
use Rattle.std.proofs.lemmas.List.Splits.{slice_split-cons_yes, slice_split-cons_no}
use Rattle.bk_name.specs.FileName.{is_file_name, is_segment, are_segments, are_file_name_chars}
use Rattle.book_cli.specs.RealFiles.{new_in, new_below}

abbrev is_cut : ℕ → Bool
is_cut b = b == 0x2F

abbrev parts_of : List ℕ → List (List ℕ)
parts_of text = slice_split is_cut text

-- `.burst-new-`, and a text
abbrev reserved : List ℕ → List ℕ
reserved part = 46 ∷ 98 ∷ 117 ∷ 114 ∷ 115 ∷ 116 ∷ 45 ∷ 110 ∷ 101 ∷ 119 ∷ 45 ∷ part

starts_reserved : (part : List ℕ) → starts_with nat_eq (reserved part) (codes ".burst-") ≡ true
starts_reserved part = refl

reserved_is_none : (part : List ℕ) → is_segment (reserved part) ≡ false
reserved_is_none part = ap (λ b. not b && are_file_name_chars (reserved part))
    (ap (λ b. length (reserved part) == 0 || bytes_eq (reserved part) (codes ".") || bytes_eq (reserved part) (codes "..") || b) (starts_reserved part)
    ∙ or-true (length (reserved part) == 0 || bytes_eq (reserved part) (codes ".") || bytes_eq (reserved part) (codes "..")))

first_is_none : (parts : List (List ℕ)) → list_all is_segment (onto_first 46 (onto_first 98 (onto_first 117 (onto_first 114 (onto_first 115 (onto_first 116 (onto_first 45 (onto_first 110 (onto_first 101 (onto_first 119 (onto_first 45 parts))))))))))) ≡ false
first_is_none [] = refl
first_is_none (part ∷ parts) = ap (λ b. b && list_all is_segment parts) (reserved_is_none part)

new_is_none : (last : List ℕ) → are_segments (new_in last) ≡ false
new_is_none last = first_is_none (parts_of last)

-- ---- behind a folder

abbrev later_parts : List (List ℕ) → List (List ℕ)
later_parts [] = []
later_parts (part ∷ parts) = parts

abbrev FailsLater : List (List ℕ) → Type 0
FailsLater parts = list_all is_segment (later_parts parts) ≡ false

fails_onto : (x : ℕ) (parts : List (List ℕ)) → FailsLater parts → FailsLater (onto_first x parts)
fails_onto x [] fails = fails
fails_onto x (part ∷ parts) fails = fails

fails_whole : (parts : List (List ℕ)) → FailsLater parts → list_all is_segment parts ≡ false
fails_whole [] fails = fails
fails_whole (part ∷ parts) fails = ap (λ b. is_segment part && b) fails ∙ and-false (is_segment part)

fails_behind : (folder rest : List ℕ) → are_segments rest ≡ false → FailsLater (parts_of (folder ++ 47 ∷ rest))
fails_behind [] rest fails = fails
fails_behind (x ∷ folder) rest fails = ⊎_elim
    (λ cut. rw (slice_split-cons_yes is_cut x (folder ++ 47 ∷ rest) cut) (fails_whole (parts_of (folder ++ 47 ∷ rest)) (fails_behind folder rest fails)))
    (λ kept. rw (slice_split-cons_no is_cut x (folder ++ 47 ∷ rest) kept) (fails_onto x (parts_of (folder ++ 47 ∷ rest)) (fails_behind folder rest fails)))
    (cases_Bool (is_cut x))

-- ---- names

no_name : (text : List ℕ) → are_segments text ≡ false → is_file_name text ≡ false
unfolding is_file_name
no_name text fails = ap (λ b. is_utf8 text && nat_le (length text) 255 && b) fails ∙ and-false (is_utf8 text && nat_le (length text) 255)

pub new_in_is_no_name : (last : List ℕ) → is_file_name (new_in last) ≡ false
new_in_is_no_name last = no_name (new_in last) (new_is_none last)

pub new_below_is_no_name : (folder last : List ℕ) → is_file_name (new_below folder last) ≡ false
new_below_is_no_name folder last = rw (append_assoc folder (47 ∷ []) (new_in last))
    (no_name (folder ++ 47 ∷ new_in last) (fails_whole (parts_of (folder ++ 47 ∷ new_in last)) (fails_behind folder (new_in last) (new_is_none last))))
