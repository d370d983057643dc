-- What a read of bytes in memory takes.
use Rattle.std.proofs.Common.{◌≡◌, ℕ, ◌+◌, ◌≤◌, min, List, ◌++◌, length, take, drop, sym, ◌∙◌, ap, subst, arith, length-append}
use Rattle.std.proofs.lemmas.List.{take-append-drop, take_at, length-take, length-drop, drop-drop, nil_from_length}
use Rattle.bk_desk.specs.Source.{IsFront}

-- a read of `count` bytes from `at` on, into the front of the buffer
pub reads_front : (bytes buffer : List ℕ) (at piece count : ℕ) (now : List ℕ) → 1 ≤ piece → count ≡ min (min (length (drop at bytes)) piece) (length buffer) → now ≡ take count (drop at bytes)
    → IsFront (drop at bytes) (drop (at + count) bytes) (now ++ drop count buffer) count
reads_front bytes buffer at piece count now some is copied =
    subst (λ (rest : List ℕ). IsFront (drop at bytes) rest (now ++ drop count buffer) count) (drop-drop count at bytes)
    (subst (λ (front : List ℕ). IsFront (drop at bytes) (drop count (drop at bytes)) (front ++ drop count buffer) count) (sym copied) record {
      parts = sym (ap (λ (l : List ℕ). l ++ drop count (drop at bytes)) (take_at (take count (drop at bytes)) (drop count buffer) count (omega (arith, length-take count (drop at bytes)))) ∙ take-append-drop count (drop at bytes));
      «end» = λ room none. nil_from_length (drop at bytes) (omega (arith, room, none, length-append (take count (drop at bytes)) (drop count buffer), length-take count (drop at bytes), length-drop count buffer));
    })
