-- A text is a reference to a predefined entity, or none.
use Rattle.std.proofs.Common.{◌≡◌, ℕ, List, refl, ◌⊎◌, inl, inr, false, bytes_eq, codes}
use Rattle.std.proofs.lemmas.Bool.{cases_Bool, both_ways}
use Rattle.std.proofs.lemmas.Slice.Eq.{bytes_eq-Decides}
use Rattle.xt_spec.specs.Reference.{IsPredefined}

pub is_predefined : (t : List ℕ) → ((c : ℕ) × IsPredefined t c) ⊎ ((c : ℕ) → ¬ IsPredefined t c)
is_predefined t = elim (cases_Bool (bytes_eq t (codes "&lt;"))) [
  | inl is ↦ inl (0x3C, inl ((bytes_eq-Decides t (codes "&lt;")).0 is, refl))
  | inr a ↦ elim (cases_Bool (bytes_eq t (codes "&gt;"))) [
    | inl is ↦ inl (0x3E, inr (inl ((bytes_eq-Decides t (codes "&gt;")).0 is, refl)))
    | inr b ↦ elim (cases_Bool (bytes_eq t (codes "&amp;"))) [
      | inl is ↦ inl (0x26, inr (inr (inl ((bytes_eq-Decides t (codes "&amp;")).0 is, refl))))
      | inr c ↦ elim (cases_Bool (bytes_eq t (codes "&apos;"))) [
        | inl is ↦ inl (0x27, inr (inr (inr (inl ((bytes_eq-Decides t (codes "&apos;")).0 is, refl)))))
        | inr d ↦ elim (cases_Bool (bytes_eq t (codes "&quot;"))) [
          | inl is ↦ inl (0x22, inr (inr (inr (inr ((bytes_eq-Decides t (codes "&quot;")).0 is, refl)))))
          | inr e ↦ inr (never a b c d e)
        ]
      ]
    ]
  ]
]
  where
    apart : (u : List ℕ) → bytes_eq t u ≡ false → t ≡ u → ⊥
    apart u unlike is = both_ways (bytes_eq t u) unlike ((bytes_eq-Decides t u).1 is)

    never : bytes_eq t (codes "&lt;") ≡ false → bytes_eq t (codes "&gt;") ≡ false → bytes_eq t (codes "&amp;") ≡ false → bytes_eq t (codes "&apos;") ≡ false → bytes_eq t (codes "&quot;") ≡ false → (c : ℕ) → IsPredefined t c → ⊥
    never a b c d e n (inl is) = apart (codes "&lt;") a is.0
    never a b c d e n (inr (inl is)) = apart (codes "&gt;") b is.0
    never a b c d e n (inr (inr (inl is))) = apart (codes "&amp;") c is.0
    never a b c d e n (inr (inr (inr (inl is)))) = apart (codes "&apos;") d is.0
    never a b c d e n (inr (inr (inr (inr is)))) = apart (codes "&quot;") e is.0
