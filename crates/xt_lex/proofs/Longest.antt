-- A text that spells a token is the longest one at the front of itself and what follows it.
use Rattle.std.proofs.Common.{◌≡◌, ℕ, ◌+◌, ◌<◌, List, [], ◌∷◌, ◌++◌, length, get_or, take, drop, refl, ap, sym, subst, ◌∙◌, arith, inl, inr}
use Rattle.std.proofs.lemmas.Bool.{cases_lt}
use Rattle.std.proofs.lemmas.List.{length-append, length-drop, take_at, get_or-take, get_or_at, get_or_append_left, length-take-le}
use Rattle.xt_spec.specs.Token.{TokenKind, char_data, Spells, HoldsNoClose, NoCloseBelow, IsFront, IsLongestFront}
use Rattle.xt_lex.specs.Data.{IsDelimiter}
use Rattle.xt_lex.specs.Place.{Follows}
use Rattle.xt_lex.proofs.DataLemmas.{close_reads, close_from_reads, cut_close}
use Rattle.xt_lex.proofs.Fronts.{IsMarkup, kinds, markup_begins, markup_again, markup_front, stands_markup, begins_delimiter, chars_begin, plain_bytes}
use Rattle.xt_lex.proofs.References.{pair_parts}

begins_at : (t rest : List ℕ) (b : ℕ) (x : List ℕ) → t ≡ b ∷ x → IsDelimiter b → IsDelimiter (get_or (t ++ rest) 0 0)
begins_at t rest b x e is = let first : get_or (t ++ rest) 0 0 ≡ b = ap (λ t. get_or (t ++ rest) 0 0) e in subst IsDelimiter (sym first) is

markup_token : (kind : TokenKind) (t rest : List ℕ) → Spells kind t → IsMarkup kind → IsLongestFront (t ++ rest) kind (length t)
markup_token kind t rest h d =
    let first = markup_begins kind t h d in
    let begins = begins_at t rest first.0 first.1 first.2 first.3 in
    let again = markup_again t rest kind h d in
    let sizes = length-append t rest in
    record {
      front = record {
        within = omega arith;
        spelled = subst (Spells kind) (sym (take_at t rest (length t) refl)) h;
        stands = stands_markup kind (length t) (t ++ rest) d;
      };
      longest = λ other m f.
          let found = markup_front (t ++ rest) other m begins f in
          let both = pair_parts other kind (drop m (t ++ rest)) rest (sym found ∙ again) in
          let within = f.within in
          (both.0, omega (arith, ap length both.1, length-drop m (t ++ rest)));
    }

follows_delimiter : (t rest : List ℕ) → Follows rest → length t < length (t ++ rest) → IsDelimiter (get_or (t ++ rest) (length t) 0)
follows_delimiter t [] follows more = absurd (omega (arith, length-append t []))
follows_delimiter t (b ∷ bs) follows more = subst IsDelimiter (sym (get_or_at t b bs 0 (length t) refl)) follows

inside : (t rest : List ℕ) (k b : ℕ) → k < length t → get_or (t ++ rest) k 0 ≡ b → get_or t k 0 ≡ b
inside t rest k b below e = sym (get_or_append_left t rest 0 k below) ∙ e

no_close : (t rest : List ℕ) → HoldsNoClose t → Follows rest → NoCloseBelow (length t) (t ++ rest)
no_close t rest holds follows k below closes =
    let s = t ++ rest in
    let reads = close_reads s k closes in
    let sizes = length-append t rest in
    elim (cases_lt (k + 2) (length t)) [
      | inl within ↦ holds k (close_from_reads t k (omega arith) (inside t rest k 93 below reads.0) (inside t rest (k + 1) 93 (omega arith) reads.1) (inside t rest (k + 2) 62 within reads.2))
      | inr past ↦ cut_close s (length t) k (omega arith) below past (follows_delimiter t rest follows) reads.1 reads.2
    ]

data_token : (t rest : List ℕ) → Spells char_data t → Follows rest → IsLongestFront (t ++ rest) char_data (length t)
data_token t rest h follows =
    let s = t ++ rest in
    let sizes = length-append t rest in
    let front : IsFront char_data (length t) s = record {
      within = omega arith;
      spelled = subst (Spells char_data) (sym (take_at t rest (length t) refl)) h;
      stands = no_close t rest h.4 follows;
    } in
    record {
      front = front;
      longest = λ other m f. elim (kinds other) [
        | inl e ↦ (
          e,
          elim (cases_lt (length t) m) [
            | inl more ↦
                let g : IsFront char_data m s = subst (λ k. IsFront k m s) e f in
                let within = f.within in
                let size = length-take-le m s within in
                let delimiter = follows_delimiter t rest follows (omega arith) in
                absurd (plain_bytes g.spelled.0 (take m s) (sym g.spelled.3) g.spelled.2 (length t) (omega arith) (subst IsDelimiter (sym (get_or-take m s (length t) 0 more)) delimiter))
            | inr le ↦ le
          ],
        )
        | inr d ↦ absurd ((chars_begin s (length t) front).1 (begins_delimiter s other m f d))
      ];
    }

pub token_longest : (kind : TokenKind) (t rest : List ℕ) → Spells kind t → (kind ≡ char_data → Follows rest) → IsLongestFront (t ++ rest) kind (length t)
token_longest kind t rest h follows = elim (kinds kind) [
  | inl e ↦ subst (λ k. IsLongestFront (t ++ rest) k (length t)) (sym e) (data_token t rest (subst (λ k. Spells k t) e h) (follows e))
  | inr d ↦ markup_token kind t rest h d
]
