-- A front that is read is read so before another rest: only character data depends on what follows it.
use Rattle.std.proofs.Common.{◌≡◌, ◌∙◌, ℕ, List, [], ◌++◌, length, drop, refl, sym, ap, subst, append_assoc, inl, inr}
use Rattle.std.proofs.lemmas.List.{drop_at, append_cancel_right}
use Rattle.xt_spec.specs.Token.{char_data, IsFront}
use Rattle.xt_lex.specs.Place.{Follows}
use Rattle.xt_lex.proofs.Theorems.{kinds, markup_begins}
use Rattle.xt_read.specs.Run.{Tok, tok_text, IsToken, State, Passes, here, past}
use Rattle.xt_read.proofs.Tokens.{token_some}
use Rattle.xt_read.proofs.Complete.{stands}
use Rattle.xt_read.proofs.Sound.{NoData, no_data_after, longest_of, spelled_text, split_front}

-- a token that is no character data begins as what may follow character data
pub follows_token : (tok : Tok) (text rest : List ℕ) → IsToken tok text → NoData text → Follows (tok_text tok ++ rest)
follows_token tok text rest is none = elim (kinds is.kind) [
  | inl is_data ↦ absurd (none (length (tok_text tok)) (subst (λ k. IsFront k (length (tok_text tok)) text) is_data is.longest.front))
  | inr delimited ↦
      let (b, tail, e, begins) = markup_begins is.kind (tok_text tok) (spelled_text tok text is) delimited in
      subst (λ t. Follows (t ++ rest)) (sym e) begins
]

-- The front of a text that is read: before another rest it is read to the same state. Where character data may end the
-- front, the other rest begins with what may follow it.
record IsFrontRead (s u : State) (text rest : List ℕ) : Type 0 where
  front : List ℕ
  splits : text ≡ front ++ rest
  follows : (other : List ℕ) → (NoData rest → Follows other) → NoData text → Follows (front ++ other)
  passes : (other : List ℕ) → (NoData rest → Follows other) → Passes s (front ++ other) u other

front_read : (s u : State) (text rest : List ℕ) → Passes s text u rest → IsFrontRead s u text rest
front_read s u text rest (here s' text') = record { front = []; splits = refl; follows = λ other follows. follows; passes = λ other follows. here s other }
front_read s u text rest (past s' t u' text' rest' tok is steps others) =
    let inner = front_read t u (drop (length (tok_text tok)) text) rest others in
    let joined = λ (other : List ℕ). append_assoc (tok_text tok) inner.front other in
    record {
      front = tok_text tok ++ inner.front;
      splits = sym (split_front tok text is) ∙ ap (λ r. tok_text tok ++ r) inner.splits ∙ sym (joined rest);
      follows = λ other follows none. subst Follows (sym (joined other)) (follows_token tok text (inner.front ++ other) is none);
      passes = λ other follows.
          let behind = λ (is_data : is.kind ≡ char_data). inner.follows other follows (no_data_after text (length (tok_text tok)) (token_some tok text is) (longest_of is.kind char_data text (length (tok_text tok)) is_data is.longest)) in
          let again : IsToken tok (tok_text tok ++ (inner.front ++ other)) = stands tok is.kind (inner.front ++ other) (spelled_text tok text is) behind is.of_kind in
          let on : Passes t (drop (length (tok_text tok)) (tok_text tok ++ (inner.front ++ other))) u other =
          subst (λ r. Passes t r u other) (sym (drop_at (tok_text tok) (inner.front ++ other) (length (tok_text tok)) refl)) (inner.passes other follows) in
          subst (λ x. Passes s x u other) (sym (joined other)) (past s t u (tok_text tok ++ (inner.front ++ other)) other tok again steps on);
    }

-- what was read before one rest is read before another
pub passes_before : (s u : State) (front rest other : List ℕ) → Passes s (front ++ rest) u rest → (NoData rest → Follows other) → Passes s (front ++ other) u other
passes_before s u front rest other passes follows =
    let own = front_read s u (front ++ rest) rest passes in
    let same : own.front ≡ front = append_cancel_right own.front front rest (sym own.splits) in
    subst (λ f. Passes s (f ++ other) u other) same (own.passes other follows)
