-- A token that may not stand is in no body, whatever follows it. Character data may end earlier before another rest, or go
-- on; then what is left of it stands at the top of a document just the same.
use Rattle.std.proofs.Common.{◌≡◌, ◌∙◌, ℕ, suc, ◌<◌, List, [], ◌∷◌, ◌++◌, length, get_or, drop, refl, sym, ap, subst, arith, Some, None, Option, Bool, true, false, ◌&&◌, if◌then◌else◌, append_assoc, ◌⊎◌, inl, inr}
use Rattle.std.proofs.lemmas.List.Folds.{list_all-append}
use Rattle.std.specs.List.{list_all}
use Rattle.xt_lex.specs.Data.{IsDelimiter}
use Rattle.xt_lex.proofs.Theorems.{kinds, not_data, markup_begins, plain_bytes}
use Rattle.xt_spec.specs.Char.{is_space}
use Rattle.xt_spec.specs.Token.{TokenKind, char_data, Spells}
use Rattle.xt_spec.specs.Tree.{Items, leaf_item, gap, source_text}
use Rattle.xt_read.specs.Run.{Body, data_piece, part_piece, reference_piece, comment_piece, pi_piece, declaration_piece, doctype_piece, Tok, start_tok, empty_tok, end_tok, piece_tok, tok_text, IsToken, IsOfKind, State, begin, is_inside, with_item, with_more, step, Reads, IsBody, Passes, here, past}
use Rattle.xt_read.proofs.Runs.{no_step, reads_rest}
use Rattle.xt_read.proofs.Complete.{stands, body_is_read}
use Rattle.xt_read.proofs.Sound.{guarded, spelled_text, split_front}
use Rattle.xt_read.proofs.Continued.{follows_token, passes_before}

-- ---- character data

-- no byte is `<` or `&`
abbrev AllPlain : List ℕ → Type 0
AllPlain [] = Unit {0}
AllPlain (b ∷ bs) = (IsDelimiter b → ⊥) × AllPlain bs

all_plain : (t : List ℕ) → ((i : ℕ) → i < length t → IsDelimiter (get_or t i 0) → ⊥) → AllPlain t
all_plain [] each = tt
all_plain (b ∷ bs) each = (each 0 (omega arith), all_plain bs (λ i below. each (suc i) (omega (arith, below))))

plain_behind : (front t : List ℕ) → AllPlain (front ++ t) → AllPlain t
plain_behind [] t plain = plain
plain_behind (b ∷ bs) t plain = plain_behind bs t plain.1

-- of two fronts of a text one begins with the other
record IsLonger (long short rest behind : List ℕ) : Type 0 where
  tail : List ℕ
  longer : long ≡ short ++ tail
  left : rest ≡ tail ++ behind

either_longer : (a x b y : List ℕ) → a ++ x ≡ b ++ y → IsLonger a b y x ⊎ IsLonger b a x y
either_longer [] x b y e = inr (record { tail = b; longer = refl; left = e })
either_longer (c ∷ a) x [] y e = inl (record { tail = c ∷ a; longer = refl; left = sym e })
either_longer (c ∷ a) x (d ∷ b) y e = by_rest (either_longer a x b y tails)
  where
    tails : a ++ x ≡ b ++ y
    tails = cc

    by_rest : IsLonger a b y x ⊎ IsLonger b a x y → IsLonger (c ∷ a) (d ∷ b) y x ⊎ IsLonger (d ∷ b) (c ∷ a) x y
    by_rest (inl is) = inl (record { tail = is.tail; longer = cc; left = is.left })
    by_rest (inr is) = inr (record { tail = is.tail; longer = cc; left = is.left })

-- a token that is character data is that piece
only_data : (kind : TokenKind) (tok : Tok) → kind ≡ char_data → IsOfKind kind tok → (t : List ℕ) × (tok ≡ piece_tok data_piece t)
only_data kind (start_tok t name names) is_data is = let e = is.0 in absurd (cc)
only_data kind (empty_tok t names) is_data is = let e = is.0 in absurd (cc)
only_data kind (end_tok t name) is_data is = let e = is.0 in absurd (cc)
only_data kind (piece_tok data_piece t) is_data is = (t, refl)
only_data kind (piece_tok part_piece t) is_data (inl is) = absurd (cc)
only_data kind (piece_tok part_piece t) is_data (inr (inl is, c, stands)) = absurd (cc)
only_data kind (piece_tok part_piece t) is_data (inr (inr is, c, stands)) = absurd (cc)
only_data kind (piece_tok reference_piece t) is_data is = let e = is.0 in absurd (cc)
only_data kind (piece_tok comment_piece t) is_data is = absurd (cc)
only_data kind (piece_tok pi_piece t) is_data is = absurd (cc)
only_data kind (piece_tok declaration_piece t) is_data is = absurd (cc)
only_data kind (piece_tok doctype_piece t) is_data is = absurd (cc)

-- ---- at the top of a document

data_refused : (inside blank : Bool) (x y : State) → (if inside then Some x else (if blank then Some y else None)) ≡ None → (inside ≡ false) × (blank ≡ false)
data_refused true blank x y none = absurd (let e : ◌≡◌ {A = Option State} (Some x) None = none in cc)
data_refused false true x y none = absurd (let e : ◌≡◌ {A = Option State} (Some y) None = none in cc)
data_refused false false x y none = (refl, refl)

top_data : (inside : Bool) (x y : Option State) (t : State) → inside ≡ false → (if inside then x else y) ≡ Some t → y ≡ Some t
top_data true x y t top steps = absurd (cc)
top_data false x y t top steps = steps

-- character data that is read at the top of a document is white space, and the top goes on behind it
record IsGapTaken (s v : State) (tok : Tok) : Type 0 where
  blank : List ℕ
  text_is : tok_text tok ≡ blank
  is_blank : list_all is_space blank ≡ true
  still : is_inside v ≡ false

gap_taken : (s v : State) (tok : Tok) (text : List ℕ) → (is : IsToken tok text) → step s tok ≡ Some v → is.kind ≡ char_data → is_inside s ≡ false → IsGapTaken s v tok
gap_taken s v tok text is steps is_data top =
    let (d, same) = only_data is.kind tok is_data is.of_kind in
    let taken : step s (piece_tok data_piece d) ≡ Some v = subst (λ k. step s k ≡ Some v) same steps in
    let both = guarded (list_all is_space d) (with_item s (leaf_item gap d)) v (top_data (is_inside s) (Some (with_more s d)) _ v top taken) in
    record { blank = d; text_is = ap tok_text same; is_blank = both.0; still = subst (λ v. is_inside v ≡ false) both.1 top }

-- what is not white space alone, behind white space and in front of anything
no_blank_behind : (a b : List ℕ) → list_all is_space a ≡ true → list_all is_space (a ++ b) ≡ false → list_all is_space b ≡ false
no_blank_behind a b blank isnt = sym (ap (λ x. x && list_all is_space b) blank) ∙ sym (list_all-append is_space a b) ∙ isnt

no_blank_front : (a b : List ℕ) → list_all is_space a ≡ false → list_all is_space (a ++ b) ≡ false
no_blank_front a b isnt = list_all-append is_space a b ∙ ap (λ x. x && list_all is_space b) isnt

-- what begins with character data, not all of it white space, is not read at the top of a document
no_data_at_top : (s u : State) (text t rest : List ℕ) → Reads s text u → text ≡ t ++ rest → is_inside s ≡ false → list_all is_space t ≡ false → AllPlain t → ⊥
no_data_at_top s u text [] rest run e top isnt plain = absurd (let mixed : true ≡ false = isnt in cc)
no_data_at_top s u text (b ∷ bs) rest (here s' t0') e top isnt plain = absurd (let empty : [] ≡ b ∷ (bs ++ rest) = e in cc)
no_data_at_top s u text (b ∷ bs) rest (past s' v u' text' r0' tok is steps run) e top isnt plain =
    let behind = drop (length (tok_text tok)) text in
    elim (kinds is.kind) [
      | inl is_data ↦
          let found = gap_taken s v tok text is steps is_data top in
          let joined : found.blank ++ behind ≡ (b ∷ bs) ++ rest = ap (λ t. t ++ behind) (sym found.text_is) ∙ split_front tok text is ∙ e in
          elim (either_longer found.blank behind (b ∷ bs) rest joined) [
            | inl long ↦ let blank = found.is_blank in absurd (let none : list_all is_space found.blank ≡ false = ap (list_all is_space) long.longer ∙ no_blank_front (b ∷ bs) long.tail isnt in cc)
            | inr short ↦
                no_data_at_top v u behind short.tail rest run short.left found.still
                (no_blank_behind found.blank short.tail found.is_blank (ap (list_all is_space) (sym short.longer) ∙ isnt)) (plain_behind found.blank short.tail (subst AllPlain short.longer plain))
          ]
      | inr delimited ↦
          let (c, tail, spelled, begins) = markup_begins is.kind (tok_text tok) (spelled_text tok text is) delimited in
          let joined : c ∷ (tail ++ behind) ≡ b ∷ (bs ++ rest) = ap (λ t. t ++ behind) (sym spelled) ∙ split_front tok text is ∙ e in
          let same : c ≡ b = cc in
          absurd (plain.0 (subst IsDelimiter same begins))
    ]

-- ---- the whole

-- a token that may not stand is not read before another rest
stuck : (s u : State) (text rest : List ℕ) (tok : Tok) → IsToken tok text → step s tok ≡ None → Reads s (tok_text tok ++ rest) u → ⊥
stuck s u text rest tok is none run = elim (kinds is.kind) [
  | inl is_data ↦ by_data is_data (only_data is.kind tok is_data is.of_kind)
  | inr delimited ↦ no_step s u (tok_text tok ++ rest) tok (stands tok is.kind rest (spelled_text tok text is) (λ is_data. absurd (not_data is.kind is_data delimited)) is.of_kind) none run
]
  where
    by_data : is.kind ≡ char_data → ((d : List ℕ) × (tok ≡ piece_tok data_piece d)) → ⊥
    by_data is_data (d, same) =
        let text_is : tok_text tok ≡ d = ap tok_text same in
        let refused = data_refused (is_inside s) (list_all is_space d) (with_more s d) (with_item s (leaf_item gap d)) (subst (λ k. step s k ≡ None) same none) in
        let spelled : Spells char_data d = subst (λ t. Spells char_data t) text_is (subst (λ k. Spells k (tok_text tok)) is_data (spelled_text tok text is)) in
        no_data_at_top s u (tok_text tok ++ rest) d rest run (ap (λ t. t ++ rest) text_is) refused.0 refused.1 (all_plain d (plain_bytes spelled.0 d (sym spelled.3) spelled.2))

-- A token that may not stand is in no body, whatever follows it.
pub misplaced_ends : (body : Body) (front rest behind : List ℕ) (s : State) (tok : Tok) (items : Items) → Passes (begin body) (front ++ rest) s rest → IsToken tok rest → step s tok ≡ None
    → IsBody body items → source_text items ≡ front ++ tok_text tok ++ behind → ⊥
misplaced_ends body front rest behind s tok items passes is none list joined =
    let other = tok_text tok ++ behind in
    let on = passes_before (begin body) s front rest other passes (λ no_data. follows_token tok rest behind is no_data) in
    let read = body_is_read body (front ++ other) items list (joined ∙ append_assoc front (tok_text tok) behind) in
    stuck s read.last rest behind tok is none (reads_rest (begin body) s read.last (front ++ other) other on read.reads)
