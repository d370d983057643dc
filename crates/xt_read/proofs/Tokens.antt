-- One token stands at a place: the longest, with the parts of its text.
use Rattle.std.proofs.Common.{◌≡◌, ◌∙◌, ℕ, ◌<◌, ◌≤◌, List, [], ◌++◌, length, take, drop, refl, sym, ap, subst, arith, ◌⊎◌, inl, inr, Bool, true, false, append_assoc, append-nil, codes}
use Rattle.xt_spec.specs.Name.{IsQName}
use Rattle.xt_spec.specs.Tag.{Tag, IsEndTag}
use Rattle.xt_spec.specs.Reference.{IsPredefined, StandsFor}
use Rattle.xt_spec.specs.Reading.{attribute_names}
use Rattle.xt_spec.specs.Token.{TokenKind, start_tag, empty_tag, end_tag, char_data, char_ref, entity_ref, cdata_section, comment, pi, declaration, doctype, Spells}
use Rattle.xt_lex.proofs.Theorems.{front_some, tag_unique, name_unique, end_tag_name_ends, names_no_entity}
use Rattle.xt_lex.specs.Place.{EndsTag}
use Rattle.xt_read.specs.Run.{Piece, data_piece, part_piece, reference_piece, comment_piece, pi_piece, declaration_piece, doctype_piece, Tok, start_tok, empty_tok, end_tok, piece_tok, tok_text, IsToken, IsPiece, IsOfKind, AreTagNames}

-- a token takes bytes
pub token_some : (tok : Tok) (text : List ℕ) → IsToken tok text → 0 < length (tok_text tok)
token_some tok text is = front_some text is.kind (length (tok_text tok)) is.longest.front

pub token_within : (tok : Tok) (text : List ℕ) → IsToken tok text → length (tok_text tok) ≤ length text
token_within tok text is = is.longest.front.within

names_unique : (t u end n m : List ℕ) (ns ms : List (List ℕ)) → EndsTag end → AreTagNames t end n ns → AreTagNames u end m ms → t ≡ u → (n ≡ m) × (ns ≡ ms)
names_unique t u end n m ns ms ends x y same =
    let tags = tag_unique x.tag y.tag end end ends ends x.parts y.parts (sym x.spelled ∙ same ∙ y.spelled) in
    (x.is_name ∙ ap (λ (t : Tag). t.name) tags.0 ∙ sym y.is_name, x.are_names ∙ ap attribute_names tags.0 ∙ sym y.are_names)

end_pieces : (name blank : List ℕ) → (codes "</" ++ name) ++ blank ++ codes ">" ≡ codes "</" ++ (name ++ (blank ++ (codes ">" ++ [])))
end_pieces name blank = simp (append_assoc, append-nil)

end_unique : (t u n m : List ℕ) → IsQName n → IsQName m → IsEndTag n t → IsEndTag m u → t ≡ u → n ≡ m
end_unique t u n m p q (blank, is_blank, e) (blank', is_blank', e') same =
    let both = sym (end_pieces n blank) ∙ sym e ∙ same ∙ e' ∙ end_pieces m blank' in
    (name_unique n m (blank ++ (codes ">" ++ [])) (blank' ++ (codes ">" ++ [])) p q (end_tag_name_ends blank [] is_blank) (end_tag_name_ends blank' [] is_blank') (ap (drop 2) both)).0

mixed_up : (kind : TokenKind) (t u : List ℕ) (c : ℕ) → StandsFor t c → kind ≡ entity_ref → ((c : ℕ) → ¬ IsPredefined u c) → Spells kind t → t ≡ u → ⊥
mixed_up kind t u c (inl names) is plain spelled same = names_no_entity t c names (subst (λ k. Spells k t) is spelled)
mixed_up kind t u c (inr predefined) is plain spelled same = plain c (subst (λ t. IsPredefined t c) same predefined)

-- the piece that a kind gives by itself; an entity reference may be either of two
abbrev piece_of : TokenKind → Piece
piece_of start_tag = data_piece
piece_of empty_tag = data_piece
piece_of end_tag = data_piece
piece_of char_data = data_piece
piece_of char_ref = part_piece
piece_of entity_ref = reference_piece
piece_of cdata_section = part_piece
piece_of comment = comment_piece
piece_of pi = pi_piece
piece_of declaration = declaration_piece
piece_of doctype = doctype_piece

-- a piece is the one of its kind, or an entity reference that stands for a character
by_kind : (kind : TokenKind) (piece : Piece) (text : List ℕ) → IsPiece kind piece text → (piece_of kind ≡ piece) ⊎ ((piece ≡ part_piece) × (kind ≡ entity_ref) × (c : ℕ) × StandsFor text c)
by_kind kind data_piece text is = inl (ap piece_of is)
by_kind kind part_piece text (inl is) = inl (ap piece_of is)
by_kind kind part_piece text (inr (inl is, c, stands)) = inl (ap piece_of is)
by_kind kind part_piece text (inr (inr is, c, stands)) = inr (refl, is, c, stands)
by_kind kind reference_piece text is = inl (ap piece_of is.0)
by_kind kind comment_piece text is = inl (ap piece_of is)
by_kind kind pi_piece text is = inl (ap piece_of is)
by_kind kind declaration_piece text is = inl (ap piece_of is)
by_kind kind doctype_piece text is = inl (ap piece_of is)

-- a tag's kind
abbrev is_tag_kind : TokenKind → Bool
is_tag_kind start_tag = true
is_tag_kind empty_tag = true
is_tag_kind end_tag = true
is_tag_kind char_data = false
is_tag_kind char_ref = false
is_tag_kind entity_ref = false
is_tag_kind cdata_section = false
is_tag_kind comment = false
is_tag_kind pi = false
is_tag_kind declaration = false
is_tag_kind doctype = false

piece_no_tag : (kind : TokenKind) (piece : Piece) (text : List ℕ) → IsPiece kind piece text → is_tag_kind kind ≡ false
piece_no_tag kind data_piece text is = ap is_tag_kind is
piece_no_tag kind part_piece text (inl is) = ap is_tag_kind is
piece_no_tag kind part_piece text (inr (inl is, c, stands)) = ap is_tag_kind is
piece_no_tag kind part_piece text (inr (inr is, c, stands)) = ap is_tag_kind is
piece_no_tag kind reference_piece text is = ap is_tag_kind is.0
piece_no_tag kind comment_piece text is = ap is_tag_kind is
piece_no_tag kind pi_piece text is = ap is_tag_kind is
piece_no_tag kind declaration_piece text is = ap is_tag_kind is
piece_no_tag kind doctype_piece text is = ap is_tag_kind is

no_piece : (kind tag : TokenKind) (piece : Piece) (text : List ℕ) → IsPiece kind piece text → is_tag_kind tag ≡ true → kind ≡ tag → ⊥
no_piece kind tag piece text is tags same = let h : true ≡ false = sym tags ∙ ap is_tag_kind (sym same) ∙ piece_no_tag kind piece text is in cc

-- an entity reference that stands for a character is one part of a text, and no other piece
only_part : (kind : TokenKind) (t u : List ℕ) (c : ℕ) (piece : Piece) → kind ≡ entity_ref → StandsFor t c → Spells kind t → t ≡ u → IsPiece kind piece u → piece ≡ part_piece
only_part kind t u c part_piece entity stands spelled same is = refl
only_part kind t u c reference_piece entity stands spelled same is = absurd (mixed_up kind t u c stands is.0 is.1 spelled same)
only_part kind t u c data_piece entity stands spelled same is = absurd (let h : entity_ref ≡ char_data = sym entity ∙ is in cc)
only_part kind t u c comment_piece entity stands spelled same is = absurd (let h : entity_ref ≡ comment = sym entity ∙ is in cc)
only_part kind t u c pi_piece entity stands spelled same is = absurd (let h : entity_ref ≡ pi = sym entity ∙ is in cc)
only_part kind t u c declaration_piece entity stands spelled same is = absurd (let h : entity_ref ≡ declaration = sym entity ∙ is in cc)
only_part kind t u c doctype_piece entity stands spelled same is = absurd (let h : entity_ref ≡ doctype = sym entity ∙ is in cc)

piece_unique : (kind : TokenKind) (p q : Piece) (t u : List ℕ) → t ≡ u → Spells kind t → IsPiece kind p t → IsPiece kind q u → p ≡ q
piece_unique kind p q t u same spelled x y = by_both (by_kind kind p t x) (by_kind kind q u y)
  where
    by_both : ((piece_of kind ≡ p) ⊎ ((p ≡ part_piece) × (kind ≡ entity_ref) × (c : ℕ) × StandsFor t c)) → ((piece_of kind ≡ q) ⊎ ((q ≡ part_piece) × (kind ≡ entity_ref) × (c : ℕ) × StandsFor u c)) → p ≡ q
    by_both (inl a) (inl b) = sym a ∙ b
    by_both (inr (part, entity, c, stands)) other = part ∙ sym (only_part kind t u c q entity stands spelled same y)
    by_both (inl a) (inr (part, entity, c, stands)) = only_part kind u t c p entity stands (subst (Spells kind) same spelled) (sym same) x ∙ sym part

-- the parts are those of the text
parts_unique : (kind : TokenKind) (a b : Tok) → tok_text a ≡ tok_text b → Spells kind (tok_text a) → IsOfKind kind a → IsOfKind kind b → a ≡ b
parts_unique kind (start_tok t n ns) (start_tok u m ms) same spelled x y =
    let names = names_unique t u (codes ">") n m ns ms (inl refl) x.1 y.1 same in
    ap (λ t. start_tok t n ns) same ∙ ap (λ n. start_tok u n ns) names.0 ∙ ap (start_tok u m) names.1
parts_unique kind (empty_tok t ns) (empty_tok u ms) same spelled x y =
    let names = names_unique t u (codes "/>") x.1 y.1 ns ms (inr refl) x.2 y.2 same in
    ap (λ t. empty_tok t ns) same ∙ ap (empty_tok u) names.1
parts_unique kind (end_tok t n) (end_tok u m) same spelled x y = ap (λ t. end_tok t n) same ∙ ap (end_tok u) (end_unique t u n m x.1 y.1 x.2 y.2 same)
parts_unique kind (piece_tok p t) (piece_tok q u) same spelled x y = ap (λ p. piece_tok p t) (piece_unique kind p q t u same spelled x y) ∙ ap (piece_tok q) same
parts_unique kind (start_tok t n ns) (empty_tok u ms) same spelled x y = let p = x.0 in let q = y.0 in absurd (cc)
parts_unique kind (start_tok t n ns) (end_tok u m) same spelled x y = let p = x.0 in let q = y.0 in absurd (cc)
parts_unique kind (start_tok t n ns) (piece_tok q u) same spelled x y = absurd (no_piece kind start_tag q u y refl x.0)
parts_unique kind (empty_tok t ns) (start_tok u m ms) same spelled x y = let p = x.0 in let q = y.0 in absurd (cc)
parts_unique kind (empty_tok t ns) (end_tok u m) same spelled x y = let p = x.0 in let q = y.0 in absurd (cc)
parts_unique kind (empty_tok t ns) (piece_tok q u) same spelled x y = absurd (no_piece kind empty_tag q u y refl x.0)
parts_unique kind (end_tok t n) (start_tok u m ms) same spelled x y = let p = x.0 in let q = y.0 in absurd (cc)
parts_unique kind (end_tok t n) (empty_tok u ms) same spelled x y = let p = x.0 in let q = y.0 in absurd (cc)
parts_unique kind (end_tok t n) (piece_tok q u) same spelled x y = absurd (no_piece kind end_tag q u y refl x.0)
parts_unique kind (piece_tok p t) (start_tok u m ms) same spelled x y = absurd (no_piece kind start_tag p t x refl y.0)
parts_unique kind (piece_tok p t) (empty_tok u ms) same spelled x y = absurd (no_piece kind empty_tag p t x refl y.0)
parts_unique kind (piece_tok p t) (end_tok u m) same spelled x y = absurd (no_piece kind end_tag p t x refl y.0)

pub token_unique : (a b : Tok) (text : List ℕ) → IsToken a text → IsToken b text → a ≡ b
token_unique a b text x y =
    let down = x.longest.longest y.kind (length (tok_text b)) y.longest.front in
    let up = y.longest.longest x.kind (length (tok_text a)) x.longest.front in
    let size : length (tok_text a) ≡ length (tok_text b) = omega (arith, down.1, up.1) in
    let texts : tok_text a ≡ tok_text b = sym x.front ∙ ap (λ n. take n text) size ∙ y.front in
    parts_unique x.kind a b texts (subst (λ t. Spells x.kind t) x.front x.longest.front.spelled) x.of_kind (subst (λ k. IsOfKind k b) down.0 y.of_kind)
