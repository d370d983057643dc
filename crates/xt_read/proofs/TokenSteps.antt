-- A token of the code is a token of the run, with its parts and in its place.
use Rattle.std.proofs.Common.{◌≡◌, ◌∙◌, ℕ, ◌+◌, ◌-◌, ◌≤◌, ◌<◌, List, [], ◌∷◌, ◌++◌, length, take, drop, get_or, get_or-drop, refl, sym, ap, subst, arith, Bool, true, false, inl, inr, append-nil, Option, Some, None, Result, Ok, Err, IsUtf8}
use Rattle.std.proofs.lemmas.List.{length-take, length-drop, drop-drop, take-append-drop}
use Rattle.std.proofs.lemmas.Str.{IsCharBoundary-after_ascii}
use Rattle.std.specs.Str.{IsCharBoundary}
use Rattle.xt_spec.specs.Tag.{Tag, IsTag, tag_text}
use Rattle.xt_spec.specs.Reference.{StandsFor, IsPredefined}
use Rattle.xt_spec.specs.Token.{start_tag, empty_tag, end_tag, Spells, IsLongestFront}
use Rattle.xt_lex.specs.Kinds.{kind_of}
use Rattle.xt_lex.specs.declared.token.Span.{Span}
use Rattle.xt_lex.specs.declared.token.Token.{Token}
use Rattle.xt_tree.specs.declared.source.Tag.{Tag as TagSrc}
use Rattle.xt_tree.specs.Meaning.{at_span}
use Rattle.xt_tree.specs.Places.{Mark, tag_mark, span_mark, tail_marks, AreInPlace, IsTagAt, ending}
use Rattle.xt_tree.proofs.Theorems.{name_text, attribute_names_text, attributes_stand, tag_stands, in_place-append, in_place-split}
use Rattle.xt_read.specs.declared.reader.Reader.{Reader}
use Rattle.xt_read.specs.declared.unread.Halt.{Halt}
use Rattle.xt_read.specs.declared.unread.Halt.TheVariants.{Misplaced, TooDeep, NoMemory}
use Rattle.xt_read.specs.Run.{Piece, Tok, start_tok, empty_tok, end_tok, piece_tok, tok_text, IsPiece, IsOfKind, AreTagNames, State}
use Rattle.xt_read.specs.Progress.{Gives, names_at, all_marks, settled_marks, Joins, joined_span, AddsText}
use Rattle.xt_read.specs.Steps.{IsTagAhead, IsEndTagAhead, IsEndTagNamed, IsTokenAt, IsTok, Takes}

-- what the call answered is a step of the run
pub takes_by : (text : List ℕ) (token : Token) (s t : State) (tok : Tok) (result : Result (Unit {0}) Halt) → IsTok text token tok → Gives s tok result t → Takes text token s result t
takes_by text token s t tok (Ok x) is gives = (tok, is, gives)
takes_by text token s t tok (Err Misplaced) is gives = (tok, is, gives.0, gives.1)
takes_by text token s t tok (Err TooDeep) is gives = (tok, is, gives)
takes_by text token s t tok (Err NoMemory) is gives = tt

-- ---- the text of a token

-- the text at the token's span is the front that it takes
token_text : (text : List ℕ) (token : Token) → (is : IsTokenAt text token) → at_span text token.span ≡ take is.size (drop token.span.from text)
token_text text token is = let n : token.span.to - token.span.from ≡ is.size = omega (arith, is.to) in ap (λ n. take n (drop token.span.from text)) n

token_size : (text : List ℕ) (token : Token) → (is : IsTokenAt text token) → length (at_span text token.span) ≡ is.size
token_size text token is = ap length (token_text text token is) ∙ omega (arith, length-take is.size (drop token.span.from text), is.longest.front.within)

pub spelled_at : (text : List ℕ) (token : Token) → (is : IsTokenAt text token) → Spells (kind_of token.kind) (at_span text token.span)
spelled_at text token is = subst (Spells (kind_of token.kind)) (sym (token_text text token is)) is.longest.front.spelled

-- .. and stands there, with something behind it
pub stands_at : (text : List ℕ) (token : Token) → (is : IsTokenAt text token) → drop token.span.from text ≡ at_span text token.span ++ drop is.size (drop token.span.from text)
stands_at text token is = sym (take-append-drop is.size (drop token.span.from text)) ∙ ap (λ t. t ++ drop is.size (drop token.span.from text)) (sym (token_text text token is))

-- the token of the run
tok_is : (text : List ℕ) (token : Token) (tok : Tok) → (is : IsTokenAt text token) → tok_text tok ≡ at_span text token.span → IsOfKind (kind_of token.kind) tok → IsTok text token tok
tok_is text token tok is same of_kind =
    let size : length (tok_text tok) ≡ is.size = ap length same ∙ token_size text token is in
    record {
      is = record {
        kind = kind_of token.kind;
        longest = subst (λ n. IsLongestFront (drop token.span.from text) (kind_of token.kind) n) (sym size) is.longest;
        front = ap (λ n. take n (drop token.span.from text)) size ∙ sym (token_text text token is) ∙ sym same;
        of_kind = of_kind;
      };
      to = is.to ∙ ap (λ n. token.span.from + n) (sym size);
    }

-- ---- tags

tag_ahead : (text : List ℕ) (token : Token) (empty : Bool) → (is : IsTokenAt text token) → (tag : Tag) × IsTag tag × (at_span text token.span ≡ tag_text tag (ending empty)) → IsTagAhead text token.span.from token.span.to empty
tag_ahead text token empty is (tag, parts, e) = record {
  tag = tag;
  rest = drop is.size (drop token.span.from text);
  parts = parts;
  stands = stands_at text token is ∙ ap (λ t. t ++ drop is.size (drop token.span.from text)) e;
  size = is.to ∙ ap (λ n. token.span.from + n) (sym (token_size text token is) ∙ ap length e);
}

pub start_ahead : (text : List ℕ) (token : Token) → IsTokenAt text token → kind_of token.kind ≡ start_tag → IsTagAhead text token.span.from token.span.to false
start_ahead text token is kind = tag_ahead text token false is (subst (λ k. Spells k (at_span text token.span)) kind (spelled_at text token is))

pub empty_ahead : (text : List ℕ) (token : Token) → IsTokenAt text token → kind_of token.kind ≡ empty_tag → IsTagAhead text token.span.from token.span.to true
empty_ahead text token is kind = tag_ahead text token true is (subst (λ k. Spells k (at_span text token.span)) kind (spelled_at text token is))

pub end_ahead : (text : List ℕ) (token : Token) → IsTokenAt text token → kind_of token.kind ≡ end_tag → IsEndTagAhead text token.span.from token.span.to
end_ahead text token is kind =
    let (name, named, spelled) = subst (λ k. Spells k (at_span text token.span)) kind (spelled_at text token is) in
    record {
      name = name;
      tag = at_span text token.span;
      rest = drop is.size (drop token.span.from text);
      named = named;
      spelled = spelled;
      stands = stands_at text token is;
      size = is.to ∙ ap (λ n. token.span.from + n) (sym (token_size text token is));
    }

pub first_of : (text : List ℕ) (at b : ℕ) (rest : List ℕ) → drop at text ≡ b ∷ rest → get_or text at 0 ≡ b
first_of text at b rest stands =
    let here : get_or (drop at text) 0 0 ≡ get_or text (at + 0) 0 = get_or-drop at text 0 0 in
    let place : at + 0 ≡ at = omega arith in
    ap (λ i. get_or text i 0) (sym place) ∙ sym here ∙ ap (λ t. get_or t 0 0) stands

-- behind a byte of ASCII a character begins
pub cut_behind : (text : List ℕ) (at b : ℕ) (rest : List ℕ) → IsUtf8 text → b < 128 → drop at text ≡ b ∷ rest → IsCharBoundary text (at + 1)
cut_behind text at b rest utf8 small stands =
    let some : at < length text = omega (arith, ap length stands, length-drop at text) in
    let first : get_or text at 0 ≡ b = first_of text at b rest stands in
    IsCharBoundary-after_ascii text at utf8 some (subst (λ c. c < 128) (sym first) small)

pub cut_behind_two : (text : List ℕ) (at b c : ℕ) (rest : List ℕ) → IsUtf8 text → c < 128 → drop at text ≡ b ∷ c ∷ rest → IsCharBoundary text (at + 2)
cut_behind_two text at b c rest utf8 small stands =
    let next : drop (at + 1) text ≡ c ∷ rest = sym (drop-drop 1 at text) ∙ ap (drop 1) stands in
    let place : at + 1 + 1 ≡ at + 2 = omega arith in
    subst (IsCharBoundary text) place (cut_behind text (at + 1) c rest utf8 small next)

tag_names : (text : List ℕ) (at : ℕ) (source : TagSrc) → (is : IsTagAt text at source) → AreTagNames (at_span text source.span) (ending source.empty) (at_span text source.name) (names_at text source.attrs)
tag_names text at source is = record {
  tag = is.tag;
  parts = is.parts;
  spelled = is.spelled;
  is_name = name_text text at source is;
  are_names = attribute_names_text text (at + 1 + length is.tag.name) is.tag.attributes source.attrs _ is.attributes (attributes_stand text at is.tag (ending source.empty) _ (tag_stands text at source is));
}

pub start_tok_is : (text : List ℕ) (token : Token) (source : TagSrc) → IsTokenAt text token → kind_of token.kind ≡ start_tag → source.span ≡ token.span → source.empty ≡ false → IsTagAt text token.span.from source
    → IsTok text token (start_tok (at_span text source.span) (at_span text source.name) (names_at text source.attrs))
start_tok_is text token source is kind span empty at =
    tok_is text token (start_tok (at_span text source.span) (at_span text source.name) (names_at text source.attrs)) is (ap (at_span text) span)
    (kind, subst (λ e. AreTagNames (at_span text source.span) (ending e) (at_span text source.name) (names_at text source.attrs)) empty (tag_names text token.span.from source at))

pub empty_tok_is : (text : List ℕ) (token : Token) (source : TagSrc) → IsTokenAt text token → kind_of token.kind ≡ empty_tag → source.span ≡ token.span → source.empty ≡ true → IsTagAt text token.span.from source
    → IsTok text token (empty_tok (at_span text source.span) (names_at text source.attrs))
empty_tok_is text token source is kind span empty at =
    tok_is text token (empty_tok (at_span text source.span) (names_at text source.attrs)) is (ap (at_span text) span)
    (kind, at_span text source.name, subst (λ e. AreTagNames (at_span text source.span) (ending e) (at_span text source.name) (names_at text source.attrs)) empty (tag_names text token.span.from source at))

pub end_tok_is : (text : List ℕ) (token : Token) (name : Span) → IsTokenAt text token → kind_of token.kind ≡ end_tag → IsEndTagNamed text token.span (at_span text name) → IsTok text token (end_tok (at_span text token.span) (at_span text name))
end_tok_is text token name is kind named = tok_is text token (end_tok (at_span text token.span) (at_span text name)) is refl (kind, named.0, named.1)

-- a token that is no tag
pub piece_is : (text : List ℕ) (token : Token) (piece : Piece) → IsTokenAt text token → IsPiece (kind_of token.kind) piece (at_span text token.span) → IsTok text token (piece_tok piece (at_span text token.span))
piece_is text token piece is of_kind = tok_is text token (piece_tok piece (at_span text token.span)) is refl of_kind

-- a reference to an entity that stands for no character is none of the predefined
pub other_is : (t : List ℕ) → ((c : ℕ) → ¬ StandsFor t c) → (c : ℕ) → ¬ IsPredefined t c
other_is t none c predefined = none c (inr predefined)

-- ---- places

pub tag_placed : (bytes : List ℕ) (start from to : ℕ) (old new : List Mark) (head : TagSrc) → AreInPlace bytes start old from → IsTagAt bytes from head → head.span.to ≡ to → new ≡ old ++ tag_mark head ∷ [] → AreInPlace bytes start new to
tag_placed bytes start from to old new head before at end is =
    subst (λ m. AreInPlace bytes start m to) (sym is) (in_place-append bytes start from to old (tag_mark head ∷ []) before (at, end))

pub span_placed : (bytes : List ℕ) (start : ℕ) (old new : List Mark) (span : Span) → AreInPlace bytes start old span.from → span.from ≤ span.to → new ≡ old ++ span_mark span ∷ [] → AreInPlace bytes start new span.to
span_placed bytes start old new span before ordered is =
    subst (λ m. AreInPlace bytes start m span.to) (sym is) (in_place-append bytes start span.from span.to old (span_mark span ∷ []) before (refl, ordered, refl))

joins_by : (bytes : List ℕ) (start : ℕ) (settled : List Mark) (text : Option Span) (span : Span) → AreInPlace bytes start (settled ++ tail_marks text) span.from → span.from ≤ span.to → Joins text span
joins_by bytes start settled None span place ordered = ordered
joins_by bytes start settled (Some text) span place ordered = let (mid, first, last) = in_place-split bytes start span.from settled (span_mark text ∷ []) place in
    let from_is : text.from ≡ mid = last.0 in (omega (arith, last.0, last.1), last.2, ordered)

-- the text item that goes on ends where the token begins
pub joins : (bytes : List ℕ) (start : ℕ) (reader : Reader) (span : Span) → AreInPlace bytes start (all_marks reader) span.from → span.from ≤ span.to → Joins reader.text span
joins bytes start reader span place ordered = joins_by bytes start (settled_marks reader) reader.text span place ordered

longer_placed : (bytes : List ℕ) (start : ℕ) (settled new : List Mark) (text : Option Span) (span : Span) → AreInPlace bytes start (settled ++ tail_marks text) span.from → span.from ≤ span.to → new ≡ settled ++ span_mark (joined_span text span) ∷ [] → AreInPlace bytes start new span.to
longer_placed bytes start settled new None span place ordered is = span_placed bytes start settled new span (subst (λ m. AreInPlace bytes start m span.from) (append-nil settled) place) ordered is
longer_placed bytes start settled new (Some text) span place ordered is =
    let (mid, first, last) = in_place-split bytes start span.from settled (span_mark text ∷ []) place in
    let order : mid ≤ span.to = omega (arith, last.1, last.2, ordered) in
    subst (λ m. AreInPlace bytes start m span.to) (sym is) (in_place-append bytes start mid span.to settled (span_mark (record { from = text.from; to = span.to }) ∷ []) first (last.0, order, refl))

pub text_placed : (bytes : List ℕ) (start : ℕ) (old new : Reader) (span : Span) → AreInPlace bytes start (all_marks old) span.from → span.from ≤ span.to → AddsText old span new → AreInPlace bytes start (all_marks new) span.to
text_placed bytes start old new span place ordered (inl is) = span_placed bytes start (all_marks old) (all_marks new) span place ordered is
text_placed bytes start old new span place ordered (inr is) = longer_placed bytes start (settled_marks old) (all_marks new) old.text span place ordered is
