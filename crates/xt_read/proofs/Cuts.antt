-- Where a text is cut at a byte.
use Rattle.std.proofs.Common.{◌≡◌, ◌∙◌, ℕ, ◌+◌, ◌<◌, List, [], ◌∷◌, ◌++◌, length, take, drop, refl, sym, ap, subst, Bool, true, false, arith, append_assoc, append-nil, IsUtf8, eqb, eqb-true, lit<}
use Rattle.std.proofs.lemmas.List.{length-append, take_at, drop_at}
use Rattle.std.proofs.lemmas.Bool.{not-false}
use Rattle.std.proofs.lemmas.Str.{IsUtf8-drop}
use Rattle.xt_lex.proofs.Theorems.{boundary_at_stop, drop_while_is, take_while_split, take_while_passes}
use Rattle.xt_spec.specs.Reference.{StandsFor}
use Rattle.xt_read.proofs.ValueParts.{skip_same, same_same, reference_same}
use Rattle.std.specs.Str.{IsCharBoundary}
use Rattle.std.specs.List.{prefix_len}
use Rattle.xt_scan.specs.Step.{take_while, drop_while}
use Rattle.xt_read.specs.References.{is_other, LacksByte, IsUpToSemicolon, Edge, BeginsReference, IsSame, IsPastReference}
use Rattle.xt_read.proofs.TokenSteps.{cut_behind}

begins_case : (byte c : ℕ) (text : List ℕ) (b : ℕ) (bs : List ℕ) (passes : Bool) → is_other byte c ≡ passes → drop_while (is_other byte) (c ∷ text) ≡ b ∷ bs → (drop_while (is_other byte) text ≡ b ∷ bs → b ≡ byte) → b ≡ byte
begins_case byte c text b bs true is e others = others (rw is at e)
begins_case byte c text b bs false is e others =
    let here : c ∷ text ≡ b ∷ bs = rw is at e in
    let first : c ≡ b = cc in
    sym first ∙ eqb-true c byte (not-false (eqb c byte) is)

-- what is left begins with the byte
begins_behind : (byte : ℕ) (text : List ℕ) (b : ℕ) (bs : List ℕ) → drop_while (is_other byte) text ≡ b ∷ bs → b ≡ byte
begins_behind byte [] b bs e = absurd (cc)
begins_behind byte (c ∷ text) b bs e = begins_case byte c text b bs (is_other byte c) refl e (begins_behind byte text b bs)

-- a text that is left whole lacks the byte
pub lacks_when_none : (byte : ℕ) (text : List ℕ) → drop_while (is_other byte) text ≡ [] → LacksByte byte text
lacks_when_none byte text none =
    let whole : text ≡ take_while (is_other byte) text = take_while_split (is_other byte) text ∙ ap (λ b. take_while (is_other byte) text ++ b) none ∙ append-nil (take_while (is_other byte) text) in
    subst (LacksByte byte) (sym whole) (take_while_passes (is_other byte) text)

pub none_of_length : (xs : List ℕ) → length xs ≡ 0 → xs ≡ []
none_of_length [] e = refl
none_of_length (x ∷ xs) e = absurd (cc)

pub lacks_when_empty : (byte : ℕ) (text rest : List ℕ) → rest ≡ drop_while (is_other byte) text → length rest ≡ 0 → LacksByte byte text
lacks_when_empty byte text rest is none = lacks_when_none byte text (sym is ∙ none_of_length rest none)

-- the text is cut behind the byte
pub record CutBehind (byte : ℕ) (text front rest : List ℕ) : Type 0 where
  pub tail : List ℕ
  pub rest_is : rest ≡ byte ∷ tail
  pub joined : text ≡ (front ++ byte ∷ []) ++ tail
  pub stands : drop (length front) text ≡ byte ∷ tail

pub cuts : (byte : ℕ) (text front rest : List ℕ) → front ≡ take_while (is_other byte) text → rest ≡ drop_while (is_other byte) text → (length rest ≡ 0 → ⊥) → CutBehind byte text front rest
cuts byte text front [] f r some = absurd (some refl)
cuts byte text front (b ∷ tail) f r some =
    let is : b ≡ byte = begins_behind byte text b tail (sym r) in
    let whole : text ≡ front ++ byte ∷ tail = take_while_split (is_other byte) text ∙ ap (λ a. a ++ drop_while (is_other byte) text) (sym f) ∙ ap (λ r. front ++ r) (sym r) ∙ ap (λ b. front ++ b ∷ tail) is in
    record {
      tail = tail;
      rest_is = ap (λ b. b ∷ tail) is;
      joined = whole ∙ sym (append_assoc front (byte ∷ []) tail);
      stands = ap (drop (length front)) whole ∙ drop_at front (byte ∷ tail) (length front) refl;
    }

pub cut_boundary : (byte : ℕ) (text front rest : List ℕ) → IsUtf8 text → byte < 128 → CutBehind byte text front rest → IsCharBoundary text (length front + 1)
cut_boundary byte text front rest utf8 small cut = cut_behind text (length front) byte cut.tail utf8 small cut.stands

pub up_to : (text front rest cut behind_cut : List ℕ) → IsUtf8 text → front ≡ take_while (is_other 0x3B) text → CutBehind 0x3B text front rest → cut ≡ take (length front + 1) text → behind_cut ≡ drop (length front + 1) text → IsUpToSemicolon text cut behind_cut
up_to text front rest cut behind_cut utf8 f is c d =
    let size : length (front ++ 0x3B ∷ []) ≡ length front + 1 = length-append front (0x3B ∷ []) in
    let front_is : take (length front + 1) text ≡ front ++ 0x3B ∷ [] = ap (λ n. take n text) (sym size) ∙ ap (take (length (front ++ 0x3B ∷ []))) is.joined ∙ take_at (front ++ 0x3B ∷ []) is.tail (length (front ++ 0x3B ∷ [])) refl in
    let tail_is : drop (length front + 1) text ≡ is.tail = ap (λ n. drop n text) (sym size) ∙ ap (drop (length (front ++ 0x3B ∷ []))) is.joined ∙ drop_at (front ++ 0x3B ∷ []) is.tail (length (front ++ 0x3B ∷ [])) refl in
    record {
      body = front;
      joined = is.joined ∙ ap (λ t. t ++ is.tail) (sym (c ∙ front_is)) ∙ ap (λ t. cut ++ t) (sym (d ∙ tail_is));
      lacks = subst (LacksByte 0x3B) (sym f) (take_while_passes (is_other 0x3B) text);
      ends = c ∙ front_is;
      utf8 = subst IsUtf8 (sym d) (IsUtf8-drop text (length front + 1) utf8 (cut_boundary 0x3B text front rest utf8 (lit< tt) is));
    }

-- ---- from the first `&` on

pub edge_behind : (text rest : List ℕ) → rest ≡ drop_while (is_other 0x26) text → Edge rest
edge_behind text [] is = tt
edge_behind text (b ∷ rest) is = begins_behind 0x26 text b rest (sym is)

pub utf8_behind : (text rest : List ℕ) → IsUtf8 text → rest ≡ drop_while (is_other 0x26) text → IsUtf8 rest
utf8_behind text rest utf8 is =
    let stops = boundary_at_stop (is_other 0x26) text (λ b e. let same = eqb-true b 0x26 (not-false _ e) in omega (arith, same)) in
    subst IsUtf8 (drop_while_is (is_other 0x26) text ∙ sym is) (IsUtf8-drop text (prefix_len (is_other 0x26) text) utf8 stops)

pub same_behind : (text front rest : List ℕ) → front ≡ take_while (is_other 0x26) text → rest ≡ drop_while (is_other 0x26) text → IsSame text rest
same_behind text front rest f r =
    skip_same text front rest (take_while_split (is_other 0x26) text ∙ ap (λ a. a ++ drop_while (is_other 0x26) text) (sym f) ∙ ap (λ b. front ++ b) (sym r)) (subst (LacksByte 0x26) (sym f) (take_while_passes (is_other 0x26) text)) (edge_behind text rest r)

shorter : (text front rest behind_cut : List ℕ) → IsUpToSemicolon text front rest → behind_cut ≡ drop_while (is_other 0x26) rest → length behind_cut < length text
shorter text front rest behind_cut up is =
    omega (arith, ap length up.joined, ap length up.ends, length-append front rest, length-append up.body (0x3B ∷ []), ap length is, ap length (take_while_split (is_other 0x26) rest), length-append (take_while (is_other 0x26) rest) (drop_while (is_other 0x26) rest))

pub past : (text reference rest front last : List ℕ) (c : ℕ) → IsUtf8 rest → BeginsReference text → IsUpToSemicolon text reference rest → StandsFor reference c → front ≡ take_while (is_other 0x26) rest → last ≡ drop_while (is_other 0x26) rest → IsPastReference text last
past text reference rest front last c utf8 begins up stands f l = record {
  utf8 = utf8_behind rest last utf8 l;
  edge = edge_behind rest last l;
  smaller = shorter text reference rest last up l;
  same = same_same text rest last (reference_same text reference rest c begins up stands) (same_behind rest front last f l);
}

-- what is left, where it is something, begins with a reference
pub begins_at : (rest : List ℕ) → Edge rest → (length rest ≡ 0 → ⊥) → BeginsReference rest
begins_at [] edge some = absurd (some refl)
begins_at (b ∷ rest) edge some = (rest, ap (λ b. b ∷ rest) edge)
