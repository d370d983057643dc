-- The value of a text item: it has one, and is spelled by Chars.
use Rattle.std.proofs.Common.{◌≡◌, ◌≢◌, ◌∙◌, ℕ, ◌<◌, ◌≤◌, ◌⊎◌, List, [], ◌∷◌, ◌++◌, length, take, drop, get_or, refl, sym, ap, ap₂, subst, arith, true, false, Bool, not, ◌&&◌, ◌==◌, if◌then◌else◌, inl, inr, append-nil, encode_utf8, encode_utf8_all, eqb-true, codes}
use Rattle.std.proofs.lemmas.Bool.{and_parts, and_from, cases_Bool, cases_lt}
use Rattle.std.proofs.lemmas.Bool.Decides.{nat_tests}
use Rattle.std.proofs.lemmas.List.{length-append, take_at, append_cancel_left, append_cancel_right, take-append-drop}
use Rattle.std.proofs.lemmas.List.Folds.{list_all-append}
use Rattle.std.proofs.lemmas.List.Sums.{list_all-from_AllPass}
use Rattle.std.proofs.lemmas.List.Elements.{All-from_get_or}
use Rattle.std.proofs.lemmas.Str.{encode_ascii, encodes-append, encodes_same, inside_one, length-encode, len_utf8_bounds}
use Rattle.std.specs.List.{list_all, AllByRecursion}
use Rattle.xt_spec.specs.Char.{is_char}
use Rattle.xt_spec.specs.Reference.{StandsFor}
use Rattle.xt_spec.specs.LineEnds.{lines_read, lines_read_behind}
use Rattle.xt_spec.specs.Markup.{IsSectionOf}
use Rattle.xt_spec.specs.Token.{TokenKind, char_data, char_ref, entity_ref, cdata_section, IsPlain, IsLongestFront}
use Rattle.xt_spec.specs.Text.{TextPart, data_part, reference_part, section_part, part_text, parts_text, parts_value, begins_with_data, AreTextParts, IsTextItem, HasTextValue}
use Rattle.xt_lex.specs.Place.{Follows}
use Rattle.xt_lex.proofs.Theorems.{markup_begins, front_some, token_longest, stands_unique, stands_spells}

-- ---- line ends, over characters

abbrev is_no_line_end : ℕ → Bool
is_no_line_end b = not (b == 0xD) && not (b == 0xA)

high_is : (b : ℕ) → 128 ≤ b → is_no_line_end b ≡ true
high_is b high = grind (arith, nat_tests)

char_is : (c : ℕ) → (c == 0xD) ≡ false → (c == 0xA) ≡ false → is_no_line_end c ≡ true
char_is c no_cr no_lf = rw no_cr (rw no_lf refl)

byte_is : (c k : ℕ) → is_no_line_end c ≡ true → k < length (encode_utf8 c) → is_no_line_end (get_or (encode_utf8 c) k 0) ≡ true
byte_is c k is below = elim (cases_lt (get_or (encode_utf8 c) k 0) 128) [
  | inl low ↦ subst (λ n. is_no_line_end n ≡ true) (inside_one c [] (encode_utf8 c) k (sym (append-nil (encode_utf8 c))) below low) is
  | inr high ↦ high_is (get_or (encode_utf8 c) k 0) high
]

bytes_are : (c : ℕ) → is_no_line_end c ≡ true → list_all is_no_line_end (encode_utf8 c) ≡ true
bytes_are c is = list_all-from_AllPass is_no_line_end (encode_utf8 c) (All-from_get_or (λ b. is_no_line_end b ≡ true) (encode_utf8 c) 0 (λ k below. byte_is c k is below))

no_cr : (b : ℕ) → is_no_line_end b ≡ true → (b == 0xD) ≡ false
no_cr b is = grind (arith, nat_tests)

no_lf : (b : ℕ) → is_no_line_end b ≡ true → (b == 0xA) ≡ false
no_lf b is = grind (arith, nat_tests)

-- bytes that are no line end are read as they are
others_read : (bytes rest : List ℕ) → list_all is_no_line_end bytes ≡ true → lines_read_behind false (bytes ++ rest) ≡ bytes ++ lines_read_behind false rest
others_read [] rest are = refl
others_read (b ∷ bytes) rest are =
    let both = and_parts (is_no_line_end b) (list_all is_no_line_end bytes) are in
    rw (no_cr b both.0) (rw (no_lf b both.0) (ap (λ (l : List ℕ). b ∷ l) (others_read bytes rest both.1)))

some_read : (cr : Bool) (bytes rest : List ℕ) → bytes ≢ [] → list_all is_no_line_end bytes ≡ true → lines_read_behind cr (bytes ++ rest) ≡ bytes ++ lines_read_behind false rest
some_read cr [] rest some are = absurd (some refl)
some_read cr (b ∷ bytes) rest some are =
    let both = and_parts (is_no_line_end b) (list_all is_no_line_end bytes) are in
    rw (no_cr b both.0) (rw (no_lf b both.0) (ap (λ (l : List ℕ). b ∷ l) (others_read bytes rest both.1)))

pub encode_some : (c : ℕ) → encode_utf8 c ≢ []
encode_some c none = let size = ap length none in absurd (omega (arith, length-encode c, (len_utf8_bounds c).0))

-- line ends are read of the characters as of their bytes
pub lines_chars : (cr : Bool) (cs : List ℕ) → lines_read_behind cr (encode_utf8_all cs) ≡ encode_utf8_all (lines_read_behind cr cs)
lines_chars cr [] = refl
lines_chars cr (c ∷ cs) = elim (cases_Bool (c == 0xD)) [
  | inl e ↦
      let is : encode_utf8 c ≡ 0xD ∷ [] = ap encode_utf8 (eqb-true c 0xD e) ∙ encode_ascii 0xD (omega arith) in
      rw is (rw e (rw (encode_ascii 0xA (omega arith)) (ap (λ (l : List ℕ). 0xA ∷ l) (lines_chars true cs))))
  | inr apart_cr ↦ elim (cases_Bool (c == 0xA)) [
    | inl e ↦
        let is : encode_utf8 c ≡ 0xA ∷ [] = ap encode_utf8 (eqb-true c 0xA e) ∙ encode_ascii 0xA (omega arith) in
        rw is (rw apart_cr (rw e (line_end cr cs (lines_chars false cs))))
    | inr other ↦
        rw apart_cr (rw other (some_read cr (encode_utf8 c) (encode_utf8_all cs) (encode_some c) (bytes_are c (char_is c apart_cr other)) ∙ ap (λ (l : List ℕ). encode_utf8 c ++ l) (lines_chars false cs)))
  ]
]
  where
    line_end : (cr : Bool) (cs : List ℕ) → lines_read_behind false (encode_utf8_all cs) ≡ encode_utf8_all (lines_read_behind false cs)
        → (if cr then lines_read_behind false (encode_utf8_all cs) else 0xA ∷ lines_read_behind false (encode_utf8_all cs)) ≡ encode_utf8_all (if cr then lines_read_behind false cs else 0xA ∷ lines_read_behind false cs)
    line_end true cs same = same
    line_end false cs same = rw (encode_ascii 0xA (omega arith)) (ap (λ (l : List ℕ). 0xA ∷ l) same)

-- .. and stay Chars
line_kept : (p q cr : Bool) (c : ℕ) (L : Bool → List ℕ) → is_char c ≡ true → ((b : Bool) → list_all is_char (L b) ≡ true)
    → list_all is_char (if p then 0xA ∷ L true else (if q then (if cr then L false else 0xA ∷ L false) else c ∷ L false)) ≡ true
line_kept true q cr c L is all = all true
line_kept false true true c L is all = all false
line_kept false true false c L is all = all false
line_kept false false cr c L is all = and_from (is_char c) (list_all is_char (L false)) is (all false)

lines_are_chars : (cr : Bool) (cs : List ℕ) → list_all is_char cs ≡ true → list_all is_char (lines_read_behind cr cs) ≡ true
lines_are_chars cr [] are = refl
lines_are_chars cr (c ∷ cs) are =
    let both = and_parts (is_char c) (list_all is_char cs) are in
    line_kept (c == 0xD) (c == 0xA) cr c (λ (b : Bool). lines_read_behind b cs) both.0 (λ b. lines_are_chars b cs both.1)

-- ---- the characters of a value

plain_are_chars : (cs : List ℕ) → AllByRecursion IsPlain cs → list_all is_char cs ≡ true
plain_are_chars [] all = refl
plain_are_chars (c ∷ cs) all = and_from (is_char c) (list_all is_char cs) all.0.0 (plain_are_chars cs all.1)

stands_is_char : (text : List ℕ) (c : ℕ) → StandsFor text c → is_char c ≡ true
stands_is_char text c (inl names) = names.0
stands_is_char text c (inr (inl (e, is))) = rw is refl
stands_is_char text c (inr (inr (inl (e, is)))) = rw is refl
stands_is_char text c (inr (inr (inr (inl (e, is))))) = rw is refl
stands_is_char text c (inr (inr (inr (inr (inl (e, is)))))) = rw is refl
stands_is_char text c (inr (inr (inr (inr (inr (e, is)))))) = rw is refl

pub all_joined : (xs ys : List ℕ) → list_all is_char xs ≡ true → list_all is_char ys ≡ true → list_all is_char (xs ++ ys) ≡ true
all_joined xs ys first second = list_all-append is_char xs ys ∙ and_from (list_all is_char xs) (list_all is_char ys) first second

pub all_cut : (n : ℕ) (xs : List ℕ) → list_all is_char xs ≡ true → (list_all is_char (take n xs) ≡ true) × (list_all is_char (drop n xs) ≡ true)
all_cut n xs are =
    and_parts (list_all is_char (take n xs)) (list_all is_char (drop n xs)) (sym (list_all-append is_char (take n xs) (drop n xs)) ∙ ap (λ (l : List ℕ). list_all is_char l) (take-append-drop n xs) ∙ are)

-- the value of the parts is spelled by Chars
parts_chars : (parts : List TextPart) → AreTextParts parts → (cs : List ℕ) × (list_all is_char cs ≡ true) × (encode_utf8_all cs ≡ parts_value parts)
parts_chars [] are = ([], refl, refl)
parts_chars (data_part text ∷ parts) are =
    let rest = parts_chars parts are.2 in
    let cs = are.0.0 in (
      lines_read cs ++ rest.0,
      all_joined (lines_read cs) rest.0 (lines_are_chars false cs (plain_are_chars cs are.0.2)) rest.1,
      encodes-append (lines_read cs) rest.0 ∙ ap₂ (λ (x y : List ℕ). x ++ y) (sym (ap lines_read are.0.3 ∙ lines_chars false cs)) rest.2,
    )
parts_chars (reference_part text c ∷ parts) are =
    let rest = parts_chars parts are.1 in
    (c ∷ rest.0, and_from (is_char c) (list_all is_char rest.0) (stands_is_char text c are.0) rest.1, ap (λ (l : List ℕ). encode_utf8 c ++ l) rest.2)
parts_chars (section_part text content ∷ parts) are =
    let rest = parts_chars parts are.1 in
    let (cs, spelled, all) = are.0.0 in (
      lines_read cs ++ rest.0,
      all_joined (lines_read cs) rest.0 (lines_are_chars false cs all) rest.1,
      encodes-append (lines_read cs) rest.0 ∙ ap₂ (λ (x y : List ℕ). x ++ y) (sym (ap lines_read (sym spelled) ∙ lines_chars false cs)) rest.2,
    )

-- the characters of a text item's value are Chars
pub value_chars : (text characters : List ℕ) → HasTextValue text (encode_utf8_all characters) → list_all is_char characters ≡ true
value_chars text characters (parts, are, spell, is) =
    let found = parts_chars parts are in
    subst (λ (l : List ℕ). list_all is_char l ≡ true) (encodes_same found.0 characters (found.2 ∙ is)) found.1

-- a text item has a value
pub has_chars : (text : List ℕ) → IsTextItem text → (characters : List ℕ) × HasTextValue text (encode_utf8_all characters)
has_chars text (parts, are, some, spell) = let found = parts_chars parts are in (found.0, (parts, are, spell, sym found.2))

-- ---- one value

-- the token that a part is
abbrev MayBe : TextPart → TokenKind → Type 0
MayBe (data_part text) kind = kind ≡ char_data
MayBe (reference_part text c) kind = (kind ≡ char_ref) ⊎ (kind ≡ entity_ref)
MayBe (section_part text content) kind = kind ≡ cdata_section

reference_follows : (text rest : List ℕ) (c : ℕ) → StandsFor text c → Follows (text ++ rest)
reference_follows text rest c stands = elim (stands_spells text c stands) [
  | inl spells ↦ let first = markup_begins char_ref text spells (inr (inl refl)) in begins first.0 first.1 first.2 first.3
  | inr spells ↦ let first = markup_begins entity_ref text spells (inr (inr refl)) in begins first.0 first.1 first.2 first.3
]
  where
    begins : (b : ℕ) (more : List ℕ) → text ≡ b ∷ more → (b ≡ 0x3C) ⊎ (b ≡ 0x26) → Follows (text ++ rest)
    begins b more is ends = rw is ends

section_follows : (text rest content : List ℕ) → IsSectionOf text content → Follows (text ++ rest)
section_follows text rest content section = rw section.2 (inl refl)

parts_follow : (parts : List TextPart) → AreTextParts parts → begins_with_data parts ≡ false → Follows (parts_text parts)
parts_follow [] are apart = tt
parts_follow (data_part text ∷ parts) are apart = absurd (cc)
parts_follow (reference_part text c ∷ parts) are apart = reference_follows text (parts_text parts) c are.0
parts_follow (section_part text content ∷ parts) are apart = section_follows text (parts_text parts) content are.0

front_token : (part : TextPart) (parts : List TextPart) → AreTextParts (part ∷ parts)
    → (kind : TokenKind) × MayBe part kind × IsLongestFront (part_text part ++ parts_text parts) kind (length (part_text part))
front_token (data_part text) parts are = (char_data, refl, token_longest char_data text (parts_text parts) are.0 (λ _. parts_follow parts are.2 are.1))
front_token (reference_part text c) parts are = elim (stands_spells text c are.0) [
  | inl spells ↦ (char_ref, inl refl, token_longest char_ref text (parts_text parts) spells (λ is. absurd (cc)))
  | inr spells ↦ (entity_ref, inr refl, token_longest entity_ref text (parts_text parts) spells (λ is. absurd (cc)))
]
front_token (section_part text content) parts are =
    (cdata_section, refl, token_longest cdata_section text (parts_text parts) (content, are.0) (λ is. absurd (cc)))

-- the longest tokens of equal texts are one
fronts_same : (t r u s : List ℕ) (k l : TokenKind) → IsLongestFront (t ++ r) k (length t) → IsLongestFront (u ++ s) l (length u) → t ++ r ≡ u ++ s → (k ≡ l) × (t ≡ u) × (r ≡ s)
fronts_same t r u s k l a b same =
    let there : IsLongestFront (t ++ r) l (length u) = subst (λ (x : List ℕ). IsLongestFront x l (length u)) (sym same) b in
    let one = a.longest l (length u) there.front in
    let two = there.longest k (length t) a.front in
    let size : length t ≡ length u = omega (arith, one.1, two.1) in
    let text : t ≡ u = sym (take_at t r (length t) refl) ∙ ap (λ (x : List ℕ). take (length t) x) same ∙ take_at u s (length t) (sym size) in
    (two.0, text, append_cancel_left t r s (same ∙ ap (λ (x : List ℕ). x ++ s) (sym text)))

no_part : (part : TextPart) (parts : List TextPart) → AreTextParts (part ∷ parts) → [] ≡ part_text part ++ parts_text parts → ⊥
no_part part parts are same =
    let front = front_token part parts are in
    let some = front_some (part_text part ++ parts_text parts) front.0 (length (part_text part)) front.2.front in
    let size = ap length same in
    absurd (omega (arith, some, size, length-append (part_text part) (parts_text parts)))

section_unique : (text a b : List ℕ) → IsSectionOf text a → IsSectionOf text b → a ≡ b
section_unique text a b x y =
    append_cancel_left (codes "<![CDATA[") a b (append_cancel_right (codes "<![CDATA[" ++ a) (codes "<![CDATA[" ++ b) (codes "]]>") (sym x.2 ∙ y.2))

-- a part is told by its text and by its token
one_part : (p q : TextPart) (a b : List TextPart) (kind : TokenKind) → AreTextParts (p ∷ a) → AreTextParts (q ∷ b) → MayBe p kind → MayBe q kind → part_text p ≡ part_text q → p ≡ q
one_part (data_part t) (data_part u) a b kind x y is also same = ap data_part same
one_part (data_part t) (reference_part u d) a b kind x y is (inl also) same = absurd (cc)
one_part (data_part t) (reference_part u d) a b kind x y is (inr also) same = absurd (cc)
one_part (data_part t) (section_part u d) a b kind x y is also same = absurd (cc)
one_part (reference_part t c) (data_part u) a b kind x y (inl is) also same = absurd (cc)
one_part (reference_part t c) (data_part u) a b kind x y (inr is) also same = absurd (cc)
one_part (reference_part t c) (reference_part u d) a b kind x y is also same =
    ap₂ reference_part same (stands_unique u c d (subst (λ (v : List ℕ). StandsFor v c) same x.0) y.0)
one_part (reference_part t c) (section_part u d) a b kind x y (inl is) also same = absurd (cc)
one_part (reference_part t c) (section_part u d) a b kind x y (inr is) also same = absurd (cc)
one_part (section_part t c) (data_part u) a b kind x y is also same = absurd (cc)
one_part (section_part t c) (reference_part u d) a b kind x y is (inl also) same = absurd (cc)
one_part (section_part t c) (reference_part u d) a b kind x y is (inr also) same = absurd (cc)
one_part (section_part t c) (section_part u d) a b kind x y is also same =
    ap₂ section_part same (section_unique u c d (subst (λ (v : List ℕ). IsSectionOf v c) same x.0) y.0)

behind_part : (part : TextPart) (parts : List TextPart) → AreTextParts (part ∷ parts) → AreTextParts parts
behind_part (data_part text) parts are = are.2
behind_part (reference_part text c) parts are = are.1
behind_part (section_part text content) parts are = are.1

-- a text is spelled by parts in one way
parts_same : (a b : List TextPart) → AreTextParts a → AreTextParts b → parts_text a ≡ parts_text b → a ≡ b
parts_same [] [] x y same = refl
parts_same [] (part ∷ parts) x y same = absurd (no_part part parts y same)
parts_same (part ∷ parts) [] x y same = absurd (no_part part parts x (sym same))
parts_same (p ∷ a) (q ∷ b) x y same =
    let left = front_token p a x in
    let right = front_token q b y in
    let fronts = fronts_same (part_text p) (parts_text a) (part_text q) (parts_text b) left.0 right.0 left.2 right.2 same in
    ap₂ (λ (part : TextPart) (parts : List TextPart). part ∷ parts) (one_part p q a b right.0 x y (subst (MayBe p) fronts.0 left.1) right.1 fronts.1)
    (parts_same a b (behind_part p a x) (behind_part q b y) fronts.2)

-- a text item has one value
pub one_value : (text a b : List ℕ) → HasTextValue text a → HasTextValue text b → a ≡ b
one_value text a b (parts, are, spell, is) (others, also, spelt, value) = sym is ∙ ap parts_value (parts_same parts others are also (spell ∙ sym spelt)) ∙ value

pub same_chars : (text a b : List ℕ) → HasTextValue text (encode_utf8_all a) → HasTextValue text (encode_utf8_all b) → a ≡ b
same_chars text a b x y = encodes_same a b (one_value text (encode_utf8_all a) (encode_utf8_all b) x y)
