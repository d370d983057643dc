-- The longest token at the front of a text.
use Rattle.std.proofs.Common.{zero, suc, ◌≡◌, ◌≢◌, ℕ, ◌+◌, ◌-◌, ◌<◌, ◌≤◌, List, [], ◌∷◌, ◌++◌, length, get_or, take, drop, true, false, eqb, ◌⊎◌, refl, ap, sym, subst, ◌∙◌, arith, inl, inr, Option, Some, None, eq-eqb, append_assoc, encode_utf8, encode_utf8_all}
use Rattle.std.proofs.lemmas.Bool.{cases_lt, cases_Bool, not-false, ne_eqb, both_ways}
use Rattle.std.proofs.lemmas.List.{length-append, length-take-le, length-drop, take-append-drop, take_at, take-take, get_or-take, get_or_past, get_or-append-add}
use Rattle.std.proofs.lemmas.Str.{NoCharPasses-byte, byte_from_char, encode_same, length-encode, len_utf8_bounds, length-le-encodes}
use Rattle.std.specs.List.{AllByRecursion}
use Rattle.std.specs.Str.{IsUtf8, NonePass}
use Rattle.xt_spec.specs.Char.{is_char}
use Rattle.xt_spec.specs.Token.{TokenKind, start_tag, empty_tag, end_tag, char_data, char_ref, entity_ref, cdata_section, comment, pi, declaration, doctype, IsPlain, Spells, BeginsClose, HoldsNoClose, MayStand, IsFront, NoFront, IsLongestFront}
use Rattle.xt_lex.specs.Data.{IsDelimiter, IsFirstData, is_no_char}
use Rattle.xt_lex.specs.Scan.{reference}
use Rattle.xt_lex.specs.Markup.{angle_markup, markup}
use Rattle.xt_lex.proofs.DataLemmas.{drop_longer, close_reads}
use Rattle.xt_lex.proofs.References.{IsFound, pair_parts, reference_takes, reference_again, found_inner}
use Rattle.xt_lex.proofs.Spelling.{strip}
use Rattle.xt_lex.proofs.AngleMarkup.{IsSpecial, IsAngleMarkup, angle_markup_takes, angle_markup_again, special_begins}
use Rattle.xt_lex.proofs.Tags.{IsTagKind, no_tag, no_tag_ref, no_tag_other}

-- the characters of character data
plain_chars : (cs text : List ℕ) → encode_utf8_all cs ≡ text → NonePass is_no_char cs → ((i : ℕ) → i < length text → ¬ (IsDelimiter (get_or text i 0))) → AllByRecursion IsPlain cs
plain_chars [] text e none plain = tt
plain_chars (c ∷ cs) text e none plain =
    let wide = len_utf8_bounds c in
    let size = length-encode c in
    let joined = length-append (encode_utf8 c) (encode_utf8_all cs) in
    let all = ap length e in
    let first : c < 128 → get_or text 0 0 ≡ c = λ small. byte_from_char text (encode_utf8_all cs) c (sym e) small in
    let some : 0 < length text = omega (arith, wide.0) in
    let rest = plain_chars cs (encode_utf8_all cs) refl none.1 (λ i within h.
    let at : get_or text (length (encode_utf8 c) + i) 0 ≡ get_or (encode_utf8_all cs) i 0 = ap (λ t. get_or t (length (encode_utf8 c) + i) 0) (sym e) ∙ get_or-append-add (encode_utf8 c) (encode_utf8_all cs) i 0 in
    plain (length (encode_utf8 c) + i) (omega arith) (subst IsDelimiter (sym at) h)) in
    ((not-false _ none.0, λ is. plain 0 some (inl (first (omega arith) ∙ is)), λ is. plain 0 some (inr (first (omega arith) ∙ is))), rest)

none_is : (p : ℕ) → ((c : ℕ) → IsPlain c → c ≢ p) → (cs : List ℕ) → AllByRecursion IsPlain cs → NonePass (λ d. eqb d p) cs
none_is p ne [] h = tt
none_is p ne (c ∷ cs) h = (ne_eqb c p (ne c h.0), none_is p ne cs h.1)

lacks : (p : ℕ) (cs text : List ℕ) → p < 128 → encode_utf8_all cs ≡ text → NonePass (λ d. eqb d p) cs → (i : ℕ) → i < length text → get_or text i 0 ≡ p → ⊥
lacks p cs text small e none i within is =
    both_ways (eqb (get_or text i 0) p) (NoCharPasses-byte (λ d. eqb d p) text i (cs, e, none) within (omega arith)) (eq-eqb _ _ is)

-- no byte of plain characters is a delimiter
pub plain_bytes : (cs text : List ℕ) → encode_utf8_all cs ≡ text → AllByRecursion IsPlain cs → (i : ℕ) → i < length text → ¬ (IsDelimiter (get_or text i 0))
plain_bytes cs text e plain i within (inl is) = lacks 60 cs text (omega arith) e (none_is 60 (λ c h. h.1) cs plain) i within is
plain_bytes cs text e plain i within (inr is) = lacks 38 cs text (omega arith) e (none_is 38 (λ c h. h.2) cs plain) i within is

all_behind : (front es : List ℕ) → AllByRecursion IsPlain (front ++ es) → AllByRecursion IsPlain es
all_behind [] es h = h
all_behind (c ∷ cs) es h = all_behind cs es h.1

length_pos : (cs : List ℕ) → cs ≢ [] → 0 < length cs
length_pos [] h = absurd (h refl)
length_pos (c ∷ cs) h = omega arith

-- a text that begins with `<` has no character data at its front
pub chars_begin : (s : List ℕ) (n : ℕ) → IsFront char_data n s → (0 < n) × ¬ (IsDelimiter (get_or s 0 0))
chars_begin s n f =
    let cs = f.spelled.0 in
    let some = length_pos cs f.spelled.1 in
    let fits = f.within in
    let whole = length-take-le n s f.within in
    let size = ap length f.spelled.3 in
    let wide = length-le-encodes cs in
    let pos : 0 < n = omega arith in
    let first : get_or (take n s) 0 0 ≡ get_or s 0 0 = get_or-take n s 0 0 pos in
    (pos, λ h. plain_bytes cs (take n s) (sym f.spelled.3) f.spelled.2 0 (omega arith) (subst IsDelimiter (sym first) h))

-- every kind is character data, begins with `<`, or is a reference
abbrev pub IsRef : TokenKind → Type 0
IsRef k = (k ≡ char_ref) ⊎ (k ≡ entity_ref)

pub kinds : (k : TokenKind) → (k ≡ char_data) ⊎ (IsAngleMarkup k ⊎ IsRef k)
kinds start_tag = inr (inl (inl (inl refl)))
kinds empty_tag = inr (inl (inl (inr (inl refl))))
kinds end_tag = inr (inl (inl (inr (inr refl))))
kinds cdata_section = inr (inl (inr tt))
kinds comment = inr (inl (inr tt))
kinds pi = inr (inl (inr tt))
kinds declaration = inr (inl (inr tt))
kinds doctype = inr (inl (inr tt))
kinds char_data = inl refl
kinds char_ref = inr (inr (inl refl))
kinds entity_ref = inr (inr (inr refl))

-- a token that ends at a delimiter of its own
abbrev pub IsMarkup : TokenKind → Type 0
IsMarkup k = IsAngleMarkup k ⊎ IsRef k

special_data : (k : TokenKind) → k ≡ char_data → IsSpecial k → ⊥
special_data k e s = subst IsSpecial e s

pub not_data : (k : TokenKind) → k ≡ char_data → IsMarkup k → ⊥
not_data k e (inl (inl m)) = no_tag k e m
not_data k e (inl (inr s)) = special_data k e s
not_data k e (inr (inl r)) = absurd (cc)
not_data k e (inr (inr r)) = absurd (cc)

spelled_as : (k j : TokenKind) (t : List ℕ) → k ≡ j → Spells j t → Spells k t
spelled_as k j t e h = subst (λ k. Spells k t) (sym e) h

found_spells : (k : TokenKind) (t : List ℕ) → IsFound k t → Spells k t × IsRef k
found_spells k t (inl (e, h)) = (spelled_as k char_ref t e h, inl e)
found_spells k t (inr (e, h)) = (spelled_as k entity_ref t e h, inr e)

spells_found : (k : TokenKind) (t : List ℕ) → Spells k t → IsRef k → IsFound k t
spells_found char_ref t h r = inl (refl, h)
spells_found entity_ref t h r = inr (refl, h)
spells_found char_data t h (inl e) = absurd (cc)
spells_found char_data t h (inr e) = absurd (cc)
spells_found start_tag t h r = absurd (no_tag_ref start_tag r (inl refl))
spells_found empty_tag t h r = absurd (no_tag_ref empty_tag r (inr (inl refl)))
spells_found end_tag t h r = absurd (no_tag_ref end_tag r (inr (inr refl)))
spells_found cdata_section t h (inl e) = absurd (cc)
spells_found cdata_section t h (inr e) = absurd (cc)
spells_found comment t h (inl e) = absurd (cc)
spells_found comment t h (inr e) = absurd (cc)
spells_found pi t h (inl e) = absurd (cc)
spells_found pi t h (inr e) = absurd (cc)
spells_found declaration t h (inl e) = absurd (cc)
spells_found declaration t h (inr e) = absurd (cc)
spells_found doctype t h (inl e) = absurd (cc)
spells_found doctype t h (inr e) = absurd (cc)

-- a tag begins with `<`
tag_begins : (k : TokenKind) (t : List ℕ) → Spells k t → IsTagKind k → (x : List ℕ) × (t ≡ 60 ∷ x)
tag_begins start_tag t (tag, is, e) m = (_, e)
tag_begins empty_tag t (tag, is, e) m = (_, e)
tag_begins end_tag t (name, q, (blank, b, e)) m = (_, e)
tag_begins char_data t s m = absurd (no_tag char_data refl m)
tag_begins char_ref t s m = absurd (no_tag_ref char_ref (inl refl) m)
tag_begins entity_ref t s m = absurd (no_tag_ref entity_ref (inr refl) m)
tag_begins cdata_section t s m = absurd (no_tag_other cdata_section (λ e. cc) (λ e. cc) (λ e. cc) m)
tag_begins comment t s m = absurd (no_tag_other comment (λ e. cc) (λ e. cc) (λ e. cc) m)
tag_begins pi t s m = absurd (no_tag_other pi (λ e. cc) (λ e. cc) (λ e. cc) m)
tag_begins declaration t s m = absurd (no_tag_other declaration (λ e. cc) (λ e. cc) (λ e. cc) m)
tag_begins doctype t s m = absurd (no_tag_other doctype (λ e. cc) (λ e. cc) (λ e. cc) m)

-- what begins with `<`
angle_markup_begins : (k : TokenKind) (t : List ℕ) → Spells k t → IsAngleMarkup k → (x : List ℕ) × (t ≡ 60 ∷ x)
angle_markup_begins k t h (inl m) = tag_begins k t h m
angle_markup_begins k t h (inr s) = special_begins k t h s

pub markup_begins : (k : TokenKind) (t : List ℕ) → Spells k t → IsMarkup k → (b : ℕ) × (x : List ℕ) × (t ≡ b ∷ x) × IsDelimiter b
markup_begins k t s (inl m) = let first = angle_markup_begins k t s m in (60, first.0, first.1, inl refl)
markup_begins k t s (inr r) = let inner = found_inner k t (spells_found k t s r) in (38, inner.0, inner.1, inr refl)

pub markup_again : (t r : List ℕ) (k : TokenKind) → Spells k t → IsMarkup k → markup (t ++ r) ≡ Some (k, r)
markup_again t r k s (inl m) =
    let first = angle_markup_begins k t s m in
    let split : t ++ r ≡ 60 ∷ (first.0 ++ r) = ap (λ t. t ++ r) first.1 in
    ap markup split ∙ ap angle_markup (sym split) ∙ angle_markup_again t r k s m
markup_again t r k s (inr ref) =
    let found = spells_found k t s ref in
    let inner = found_inner k t found in
    let split : t ++ r ≡ 38 ∷ (inner.0 ++ r) = ap (λ t. t ++ r) inner.1 in
    ap markup split ∙ ap reference (sym split) ∙ reference_again t r k found

markup_takes : (s r : List ℕ) (k : TokenKind) → IsUtf8 s → markup s ≡ Some (k, r) → (t : List ℕ) × (s ≡ t ++ r) × Spells k t × IsMarkup k
markup_takes [] r k u h = absurd (cc)
markup_takes (b ∷ bs) r k u h =
    elim (cases_Bool (eqb b 60)) [
      | inl e ↦
          let found = angle_markup_takes (b ∷ bs) r k u (rw e at h) in
          (found.0, found.1, found.2, inl found.3)
      | inr e ↦ elim (cases_Bool (eqb b 38)) [
        | inl f ↦
            let found = reference_takes (b ∷ bs) r k u (rw (e, f) at h) in
            let spelled = found_spells k found.0 found.2 in
            (found.0, found.1, spelled.0, inr spelled.1)
        | inr f ↦ let none : ◌≡◌ {A = Option (TokenKind × List ℕ)} None (Some (k, r)) = rw (e, f) at h in absurd (cc)
      ]
    ]

not_chars : (s : List ℕ) (k : TokenKind) (n : ℕ) → IsDelimiter (get_or s 0 0) → IsFront k n s → k ≡ char_data → ⊥
not_chars s k n begins f is =
    let g : IsFront char_data n s = subst (λ k. IsFront k n s) is f in
    (chars_begin s n g).1 begins

is_markup : (s : List ℕ) (k : TokenKind) (n : ℕ) → IsDelimiter (get_or s 0 0) → IsFront k n s → IsMarkup k
is_markup s k n begins f = elim (kinds k) [
  | inl is ↦ absurd (not_chars s k n begins f is)
  | inr other ↦ other
]

pub markup_front : (s : List ℕ) (k : TokenKind) (n : ℕ) → IsDelimiter (get_or s 0 0) → IsFront k n s → markup s ≡ Some (k, drop n s)
markup_front s k n begins f =
    subst (λ t. markup t ≡ Some (k, drop n s)) (take-append-drop n s) (markup_again (take n s) (drop n s) k f.spelled (is_markup s k n begins f))

pub stands_markup : (k : TokenKind) (n : ℕ) (s : List ℕ) → IsMarkup k → MayStand k n s
stands_markup char_data n s h = absurd (not_data char_data refl h)
stands_markup start_tag n s h = tt
stands_markup empty_tag n s h = tt
stands_markup end_tag n s h = tt
stands_markup char_ref n s h = tt
stands_markup entity_ref n s h = tt
stands_markup cdata_section n s h = tt
stands_markup comment n s h = tt
stands_markup pi n s h = tt
stands_markup declaration n s h = tt
stands_markup doctype n s h = tt

pub markup_shorter : (s r : List ℕ) (k : TokenKind) → IsUtf8 s → markup s ≡ Some (k, r) → length r ≤ length s
markup_shorter s r k u h =
    let found = markup_takes s r k u h in
    omega (arith, ap length found.1, length-append found.0 r)

pub markup_longest : (s r : List ℕ) (k : TokenKind) → IsUtf8 s → IsDelimiter (get_or s 0 0) → markup s ≡ Some (k, r) → IsLongestFront s k (length s - length r)
markup_longest s r k u begins h =
    let found = markup_takes s r k u h in
    let size : length found.0 ≡ length s - length r = omega (arith, ap length found.1, length-append found.0 r) in
    let same : take (length s - length r) s ≡ found.0 = ap (take (length s - length r)) found.1 ∙ take_at found.0 r (length s - length r) size in
    record {
      front = record {
        within = omega arith;
        spelled = subst (Spells k) (sym same) found.2;
        stands = stands_markup k (length s - length r) s found.3;
      };
      longest = λ other m f.
          let again = markup_front s other m begins f in
          let both = pair_parts other k (drop m s) r (sym again ∙ h) in
          (both.0, let w = f.within in omega (arith, ap length both.1, length-drop m s));
    }

pub markup_none : (s : List ℕ) → IsDelimiter (get_or s 0 0) → markup s ≡ None → NoFront s
markup_none s begins h k n f =
    let again = markup_front s k n begins f in
    absurd (cc)

first_of : (s : List ℕ) (n b : ℕ) (x : List ℕ) → take n s ≡ b ∷ x → get_or s 0 0 ≡ b
first_of s zero b x h = absurd (cc)
first_of [] (suc n) b x h = absurd (cc)
first_of (y ∷ ys) (suc n) b x h = ap (λ t. get_or t 0 0) h

-- other tokens begin with a delimiter
pub begins_delimiter : (s : List ℕ) (k : TokenKind) (n : ℕ) → IsFront k n s → IsMarkup k → IsDelimiter (get_or s 0 0)
begins_delimiter s k n f d =
    let first = markup_begins k (take n s) f.spelled d in
    subst IsDelimiter (sym (first_of s n first.0 first.1 first.2)) first.3

no_char_behind : (es x y rest : List ℕ) (c : ℕ) → AllByRecursion IsPlain es → encode_utf8_all es ≡ x → 0 < length x → x ++ y ≡ encode_utf8 c ++ rest → is_char c ≡ false → ⊥
no_char_behind [] x y rest c plain e some same bad = omega (arith, ap length e)
no_char_behind (d ∷ es) x y rest c plain e some same bad =
    let regrouped : encode_utf8 d ++ (encode_utf8_all es ++ y) ≡ encode_utf8 c ++ rest = sym (append_assoc (encode_utf8 d) (encode_utf8_all es) y) ∙ ap (λ t. t ++ y) e ∙ same in
    let heads = encode_same d c (encode_utf8_all es ++ y) rest regrouped in
    both_ways (is_char c) bad (subst (λ c. is_char c ≡ true) heads.0 plain.0.0)

data_maximal : (s : List ℕ) (n m : ℕ) → IsFirstData s n → IsFront char_data m s → n < m → ⊥
data_maximal s n m d f more =
    let cs = f.spelled.0 in
    let fits = f.within in
    let whole = length-take-le m s f.within in
    elim (d.stops (omega arith)) [
      | inl delimiter ↦ plain_bytes cs (take m s) (sym f.spelled.3) f.spelled.2 n (omega arith) (subst IsDelimiter (sym (get_or-take m s n 0 more)) delimiter)
      | inr other ↦ elim other [
        | inl close ↦ f.stands n more close
        | inr bad ↦
            let front : take n (take m s) ≡ take n s = take-take n m s (omega arith) in
            let cut : take m s ≡ encode_utf8_all d.chars.0 ++ drop n (take m s) = sym (take-append-drop n (take m s)) ∙ ap (λ t. t ++ drop n (take m s)) (front ∙ sym d.chars.1) in
            let rest = strip cs d.chars.0 (drop n (take m s)) (sym f.spelled.3 ∙ cut) in
            let plain = all_behind d.chars.0 rest.0 (subst (AllByRecursion IsPlain) rest.1 f.spelled.2) in
            let size = length-drop n (take m s) in
            no_char_behind rest.0 (drop n (take m s)) (drop m s) bad.1 bad.0 plain rest.2 (omega arith) (sym (drop_longer s m n (omega arith)) ∙ bad.2) bad.3
      ]
    ]

-- what holds no `]]>` as a part holds none itself
holds_no_close : (s : List ℕ) (n : ℕ) → n ≤ length s → ((k : ℕ) → k < n → ¬ (BeginsClose (drop k s))) → HoldsNoClose (take n s)
holds_no_close s n within none k closes =
    elim (cases_lt k n) [
      | inl below ↦ none k below (closes.0 ++ drop n s, drop_longer s n k (omega (arith, length-take-le n s within)) ∙ ap (λ t. t ++ drop n s) closes.1)
      | inr past ↦
          let reads = close_reads (take n s) k closes in
          let e : get_or (take n s) k 0 ≡ 0 = get_or_past (take n s) k 0 (omega (arith, length-take-le n s within)) in
          absurd (omega arith)
    ]

pub data_longest : (s : List ℕ) (n : ℕ) → (IsDelimiter (get_or s 0 0) → ⊥) → IsFirstData s n → 0 < n → IsLongestFront s char_data n
data_longest s n plain d some =
    record {
      front = record {
        within = d.within;
        spelled = (
          d.chars.0,
          λ e. omega (arith, ap length d.chars.1, ap (λ cs. length (encode_utf8_all cs)) e, length-take-le n s d.within),
          plain_chars d.chars.0 (take n s) d.chars.1 d.chars.2 (λ i within h. let below : i < n = omega (arith, length-take-le n s d.within) in d.plain i below (subst IsDelimiter (get_or-take n s i 0 below) h)),
          sym d.chars.1,
          holds_no_close s n d.within d.unclosed,
        );
        stands = d.unclosed;
      };
      longest = λ other m f. elim (kinds other) [
        | inl e ↦ (
          e,
          elim (cases_lt n m) [
            | inl more ↦ absurd (data_maximal s n m d (subst (λ k. IsFront k m s) e f) more)
            | inr le ↦ le
          ],
        )
        | inr other_ ↦ absurd (plain (begins_delimiter s other m f other_))
      ];
    }

pub data_none : (s : List ℕ) → (IsDelimiter (get_or s 0 0) → ⊥) → IsFirstData s 0 → NoFront s
data_none s plain d k n f = elim (kinds k) [
  | inl e ↦
      let g : IsFront char_data n s = subst (λ k. IsFront k n s) e f in
      data_maximal s 0 n d g (chars_begin s n g).0
  | inr other ↦ plain (begins_delimiter s k n f other)
]

some_taken : (s : List ℕ) (n : ℕ) → ((b : ℕ) × (x : List ℕ) × (take n s ≡ b ∷ x) × IsDelimiter b) → 0 < n
some_taken s zero begins = let e = begins.2 in absurd (cc)
some_taken s (suc n) begins = omega arith

pub front_some : (s : List ℕ) (k : TokenKind) (n : ℕ) → IsFront k n s → 0 < n
front_some s k n f = elim (kinds k) [
  | inl e ↦ (chars_begin s n (subst (λ k. IsFront k n s) e f)).0
  | inr other ↦ some_taken s n (markup_begins k (take n s) f.spelled other)
]
