-- Where the fast tests of bytes pass, the exact ones of characters do.
use Rattle.std.proofs.Common.{◌≡◌, ℕ, ◌<◌, ◌≤◌, List, [], ◌∷◌, ◌++◌, length, Bool, true, false, eqb, ltb, ◌⊎◌, refl, ap, sym, subst, ◌∙◌, arith, inl, inr, eqb-true, encode_utf8, encode_utf8_all, le_refl}
use Rattle.std.proofs.lemmas.Bool.{cases_Bool, cases_lt, and_parts, and_from, both_ways, or_left, or_right, or_cases, not_from_true, not_from_false}
use Rattle.std.proofs.lemmas.Bool.Decides.{nat_tests}
use Rattle.std.proofs.lemmas.List.{take_all}
use Rattle.std.proofs.lemmas.List.Folds.{list_all-append}
use Rattle.std.proofs.lemmas.Str.{encode_ascii, chars-IsAscii, chars-encodes}
use Rattle.std.specs.List.{list_all}
use Rattle.std.specs.Str.{IsUtf8, NoCharPasses, NonePass, chars}
use lib.Utf8.{scalars, scalar, encode}
use Rattle.xt_spec.specs.Char.{is_within, is_char, is_name_char, is_name_start_char, is_not_colon}
use Rattle.xt_spec.specs.Name.{are_ncname_chars}
use Rattle.xt_lex.specs.Data.{is_no_char, AreFirstChars}
use Rattle.xt_lex.specs.Fast.{is_sound_byte, is_attr_byte, is_plain_start, is_plain_byte, is_plain_name}
use Rattle.xt_lex.specs.NameTest.{qname}
use Rattle.xt_lex.specs.Scan.{is_attr_char, are_chars}
use Rattle.xt_lex.proofs.NameLemmas.{ncname_from_test, test_from_qname}
use Rattle.xt_lex.proofs.Spelling.{list_all_weaker}
use Rattle.xt_lex.proofs.Utf8.{ascii_from, ascii}

wide_char : (c : ℕ) → scalar c ≡ true → 128 ≤ c → is_char c ≡ false → (c ≡ 65534) ⊎ (c ≡ 65535)
wide_char c s large bad = grind (arith, nat_tests)

first_fails : (p : ℕ → Bool) (b : ℕ) (bs xs : List ℕ) → xs ≡ b ∷ bs → p b ≡ false → list_all p xs ≡ true → ⊥
first_fails p b bs xs e fails all =
    let at : list_all p (b ∷ bs) ≡ true = subst (λ t. list_all p t ≡ true) e all in
    both_ways (p b) fails (and_parts _ _ at).0

small_bad : (c : ℕ) → c < 128 → is_char c ≡ false → is_sound_byte c ≡ false
small_bad c small bad = grind (arith, nat_tests)

encode_fffe : encode_utf8 65534 ≡ 239 ∷ 191 ∷ 190 ∷ []
unfolding encode
encode_fffe = refl

encode_ffff : encode_utf8 65535 ≡ 239 ∷ 191 ∷ 191 ∷ []
unfolding encode
encode_ffff = refl

-- a character of sound bytes is a Char
sound_char : (c : ℕ) → scalar c ≡ true → list_all is_sound_byte (encode_utf8 c) ≡ true → is_char c ≡ true
sound_char c s all =
    elim (cases_Bool (is_char c)) [
      | inl is ↦ is
      | inr bad ↦ elim (cases_lt c 128) [
        | inl small ↦ absurd (first_fails is_sound_byte c [] (encode_utf8 c) (encode_ascii c small) (small_bad c small bad) all)
        | inr large ↦ elim (wide_char c s large bad) [
          | inl e ↦ absurd (first_fails is_sound_byte 239 (191 ∷ 190 ∷ []) (encode_utf8 c) (ap encode_utf8 e ∙ encode_fffe) refl all)
          | inr e ↦ absurd (first_fails is_sound_byte 239 (191 ∷ 191 ∷ []) (encode_utf8 c) (ap encode_utf8 e ∙ encode_ffff) refl all)
        ]
      ]
    ]

parts_all : (p : ℕ → Bool) (xs ys : List ℕ) → list_all p (xs ++ ys) ≡ true → (list_all p xs ≡ true) × (list_all p ys ≡ true)
parts_all p xs ys h = and_parts _ _ (sym (list_all-append p xs ys) ∙ h)

pub sound_chars : (cs : List ℕ) → scalars cs ≡ true → list_all is_sound_byte (encode_utf8_all cs) ≡ true → list_all is_char cs ≡ true
sound_chars [] s all = refl
sound_chars (c ∷ cs) s all =
    let both = and_parts _ _ s in
    let split = parts_all is_sound_byte (encode_utf8 c) (encode_utf8_all cs) all in
    and_from _ _ (sound_char c both.0 split.0) (sound_chars cs both.1 split.1)

none_no_char : (cs : List ℕ) → list_all is_char cs ≡ true → NonePass is_no_char cs
none_no_char [] h = tt
none_no_char (c ∷ cs) h =
    let both = and_parts _ _ h in
    (not_from_true _ both.0, none_no_char cs both.1)

pub sound_first_chars : (text : List ℕ) → IsUtf8 text → list_all is_sound_byte text ≡ true → AreFirstChars text (length text)
sound_first_chars text (cs, (s, e)) all =
    let sound : list_all is_sound_byte (encode_utf8_all cs) ≡ true = subst (λ t. list_all is_sound_byte t ≡ true) (sym e) all in
    record {
      within = le_refl _;
      chars = subst (NoCharPasses is_no_char) (sym (take_all (length text) text (le_refl _))) (cs, e, none_no_char cs (sound_chars cs s sound));
      stops = λ more. absurd (omega arith);
    }

attr_char : (c : ℕ) → scalar c ≡ true → list_all is_attr_byte (encode_utf8 c) ≡ true → is_attr_char c ≡ true
attr_char c s all =
    let sound = sound_char c s (list_all_weaker is_attr_byte is_sound_byte (λ b h. (and_parts _ _ h).0) (encode_utf8 c) all) in
    elim (cases_Bool (eqb c 60)) [
      | inl e ↦
          let same : c ≡ 60 = eqb-true c 60 e in
          absurd (first_fails is_attr_byte 60 [] (encode_utf8 c) (ap encode_utf8 same ∙ encode_ascii 60 (omega arith)) refl all)
      | inr e ↦ and_from _ _ sound (not_from_false _ e)
    ]

attr_chars : (cs : List ℕ) → scalars cs ≡ true → list_all is_attr_byte (encode_utf8_all cs) ≡ true → list_all is_attr_char cs ≡ true
attr_chars [] s all = refl
attr_chars (c ∷ cs) s all =
    let both = and_parts _ _ s in
    let split = parts_all is_attr_byte (encode_utf8 c) (encode_utf8_all cs) all in
    and_from _ _ (attr_char c both.0 split.0) (attr_chars cs both.1 split.1)

pub attr_bytes : (text : List ℕ) → IsUtf8 text → list_all is_attr_byte text ≡ true → list_all is_attr_char (chars text) ≡ true
attr_bytes text (cs, (s, e)) all =
    let read : chars text ≡ cs = ap chars (sym e) ∙ chars-encodes cs s in
    ap (λ l. list_all is_attr_char l) read ∙ attr_chars cs s (subst (λ t. list_all is_attr_byte t ≡ true) (sym e) all)

plain_start_name : (b : ℕ) → is_plain_start b ≡ true → is_name_start_char b ≡ true
plain_start_name b h = grind (arith, nat_tests)

digit_name : (b : ℕ) → is_within 48 57 b ≡ true → is_name_char b ≡ true
digit_name b h = or_left _ _ (or_left _ _ (or_left _ _ (or_right _ _ h)))

plain_name_char : (b : ℕ) → is_plain_byte b ≡ true → is_name_char b ≡ true
plain_name_char b h = elim (or_cases _ _ h) [
  | inl h ↦ elim (or_cases _ _ h) [
    | inl h ↦ elim (or_cases _ _ h) [
      | inl h ↦ let start = plain_start_name b h in rw start refl
      | inr h ↦ digit_name b h
    ]
    | inr h ↦ let is = eqb-true b 45 h in rw is refl
  ]
  | inr h ↦ let is = eqb-true b 46 h in rw is refl
]

plain_no_colon : (b : ℕ) → is_plain_byte b ≡ true → is_not_colon b ≡ true
plain_no_colon b h = grind (arith, nat_tests)

plain_small : (b : ℕ) → is_plain_byte b ≡ true → ltb b 128 ≡ true
plain_small b h = grind (arith, nat_tests)

plain_all : (text : List ℕ) → is_plain_name text ≡ true → list_all is_plain_byte text ≡ true
plain_all [] h = refl
plain_all (b ∷ bs) h =
    let both = and_parts _ _ h in
    let first : is_plain_start b ≡ true = both.0 in
    and_from _ _ (rw first refl) both.1

pub plain_ascii : (text : List ℕ) → is_plain_name text ≡ true → list_all (λ b. ltb b 128) text ≡ true
plain_ascii text h = list_all_weaker is_plain_byte (λ b. ltb b 128) plain_small text (plain_all text h)

plain_chars : (text : List ℕ) → is_plain_name text ≡ true → are_ncname_chars text ≡ true
plain_chars [] h = absurd (cc)
plain_chars (b ∷ bs) h =
    let both = and_parts _ _ h in
    let all = plain_all (b ∷ bs) h in
    and_from _ _ (and_from _ _ (plain_start_name b both.0) (list_all_weaker is_plain_byte is_name_char plain_name_char bs both.1)) (list_all_weaker is_plain_byte is_not_colon plain_no_colon (b ∷ bs) all)

pub plain_ncname : (text : List ℕ) → is_plain_name text ≡ true → are_ncname_chars (chars text) ≡ true
plain_ncname text h = ap are_ncname_chars (chars-IsAscii text (ascii_from text (plain_ascii text h))) ∙ plain_chars text h

pub plain_qname : (text : List ℕ) → is_plain_name text ≡ true → qname text ≡ true
plain_qname text h = test_from_qname text (inl (ncname_from_test text (ascii text (plain_ascii text h)) (plain_ncname text h)))

-- the answer of the exact test, where the fast one passes
pub plain_ncname_value : (text bytes : List ℕ) (b : Bool) → bytes ≡ text → b ≡ is_plain_name bytes → b ≡ true → b ≡ are_ncname_chars (chars text)
plain_ncname_value text bytes b same e is = is ∙ sym (plain_ncname text (ap is_plain_name (sym same) ∙ sym e ∙ is))

pub plain_qname_value : (text bytes : List ℕ) (b : Bool) → bytes ≡ text → b ≡ is_plain_name bytes → b ≡ true → b ≡ qname text
plain_qname_value text bytes b same e is = is ∙ sym (plain_qname text (ap is_plain_name (sym same) ∙ sym e ∙ is))

pub attr_bytes_value : (text bytes : List ℕ) (b : Bool) → IsUtf8 text → bytes ≡ text → b ≡ list_all is_attr_byte bytes → b ≡ true → b ≡ list_all is_attr_char (chars text)
attr_bytes_value text bytes b u same e is = is ∙ sym (attr_bytes text u (ap (λ t. list_all is_attr_byte t) (sym same) ∙ sym e ∙ is))

pub sound_bytes_value : (text bytes : List ℕ) (b : Bool) → IsUtf8 text → bytes ≡ text → b ≡ list_all is_sound_byte bytes → b ≡ true → b ≡ are_chars text
sound_bytes_value text bytes b (cs, (s, e)) same is passed =
    let read : chars text ≡ cs = ap chars (sym e) ∙ chars-encodes cs s in
    let all : list_all is_sound_byte (encode_utf8_all cs) ≡ true = subst (λ t. list_all is_sound_byte t ≡ true) (same ∙ sym e) (sym is ∙ passed) in
    passed ∙ sym (ap (list_all is_char) read ∙ sound_chars cs s all)
