-- The parts of a text item: which one stands at the front, and what of the value was added.
use Rattle.std.proofs.Common.{not, ◌==◌, ◌≡◌, ◌≢◌, ◌∙◌, ℕ, ◌<◌, ◌≤◌, List, [], ◌∷◌, ◌++◌, length, get_or, refl, sym, ap, subst, arith, true, false, Bool, codes, inl, inr, append_assoc, encode_utf8, encode_utf8_all}
use Rattle.std.proofs.lemmas.Bool.{and_parts, cases_lt}
use Rattle.std.proofs.lemmas.Bool.Decides.{nat_tests}
use Rattle.std.proofs.lemmas.List.{append-nil}
use Rattle.std.proofs.lemmas.List.Sums.{list_all-from_AllPass}
use Rattle.std.proofs.lemmas.List.Elements.{All-from_get_or}
use Rattle.std.proofs.lemmas.Str.{length-le-encodes, NoCharPasses-byte}
use Rattle.std.specs.List.{AllByRecursion}
use Rattle.std.specs.Str.{NonePass, NoCharPasses}
use Rattle.xt_spec.specs.Reference.{StandsFor}
use Rattle.xt_spec.specs.Markup.{IsSectionOf}
use Rattle.xt_spec.specs.Token.{IsPlain, Spells, char_data}
use Rattle.xt_spec.specs.Text.{TextPart, data_part, reference_part, section_part, parts_text, characters_in, parts_value_in, begins_with_data, AreTextParts, HasValueIn}
use Rattle.xt_value.specs.Parts.{is_mark, lacks_all, Stops, Adds, PutsReference, PutsSection, PutsData}
use Rattle.xt_value.proofs.References.{wrapped}

-- character data

plain_lacks : (c : ℕ) → c ≢ 0x3C → c ≢ 0x26 → is_mark c ≡ false
plain_lacks c left right = grind (arith, nat_tests)

plain_pass : (cs : List ℕ) → AllByRecursion IsPlain cs → NonePass is_mark cs
plain_pass [] all = tt
plain_pass (c ∷ cs) all = (plain_lacks c all.0.1 all.0.2, plain_pass cs all.1)

big_lacks : (b : ℕ) → 128 ≤ b → is_mark b ≡ false
big_lacks b big = grind (arith, nat_tests)

lacks : (b : ℕ) → is_mark b ≡ false → not (is_mark b) ≡ true
lacks b is = ap not is

byte_lacks : (text : List ℕ) (i : ℕ) → NoCharPasses is_mark text → i < length text → not (is_mark (get_or text i 0)) ≡ true
byte_lacks text i none below =
    elim (cases_lt (get_or text i 0) 128) [
      | inl small ↦ lacks (get_or text i 0) (NoCharPasses-byte is_mark text i none below small)
      | inr big ↦ lacks (get_or text i 0) (big_lacks (get_or text i 0) (omega arith))
    ]

-- no `&` or `<` is among character data
pub data_lacks : (text : List ℕ) → Spells char_data text → lacks_all is_mark text ≡ true
data_lacks text spelt =
    let none : NoCharPasses is_mark text = (spelt.0, sym spelt.3, plain_pass spelt.0 spelt.2) in
    list_all-from_AllPass (λ b. not (is_mark b)) text (All-from_get_or (λ b. not (is_mark b) ≡ true) text 0 (λ i below. byte_lacks text i none below))

pub no_data : Spells char_data [] → ⊥
no_data spelt = nothing spelt.0 spelt.1 spelt.3
  where
    nothing : (cs : List ℕ) → cs ≢ [] → [] ≡ encode_utf8_all cs → ⊥
    nothing [] some is = some refl
    nothing (c ∷ cs) some is = let most = length-le-encodes (c ∷ cs) in let size = ap (λ (l : List ℕ). length l) is in absurd (omega arith)

-- how parts begin

pub reference_begins : (text : List ℕ) (c : ℕ) (rest : List ℕ) → StandsFor text c → (behind : List ℕ) × (text ++ rest ≡ 0x26 ∷ behind)
reference_begins text c rest stands =
    let (body, none, shape) = wrapped text c stands in
    ((body ++ 0x3B ∷ []) ++ rest, ap (λ (l : List ℕ). l ++ rest) shape)

pub section_begins : (text inner rest : List ℕ) → IsSectionOf text inner → (behind : List ℕ) × (text ++ rest ≡ 0x3C ∷ behind)
section_begins text inner rest (chars, lacks, spelled) = ((codes "![CDATA[" ++ inner ++ codes "]]>") ++ rest, ap (λ (l : List ℕ). l ++ rest) spelled)

-- a byte that stands for itself, and more
pub record BeginsPlain (text : List ℕ) : Type 0 where
  pub first : ℕ
  pub behind : List ℕ
  pub begins : text ≡ first ∷ behind
  pub plain : is_mark first ≡ false

from_not : (b : Bool) → not b ≡ true → b ≡ false
from_not true is = let bad : false ≡ true = is in absurd (cc)
from_not false is = refl

pub data_begins : (text rest : List ℕ) → Spells char_data text → BeginsPlain (text ++ rest)
data_begins [] rest spelt = absurd (no_data spelt)
data_begins (b ∷ text) rest spelt =
    record { first = b; behind = text ++ rest; begins = refl; plain = from_not (is_mark b) (and_parts _ _ (data_lacks (b ∷ text) spelt)).0 }

pub parts_stop : (parts : List TextPart) → AreTextParts parts → begins_with_data parts ≡ false → Stops is_mark (parts_text parts)
parts_stop [] are apart = inl refl
parts_stop (data_part text ∷ parts) are apart = absurd (cc)
parts_stop (reference_part text c ∷ parts) are apart =
    let (behind, begins) = reference_begins text c (parts_text parts) are.0 in
    inr (0x26, behind, begins, refl)
parts_stop (section_part text inner ∷ parts) are apart =
    let (behind, begins) = section_begins text inner (parts_text parts) are.0 in
    inr (0x3C, behind, begins, refl)

differ : (text : List ℕ) (b c : ℕ) (bytes others : List ℕ) → text ≡ b ∷ bytes → text ≡ c ∷ others → b ≡ c
differ text b c bytes others e f = let same = sym e ∙ f in cc

apart : ◌≡◌ {A = ℕ} 0x26 0x3C → ⊥
apart same = omega (arith, same)

marked : (b : ℕ) → is_mark b ≡ true → is_mark b ≡ false → ⊥
marked b is never = let bad = sym is ∙ never in absurd (cc)

pub add : (old piece others new : List ℕ) → new ≡ old ++ piece → old ++ (piece ++ others) ≡ new ++ others
add old piece others new is = sym (append_assoc old piece others) ∙ ap (λ (l : List ℕ). l ++ others) (sym is)

-- what begins with `&` begins with a reference
pub reference_adds : (inner : Bool) (text rest old new behind : List ℕ) → text ≡ 0x26 ∷ behind → PutsReference text rest old new → Adds (HasValueIn inner) text rest old new
reference_adds inner text rest old new behind begins puts value (parts, are, spell, value_is) = by parts are spell value_is
  where
    by : (parts : List TextPart) → AreTextParts parts → parts_text parts ≡ text → parts_value_in inner parts ≡ value → (others : List ℕ) × HasValueIn inner rest others × (old ++ value ≡ new ++ others)
    by [] are spell value_is = let bad = spell ∙ begins in absurd (cc)
    by (data_part front ∷ parts) are spell value_is =
        let b = data_begins front (parts_text parts) are.0 in
        let same : 0x26 ≡ b.first = differ text 0x26 b.first behind b.behind begins (sym spell ∙ b.begins) in
        absurd (marked b.first (ap is_mark (sym same)) b.plain)
    by (reference_part reference c ∷ parts) are spell value_is =
        let put = puts reference (parts_text parts) c are.0 (sym spell) in
        (parts_value_in inner parts, (parts, are.1, sym put.0, refl), ap (λ (l : List ℕ). old ++ l) (sym value_is) ∙ add old (encode_utf8 c) (parts_value_in inner parts) new put.1)
    by (section_part section content ∷ parts) are spell value_is =
        let (others, starts) = section_begins section content (parts_text parts) are.0 in
        absurd (apart (differ text 0x26 0x3C behind others begins (sym spell ∙ starts)))

-- .. with `<`, a CDATA section
pub section_adds : (inner : Bool) (text rest old new behind : List ℕ) → text ≡ 0x3C ∷ behind → PutsSection inner text rest old new → Adds (HasValueIn inner) text rest old new
section_adds inner text rest old new behind begins puts value (parts, are, spell, value_is) = by parts are spell value_is
  where
    by : (parts : List TextPart) → AreTextParts parts → parts_text parts ≡ text → parts_value_in inner parts ≡ value → (others : List ℕ) × HasValueIn inner rest others × (old ++ value ≡ new ++ others)
    by [] are spell value_is = let bad = spell ∙ begins in absurd (cc)
    by (data_part front ∷ parts) are spell value_is =
        let b = data_begins front (parts_text parts) are.0 in
        let same : 0x3C ≡ b.first = differ text 0x3C b.first behind b.behind begins (sym spell ∙ b.begins) in
        absurd (marked b.first (ap is_mark (sym same)) b.plain)
    by (reference_part reference c ∷ parts) are spell value_is =
        let (others, starts) = reference_begins reference c (parts_text parts) are.0 in
        absurd (apart (sym (differ text 0x3C 0x26 behind others begins (sym spell ∙ starts))))
    by (section_part section content ∷ parts) are spell value_is =
        let put = puts section content (parts_text parts) are.0 (sym spell) in
        (parts_value_in inner parts, (parts, are.1, sym put.0, refl), ap (λ (l : List ℕ). old ++ l) (sym value_is) ∙ add old (characters_in inner content) (parts_value_in inner parts) new put.1)

-- .. with another byte, character data, which goes on to the next `&` or `<`
pub data_adds : (inner : Bool) (text rest old new : List ℕ) (b : ℕ) (behind : List ℕ) → text ≡ b ∷ behind → is_mark b ≡ false → PutsData inner text rest old new → Adds (HasValueIn inner) text rest old new
data_adds inner text rest old new b behind begins plain puts value (parts, are, spell, value_is) = by parts are spell value_is
  where
    by : (parts : List TextPart) → AreTextParts parts → parts_text parts ≡ text → parts_value_in inner parts ≡ value → (others : List ℕ) × HasValueIn inner rest others × (old ++ value ≡ new ++ others)
    by [] are spell value_is = let bad = spell ∙ begins in absurd (cc)
    by (data_part front ∷ parts) are spell value_is =
        let put = puts front (parts_text parts) (data_lacks front are.0) (parts_stop parts are.2 are.1) (sym spell) in
        (parts_value_in inner parts, (parts, are.2, sym put.0, refl), ap (λ (l : List ℕ). old ++ l) (sym value_is) ∙ add old (characters_in inner front) (parts_value_in inner parts) new put.1)
    by (reference_part reference c ∷ parts) are spell value_is =
        let (others, starts) = reference_begins reference c (parts_text parts) are.0 in
        let same : b ≡ 0x26 = differ text b 0x26 behind others begins (sym spell ∙ starts) in
        absurd (marked b (ap is_mark same) plain)
    by (section_part section content ∷ parts) are spell value_is =
        let (others, starts) = section_begins section content (parts_text parts) are.0 in
        let same : b ≡ 0x3C = differ text b 0x3C behind others begins (sym spell ∙ starts) in
        absurd (marked b (ap is_mark same) plain)

-- .. of the bytes that the code reads
pub begins_with : (text bytes : List ℕ) (b : ℕ) → bytes ≡ text → 1 ≤ length bytes → get_or bytes 0 0 ≡ b → (behind : List ℕ) × (text ≡ b ∷ behind)
begins_with text [] b same some is = absurd (omega arith)
begins_with text (x ∷ bytes) b same some is = (bytes, sym same ∙ ap (λ (n : ℕ). n ∷ bytes) is)

pub no_mark : (b : ℕ) → b ≢ 0x26 → b ≢ 0x3C → is_mark b ≡ false
no_mark b first second = grind (arith, nat_tests)

-- steps, one after the other

pub adds_then : (Has : List ℕ → List ℕ → Type 0) (text mid rest old new last : List ℕ) → Adds Has text mid old new → Adds Has mid rest new last → Adds Has text rest old last
adds_then Has text mid rest old new last first second value has =
    let (others, has_others, is) = first value has in
    let (more, has_more, is_more) = second others has_others in
    (more, has_more, is ∙ is_more)

pub adds_nothing : (Has : List ℕ → List ℕ → Type 0) (text old new : List ℕ) → new ≡ old → Adds Has text text old new
adds_nothing Has text old new same value has = (value, has, ap (λ (l : List ℕ). l ++ value) (sym same))

-- nothing has no value but the empty one
pub value_end : (inner : Bool) (value : List ℕ) → HasValueIn inner [] value → value ≡ []
value_end inner value (parts, are, spell, is) = sym is ∙ by parts are spell
  where
    by : (parts : List TextPart) → AreTextParts parts → parts_text parts ≡ [] → parts_value_in inner parts ≡ []
    by [] are spell = refl
    by (data_part text ∷ parts) are spell = let b = data_begins text (parts_text parts) are.0 in let bad = sym spell ∙ b.begins in absurd (cc)
    by (reference_part text c ∷ parts) are spell =
        let (behind, begins) = reference_begins text c (parts_text parts) are.0 in
        let bad = sym spell ∙ begins in
        absurd (cc)
    by (section_part text content ∷ parts) are spell =
        let (behind, begins) = section_begins text content (parts_text parts) are.0 in
        let bad = sym spell ∙ begins in
        absurd (cc)

none_left : (xs : List ℕ) → (length xs == 0) ≡ true → xs ≡ []
none_left [] is = refl
none_left (x ∷ xs) is = grind (arith, nat_tests)

-- the whole value was added once nothing is left
pub value_whole : (Has : List ℕ → List ℕ → Type 0) (text rest out : List ℕ) → ((value : List ℕ) → Has [] value → value ≡ []) → Adds Has text rest [] out → (length rest == 0) ≡ true → (value : List ℕ) → Has text value → value ≡ out
value_whole Has text rest out ends adds none value has =
    let (others, has_others, is) = adds value has in
    let nothing : others ≡ [] = ends others (subst (λ (l : List ℕ). Has l others) (none_left rest none) has_others) in
    is ∙ ap (λ (l : List ℕ). out ++ l) nothing ∙ append-nil out

-- the value that the parts of an item have
pub value_is : (inner : Bool) (text out : List ℕ) (parts : List TextPart) → AreTextParts parts → parts_text parts ≡ text → ((value : List ℕ) → HasValueIn inner text value → value ≡ out) → HasValueIn inner text out
value_is inner text out parts are spell is = (parts, are, spell, is (parts_value_in inner parts) (parts, are, spell, refl))
