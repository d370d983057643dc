-- Parts of a text item, put together from characters and references, the last one first.
use Rattle.std.proofs.Common.{◌≡◌, ◌≢◌, ◌∙◌, ℕ, ◌+◌, List, [], ◌∷◌, ◌++◌, length, get_or, refl, sym, ap, arith, inl, inr, true, false, Bool, not, ◌==◌, eqb, lit<, codes, encode_utf8, encode_utf8_all, append_assoc, append-nil}
use Rattle.std.proofs.lemmas.Bool.{and_parts, and_from, cases_lt, not-true}
use Rattle.std.proofs.lemmas.Bool.Decides.{nat_tests}
use Rattle.std.proofs.lemmas.List.{get_or_past}
use Rattle.std.proofs.lemmas.List.Prefix.{at_reads}
use Rattle.std.proofs.lemmas.List.Elements.{All-from_get_or}
use Rattle.std.proofs.lemmas.List.Sums.{list_all-from_AllPass}
use Rattle.std.proofs.lemmas.Str.Pattern.{NoCharPasses-char}
use Rattle.std.specs.List.{list_all, AllByRecursion}
use Rattle.std.specs.Str.{NonePass}
use Rattle.xt_spec.specs.Reference.{StandsFor}
use Rattle.xt_spec.specs.LineEnds.{lines_read}
use Rattle.xt_spec.specs.Text.{TextPart, data_part, reference_part, section_part, parts_text, parts_value, begins_with_data, AreTextParts}
use Rattle.xt_spec.specs.Token.{Spells, char_data, IsPlain, HoldsNoClose}

-- no byte is a CR
abbrev pub has_no_cr : List ℕ → Bool
has_no_cr bytes = list_all (λ b. not (b == 0xD)) bytes

differs : (b d : ℕ) → b ≢ d → not (b == d) ≡ true
differs b d is = grind (arith, nat_tests)

none_passes : (cs : List ℕ) → has_no_cr cs ≡ true → NonePass (λ c. eqb c 0xD) cs
none_passes [] none = tt
none_passes (c ∷ cs) none =
    let both = and_parts (not (c == 0xD)) (has_no_cr cs) none in
    (not-true _ both.0, none_passes cs both.1)

-- characters without a CR are bytes without one
pub none_is_cr : (cs : List ℕ) → has_no_cr cs ≡ true → has_no_cr (encode_utf8_all cs) ≡ true
none_is_cr cs without =
    let text = encode_utf8_all cs in
    let none = none_passes cs without in
    list_all-from_AllPass (λ b. not (b == 0xD)) text (All-from_get_or (λ b. not (b == 0xD) ≡ true) text 0 (λ i below. differs (get_or text i 0) 0xD (NoCharPasses-char 0xD text i (cs, refl, none) (lit< tt) below)))

-- a character that stands for itself wherever it is
abbrev pub IsKept : ℕ → Type 0
IsKept c = IsPlain c × (c ≢ 0x3E) × (c ≢ 0xD)

kept_plain : (cs : List ℕ) → AllByRecursion IsKept cs → AllByRecursion IsPlain cs
kept_plain [] all = tt
kept_plain (c ∷ cs) all = (all.0.0, kept_plain cs all.1)

is_not : (c d : ℕ) → c ≢ d → eqb c d ≡ false
is_not c d is = grind (arith, nat_tests)

kept_no_gt : (cs : List ℕ) → AllByRecursion IsKept cs → NonePass (λ c. eqb c 0x3E) cs
kept_no_gt [] all = tt
kept_no_gt (c ∷ cs) all = (is_not c 0x3E all.0.1, kept_no_gt cs all.1)

kept_no_cr : (cs : List ℕ) → AllByRecursion IsKept cs → has_no_cr cs ≡ true
kept_no_cr [] all = refl
kept_no_cr (c ∷ cs) all = and_from _ _ (differs c 0xD all.0.2) (kept_no_cr cs all.1)

-- a run of such characters
abbrev pub IsRun : List ℕ → Type 0
IsRun text = (cs : List ℕ) × (cs ≢ []) × AllByRecursion IsKept cs × (text ≡ encode_utf8_all cs)

-- it has no `>`, and so no `]]>`
run_holds_no_close : (text : List ℕ) → IsRun text → HoldsNoClose text
run_holds_no_close text (cs, some, all, is) k (rest, closes) =
    let ends = at_reads 0 text (codes "]]>") k rest closes 2 (omega arith) in
    elim (cases_lt (k + 2) (length text)) [
      | inl inside ↦ NoCharPasses-char 0x3E text (k + 2) (cs, sym is, kept_no_gt cs all) (lit< tt) inside ends
      | inr past ↦
          let none : get_or text (k + 2) 0 ≡ 0 = get_or_past text (k + 2) 0 past in
          absurd (omega arith)
    ]

run_spells : (text : List ℕ) → IsRun text → Spells char_data text
run_spells text (cs, some, all, is) = (cs, some, kept_plain cs all, is, run_holds_no_close text (cs, some, all, is))

run_no_cr : (text : List ℕ) → IsRun text → has_no_cr text ≡ true
run_no_cr text (cs, some, all, is) = rw is (none_is_cr cs (kept_no_cr cs all))

-- without a CR line ends are as read
lines_same : (bytes : List ℕ) → has_no_cr bytes ≡ true → lines_read bytes ≡ bytes
lines_same [] none = refl
lines_same (b ∷ bytes) none =
    let both = and_parts (not (b == 0xD)) (has_no_cr bytes) none in
    line_same b bytes both.0 (lines_same bytes both.1)
  where
    line_same : (b : ℕ) (bytes : List ℕ) → not (b == 0xD) ≡ true → lines_read bytes ≡ bytes → lines_read (b ∷ bytes) ≡ b ∷ bytes
    line_same b bytes none others = grind (arith, nat_tests)

run_reads : (text : List ℕ) → IsRun text → lines_read text ≡ text
run_reads text run = lines_same text (run_no_cr text run)

-- parts of character data, which are runs, no two side by side, and of references
abbrev pub AreRuns : List TextPart → Type 0
AreRuns [] = Unit {0}
AreRuns (data_part text ∷ parts) = IsRun text × (begins_with_data parts ≡ false) × AreRuns parts
AreRuns (reference_part text c ∷ parts) = StandsFor text c × AreRuns parts
AreRuns (section_part text content ∷ parts) = ⊥

pub runs_are_parts : (parts : List TextPart) → AreRuns parts → AreTextParts parts
runs_are_parts [] are = tt
runs_are_parts (data_part text ∷ parts) are = (run_spells text are.0, are.1, runs_are_parts parts are.2)
runs_are_parts (reference_part text c ∷ parts) are = (are.0, runs_are_parts parts are.1)
runs_are_parts (section_part text content ∷ parts) are = absurd are

-- such parts of what is written for a value
pub record Written (text value : List ℕ) : Type 0 where
  pub parts : List TextPart
  pub are : AreRuns parts
  pub spell : parts_text parts ≡ text
  pub stand : parts_value parts ≡ value

pub nothing_written : Written [] []
nothing_written = record { parts = []; are = tt; spell = refl; stand = refl }

-- a reference in front
pub reference_written : (reference : List ℕ) (c : ℕ) (text value : List ℕ) → StandsFor reference c → Written text value → Written (reference ++ text) (encode_utf8 c ++ value)
reference_written reference c text value stands after = record {
  parts = reference_part reference c ∷ after.parts;
  are = (stands, after.are);
  spell = ap (λ (l : List ℕ). reference ++ l) after.spell;
  stand = ap (λ (l : List ℕ). encode_utf8 c ++ l) after.stand;
}

one_run : (c : ℕ) → IsKept c → IsRun (encode_utf8 c)
one_run c is = (c ∷ [], (λ e. absurd (cc)), (is, tt), sym (append-nil (encode_utf8 c)))

longer_run : (c : ℕ) (text : List ℕ) → IsKept c → IsRun text → IsRun (encode_utf8 c ++ text)
longer_run c text is (cs, some, all, same) = (c ∷ cs, (λ e. absurd (cc)), (is, all), ap (λ (l : List ℕ). encode_utf8 c ++ l) same)

-- .. which begins a run
begins_run : (c : ℕ) (parts : List TextPart) → IsKept c → AreRuns parts → begins_with_data parts ≡ false → Written (encode_utf8 c ++ parts_text parts) (encode_utf8 c ++ parts_value parts)
begins_run c parts is are alone = record {
  parts = data_part (encode_utf8 c) ∷ parts;
  are = (one_run c is, alone, are);
  spell = refl;
  stand = ap (λ (l : List ℕ). l ++ parts_value parts) (run_reads (encode_utf8 c) (one_run c is));
}

-- .. or joins one
joins_run : (c : ℕ) (text : List ℕ) (parts : List TextPart) → IsKept c → AreRuns (data_part text ∷ parts) → Written (encode_utf8 c ++ parts_text (data_part text ∷ parts)) (encode_utf8 c ++ parts_value (data_part text ∷ parts))
joins_run c text parts is are =
    let run = longer_run c text is are.0 in
    record {
      parts = data_part (encode_utf8 c ++ text) ∷ parts;
      are = (run, are.1, are.2);
      spell = append_assoc (encode_utf8 c) text (parts_text parts);
      stand = ap (λ (l : List ℕ). l ++ parts_value parts) (run_reads (encode_utf8 c ++ text) run)
          ∙ append_assoc (encode_utf8 c) text (parts_value parts)
          ∙ ap (λ (l : List ℕ). encode_utf8 c ++ (l ++ parts_value parts)) (sym (run_reads text are.0));
    }

in_front : (c : ℕ) (parts : List TextPart) → IsKept c → AreRuns parts → Written (encode_utf8 c ++ parts_text parts) (encode_utf8 c ++ parts_value parts)
in_front c [] is are = begins_run c [] is are refl
in_front c (data_part text ∷ parts) is are = joins_run c text parts is are
in_front c (reference_part text d ∷ parts) is are = begins_run c (reference_part text d ∷ parts) is are refl
in_front c (section_part text content ∷ parts) is are = absurd are

-- a kept character in front
pub kept_written : (c : ℕ) (text value : List ℕ) → IsKept c → Written text value → Written (encode_utf8 c ++ text) (encode_utf8 c ++ value)
kept_written c text value is after =
    rw (← after.spell) (rw (← after.stand) (in_front c after.parts is after.are))
