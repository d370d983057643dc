-- Processing instructions: what the steps find is spelled so, and what is spelled so they find.
use Rattle.std.proofs.Common.{◌≡◌, ℕ, List, [], ◌∷◌, ◌++◌, true, false, not, eqb, ltb, refl, sym, ap, subst, ◌∙◌, arith, inl, inr, Option, Some, None, codes, append_assoc, append-nil, ◌&&◌}
use Rattle.std.proofs.lemmas.Bool.{cases_Bool, and_parts, and_from, not-true, not_from_false}
use Rattle.std.proofs.lemmas.Bool.Decides.{nat_tests}
use Rattle.std.proofs.lemmas.Str.{IsUtf8-append}
use Rattle.std.specs.Str.{IsUtf8, chars}
use Rattle.xt_spec.specs.Char.{is_char, is_space}
use Rattle.xt_spec.specs.Name.{are_ncname_chars}
use Rattle.xt_spec.specs.Markup.{lacks, AreChars, is_reserved, begins_blank, IsPiTarget, IsPiOf, IsPi}
use Rattle.xt_spec.specs.Tag.{IsBlank}
use Rattle.xt_lex.specs.NameTest.{is_name_byte}
use Rattle.xt_lex.specs.Scan.{◌>>=◌, maybe, take_while, drop_while, after_space, after_all, after_chars, after_target, after_data}
use Rattle.xt_lex.proofs.Cuts.{after_all_takes, after_chars_takes, after_chars_again, chars_behind, chars_utf8, lacks_from_fresh, Stays, fresh_from_lacks}
use Rattle.xt_lex.proofs.NameLemmas.{ncname_from_test, test_from_ncname, ncname_passes}
use Rattle.xt_lex.proofs.Runs.{space_ascii}
use Rattle.xt_lex.proofs.Spelling.{spelt_ascii, spelt_joined, list_all_weaker}
use Rattle.xt_lex.proofs.StepLemmas.{bind_some, take_while_split, take_while_append, drop_while_append, name_run_utf8, space_no_name}
use Rattle.xt_lex.proofs.Utf8.{blank_utf8}
use Rattle.xt_scan.proofs.Theorems.{space_small}

pub target_takes : (s r : List ℕ) → IsUtf8 s → after_target s ≡ Some r → IsPiTarget (take_while is_name_byte s) × (s ≡ take_while is_name_byte s ++ r)
target_takes s r u h =
    let name = take_while is_name_byte s in
    elim (cases_Bool (are_ncname_chars (chars name) && not (is_reserved name))) [
      | inl e ↦
          let both = and_parts _ _ e in
          let rest : Some (drop_while is_name_byte s) ≡ Some r = rw e at h in
          let same : drop_while is_name_byte s ≡ r = cc in
          ((ncname_from_test name (name_run_utf8 s u) both.0, not-true _ both.1), take_while_split is_name_byte s ∙ ap (λ t. name ++ t) same)
      | inr e ↦ let none : None ≡ Some r = rw e at h in absurd (cc)
    ]

pub target_again : (target r : List ℕ) → IsPiTarget target → take_while is_name_byte r ≡ [] → drop_while is_name_byte r ≡ r → after_target (target ++ r) ≡ Some r
target_again target r (name, reserved) none all =
    let bytes = ncname_passes target name in
    let front : take_while is_name_byte (target ++ r) ≡ target = take_while_append is_name_byte target r bytes ∙ ap (λ t. target ++ t) none ∙ append-nil target in
    let back : drop_while is_name_byte (target ++ r) ≡ r = drop_while_append is_name_byte target r bytes ∙ all in
    let test : are_ncname_chars (chars target) && not (is_reserved target) ≡ true = and_from _ _ (test_from_ncname target name) (not_from_false _ reserved) in
    rw (front, back) (rw test refl)

pub stays_end : Stays (codes "?>")
stays_end b [] r = refl
stays_end b (c ∷ front) r = refl

space_no_end : (b : ℕ) → is_space b ≡ true → eqb b 63 ≡ false
space_no_end b h = grind (arith, nat_tests)

space_char : (b : ℕ) → is_space b ≡ true → is_char b ≡ true
space_char b h = grind (arith, nat_tests)

spaced_lacks : (space inner : List ℕ) → IsBlank space → lacks (codes "?>") inner ≡ true → lacks (codes "?>") (space ++ inner) ≡ true
spaced_lacks [] inner b h = h
spaced_lacks (c ∷ cs) inner b h =
    let both = and_parts _ _ b in
    let first : eqb c 63 ≡ false = space_no_end c both.0 in
    rw first (spaced_lacks cs inner both.1 h)

blank_chars : (space : List ℕ) → IsBlank space → AreChars space
blank_chars space b = spelt_ascii is_char space (list_all_weaker is_space (λ b. ltb b 128) space_small space b) (list_all_weaker is_space is_char space_char space b)

-- what stands behind the target: white space, if any, and the data
pub record Behind (text : List ℕ) : Type 0 where
  pub space : List ℕ
  pub inner : List ℕ
  pub is_space : IsBlank space
  pub apart : space ≡ [] → inner ≡ []
  pub begins : begins_blank inner ≡ false
  pub are_chars : AreChars inner
  pub no_end : lacks (codes "?>") inner ≡ true
  pub joined : text ≡ space ++ inner

pub behind_target : (text target inner : List ℕ) → AreChars inner → lacks (codes "?>") inner ≡ true → (is : IsPiOf text target inner) → Behind (is.space ++ inner)
behind_target text target inner chars_ none is = record {
  space = is.space;
  inner = inner;
  is_space = is.is_space;
  apart = is.apart;
  begins = is.begins;
  are_chars = chars_;
  no_end = none;
  joined = refl;
}

-- the data begin behind all white space
behind_space : (b : ℕ) (space inner : List ℕ) → is_space b ≡ true → IsBlank space → begins_blank inner ≡ false → AreChars inner → lacks (codes "?>") inner ≡ true → Behind (b ∷ (space ++ inner))
behind_space b space inner is blank begins chars_ none = record {
  space = b ∷ space;
  inner = inner;
  is_space = and_from _ _ is blank;
  apart = λ e. absurd (cc);
  begins = begins;
  are_chars = chars_;
  no_end = none;
  joined = refl;
}

behind_spaces : (b : ℕ) (text : List ℕ) → is_space b ≡ true → AreChars text → lacks (codes "?>") text ≡ true → Behind (b ∷ text)
behind_spaces b [] is chars_ none = behind_space b [] [] is refl refl chars_ none
behind_spaces b (c ∷ text) is chars_ none =
    elim (cases_Bool (is_space c)) [
      | inl more ↦
          let rest = behind_spaces c text more (chars_behind c text (space_ascii c more) chars_) (and_parts _ _ none).1 in
          subst (λ (t : List ℕ). Behind (b ∷ t)) (sym rest.joined) (behind_space b rest.space rest.inner is rest.is_space rest.begins rest.are_chars rest.no_end)
      | inr end ↦ behind_space b [] (c ∷ text) is refl end chars_ none
    ]

spaced_by : (s d inner r : List ℕ) → after_space s ≡ Some d → AreChars inner → lacks (codes "?>") inner ≡ true → s ≡ inner ++ (codes "?>" ++ r) → Behind inner
spaced_by s d [] r spaced chars_ lacks_ e =
    let none : after_space s ≡ None = ap after_space e in
    absurd (cc)
spaced_by s d (b ∷ bs) r spaced chars_ lacks_ e =
    elim (cases_Bool (is_space b)) [
      | inl is ↦ behind_spaces b bs is (chars_behind b bs (space_ascii b is) chars_) (and_parts _ _ lacks_).1
      | inr is ↦
          let none : after_space s ≡ None = ap after_space e ∙ rw is refl in
          absurd (cc)
    ]

nothing_behind : Behind []
nothing_behind = record { space = []; inner = []; is_space = refl; apart = λ none. refl; begins = refl; are_chars = spelt_ascii is_char [] refl refl; no_end = refl; joined = refl }

data_by : (s r : List ℕ) (o : Option (List ℕ)) → IsUtf8 s → after_all (codes "?>") s ≡ o → maybe (after_space s >>= λ d. after_chars (codes "?>") s) Some o ≡ Some r → (behind : List ℕ) × Behind behind × (s ≡ behind ++ (codes "?>" ++ r))
data_by s r None u e h =
    let spaced = bind_some (after_space s) _ _ h in
    let found = after_chars_takes 63 (codes ">") s r (omega arith) u spaced.2 in
    (found.0, spaced_by s spaced.0 found.0 r spaced.1 found.1 (lacks_from_fresh (codes "?>") found.0 _ found.2) found.3, found.3)
data_by s r (Some x) u e h =
    let same : x ≡ r = cc in
    ([], nothing_behind, after_all_takes (codes "?>") s x e ∙ ap (λ t. codes "?>" ++ t) same)

pub data_takes : (s r : List ℕ) → IsUtf8 s → after_data s ≡ Some r → (behind : List ℕ) × Behind behind × (s ≡ behind ++ (codes "?>" ++ r))
unfolding after_data
data_takes s r u h = data_by s r (after_all (codes "?>") s) u refl h

-- a target with what stands behind it is a processing instruction
regrouped : (target space inner : List ℕ) → codes "<?" ++ target ++ (space ++ inner) ++ codes "?>" ≡ codes "<?" ++ target ++ space ++ inner ++ codes "?>"
regrouped target space inner = simp append_assoc

pub pi_spelled : (target text : List ℕ) → IsPiTarget target → Behind text → IsPi (codes "<?" ++ target ++ text ++ codes "?>")
pi_spelled target text is behind = (
  target,
  behind.inner,
  behind.are_chars,
  behind.no_end,
  record {
    space = behind.space;
    is_target = is;
    is_space = behind.is_space;
    apart = behind.apart;
    begins = behind.begins;
    spelled = ap (λ t. codes "<?" ++ target ++ t ++ codes "?>") behind.joined ∙ regrouped target behind.space behind.inner;
  },
)

spaced_again : (space inner r : List ℕ) → IsBlank space → (space ≡ [] → inner ≡ []) → AreChars inner → lacks (codes "?>") inner ≡ true → after_data ((space ++ inner) ++ (codes "?>" ++ r)) ≡ Some r
unfolding after_data
spaced_again [] inner r blank apart chars_ lacks_ = rw (apart refl) refl
spaced_again (b ∷ bs) inner r blank apart chars_ lacks_ =
    let is : is_space b ≡ true = (and_parts _ _ blank).0 in
    let no_end : eqb b 63 ≡ false = space_no_end b is in
    let found = after_chars_again (codes "?>") ((b ∷ bs) ++ inner) r (omega arith) (spelt_joined is_char (b ∷ bs) inner (blank_chars (b ∷ bs) blank) chars_) (fresh_from_lacks (codes "?>") ((b ∷ bs) ++ inner) r stays_end (spaced_lacks (b ∷ bs) inner blank lacks_)) in
    rw no_end (rw is found)

pub data_again : (text r : List ℕ) → Behind text → after_data (text ++ (codes "?>" ++ r)) ≡ Some r
data_again text r is = rw is.joined (spaced_again is.space is.inner r is.is_space is.apart is.are_chars is.no_end)

begins_no_name : (space inner r : List ℕ) → IsBlank space → (space ≡ [] → inner ≡ []) → (take_while is_name_byte ((space ++ inner) ++ (codes "?>" ++ r)) ≡ []) × (drop_while is_name_byte ((space ++ inner) ++ (codes "?>" ++ r)) ≡ (space ++ inner) ++ (codes "?>" ++ r))
begins_no_name [] inner r blank apart = rw (apart refl) (refl, refl)
begins_no_name (b ∷ bs) inner r blank apart =
    let name : is_name_byte b ≡ false = space_no_name b (and_parts _ _ blank).0 in
    (rw name refl, rw name refl)

-- what follows the target begins no name
pub data_no_name : (text r : List ℕ) → Behind text → (take_while is_name_byte (text ++ (codes "?>" ++ r)) ≡ []) × (drop_while is_name_byte (text ++ (codes "?>" ++ r)) ≡ text ++ (codes "?>" ++ r))
data_no_name text r is = rw is.joined (begins_no_name is.space is.inner r is.is_space is.apart)

pub data_utf8 : (text : List ℕ) → Behind text → IsUtf8 text
data_utf8 text is = rw is.joined (IsUtf8-append is.space is.inner (blank_utf8 is.space is.is_space) (chars_utf8 is.inner is.are_chars))
