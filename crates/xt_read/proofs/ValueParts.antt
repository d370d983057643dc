-- The parts of a value, read one behind the other.
use Rattle.std.proofs.Common.{encode_utf8, ◌≡◌, ◌∙◌, ℕ, List, [], ◌∷◌, ◌++◌, refl, sym, ap, subst, Bool, true, false, not, ◌&&◌, ◌⊎◌, inl, inr, ⊎_elim, append_assoc, codes, eqb, eqb-true, arith, lit<}
use Rattle.std.specs.List.{AllByRecursion, list_all, concat}
use Rattle.std.proofs.lemmas.Bool.{cases_Bool}
use Rattle.std.proofs.lemmas.Bool.Decides.{nat_tests}
use Rattle.xt_spec.specs.Char.{is_name_start_char, is_name_char, is_not_colon}
use Rattle.xt_spec.specs.Name.{IsSpeltBy, IsNCName, are_name_chars}
use Rattle.xt_spec.specs.Reference.{NamesChar, StandsFor, is_decimal_digit, is_hexadecimal_digit}
use Rattle.xt_spec.specs.Tag.{IsValuePart, IsReference, is_value_char}
use Rattle.xt_spec.specs.Value.{ValuePart, characters_part, character_part, value_parts_text, begins_with_characters, AreValueParts}
use Rattle.xt_lex.proofs.Theorems.{bytes_lack, spelt_joined, spelt_char, list_all_behind, list_all_weaker, names_no_entity}
use Rattle.xt_read.proofs.Predefined.{is_predefined}
use Rattle.xt_read.specs.References.{is_other, LacksByte, HasParts, AreSingles, Edge, BeginsReference, HasNoParts, IsSame, IsUpToSemicolon}

both_parts : (a b : Bool) → a && b ≡ true → (a ≡ true) × (b ≡ true)
both_parts true b e = (refl, e)
both_parts false b e = absurd (let h : false ≡ true = e in cc)

-- what is the shape of a reference: from an `&` to the first `;`
pub record IsShaped (text : List ℕ) : Type 0 where
  pub body : List ℕ
  pub lacks : LacksByte 0x3B body
  pub is : text ≡ body ++ 0x3B ∷ []
  pub rest : List ℕ
  pub begins : text ≡ 0x26 ∷ rest

other_than : (byte c : ℕ) (rest : List ℕ) → LacksByte byte (c ∷ rest) → (c ≡ byte → ⊥) × LacksByte byte rest
other_than byte c rest lacks =
    let parts = both_parts (is_other byte c) (list_all (is_other byte) rest) lacks in
    ((λ e. let first : is_other byte c ≡ true = parts.0 in absurd (grind (arith, nat_tests))), parts.1)

-- what passes a test that the byte doesn't pass is another
other_by : (p : ℕ → Bool) (byte : ℕ) → p byte ≡ false → (b : ℕ) → p b ≡ true → is_other byte b ≡ true
other_by p byte fails b passes =
    ⊎_elim (λ (same : eqb b byte ≡ true). let e : p byte ≡ true = subst (λ b. p b ≡ true) (eqb-true b byte same) passes in absurd (cc))
    (λ (other : eqb b byte ≡ false). rw other refl)
    (cases_Bool (eqb b byte))

all_other : (p : ℕ → Bool) (byte : ℕ) → p byte ≡ false → (xs : List ℕ) → list_all p xs ≡ true → LacksByte byte xs
all_other p byte fails xs all = list_all_weaker p (is_other byte) (other_by p byte fails) xs all

names_shaped : (t : List ℕ) (c : ℕ) → NamesChar t c → IsShaped t
names_shaped t c (is, inl (digits, spell, e)) = record {
  body = codes "&#" ++ digits;
  lacks = all_other is_decimal_digit 0x3B refl digits spell.all;
  is = e;
  rest = _;
  begins = e;
}
names_shaped t c (is, inr (digits, spell, e)) = record {
  body = codes "&#x" ++ digits;
  lacks = all_other is_hexadecimal_digit 0x3B refl digits spell.all;
  is = e;
  rest = _;
  begins = e;
}

stands_shaped : (t : List ℕ) (c : ℕ) → StandsFor t c → IsShaped t
stands_shaped t c (inl names) = names_shaped t c names
stands_shaped t c (inr (inl (e, is))) = record { body = codes "&lt"; lacks = refl; is = e; rest = _; begins = e }
stands_shaped t c (inr (inr (inl (e, is)))) = record { body = codes "&gt"; lacks = refl; is = e; rest = _; begins = e }
stands_shaped t c (inr (inr (inr (inl (e, is))))) = record { body = codes "&amp"; lacks = refl; is = e; rest = _; begins = e }
stands_shaped t c (inr (inr (inr (inr (inl (e, is)))))) = record { body = codes "&apos"; lacks = refl; is = e; rest = _; begins = e }
stands_shaped t c (inr (inr (inr (inr (inr (e, is)))))) = record { body = codes "&quot"; lacks = refl; is = e; rest = _; begins = e }

ncname_lacks : (name : List ℕ) → IsNCName name → LacksByte 0x3B name
ncname_lacks name (cs, e, h) = bytes_lack 0x3B name (lit< tt) (cs, e, names cs (both_parts (are_name_chars cs) (list_all is_not_colon cs) h).0)
  where
    names : (cs : List ℕ) → are_name_chars cs ≡ true → list_all (λ c. not (eqb c 0x3B)) cs ≡ true
    names [] h = refl
    names (c ∷ cs) h =
        let parts = both_parts (is_name_start_char c) (list_all is_name_char cs) h in
        let first : is_other 0x3B c ≡ true = other_by is_name_start_char 0x3B refl c parts.0 in
        let others : LacksByte 0x3B cs = all_other is_name_char 0x3B refl cs parts.1 in
        rw first others

reference_shaped : (t : List ℕ) → IsReference t → IsShaped t
reference_shaped t (inl (c, names)) = names_shaped t c names
reference_shaped t (inr (name, ncname, e)) = record { body = codes "&" ++ name; lacks = ncname_lacks name ncname; is = e; rest = _; begins = e }

-- two texts up to their first such byte
first_same : (byte : ℕ) (a b x y : List ℕ) → LacksByte byte a → LacksByte byte b → a ++ byte ∷ x ≡ b ++ byte ∷ y → (a ≡ b) × (x ≡ y)
first_same byte [] [] x y p q e = (refl, cc)
first_same byte [] (c ∷ b) x y p q e = absurd ((other_than byte c b q).0 (cc))
first_same byte (c ∷ a) [] x y p q e = absurd ((other_than byte c a p).0 (cc))
first_same byte (c ∷ a) (d ∷ b) x y p q e =
    let first : c ≡ d = cc in
    let tails : a ++ byte ∷ x ≡ b ++ byte ∷ y = cc in
    let others = first_same byte a b x y (other_than byte c a p).1 (other_than byte d b q).1 tails in
    (ap (λ c. c ∷ a) first ∙ ap (λ a. d ∷ a) others.0, others.1)

shaped_unique : (t u x y : List ℕ) → (p : IsShaped t) → (q : IsShaped u) → t ++ x ≡ u ++ y → (t ≡ u) × (x ≡ y)
shaped_unique t u x y p q e =
    let f = sym (append_assoc p.body (0x3B ∷ []) x) ∙ ap (λ t. t ++ x) (sym p.is) ∙ e ∙ ap (λ t. t ++ y) q.is ∙ append_assoc q.body (0x3B ∷ []) y in
    let both = first_same 0x3B p.body q.body x y p.lacks q.lacks f in
    (p.is ∙ ap (λ b. b ++ 0x3B ∷ []) both.0 ∙ sym q.is, both.1)

edge_same : (a b x y : List ℕ) → LacksByte 0x26 a → LacksByte 0x26 b → Edge x → Edge y → a ++ x ≡ b ++ y → (a ≡ b) × (x ≡ y)
edge_same [] [] x y p q ex ey e = (refl, e)
edge_same [] (c ∷ b) [] y p q ex ey e = absurd (cc)
edge_same [] (c ∷ b) (d ∷ x) y p q ex ey e = let h : d ≡ 0x26 = ex in absurd ((other_than 0x26 c b q).0 (cc))
edge_same (c ∷ a) [] x [] p q ex ey e = absurd (cc)
edge_same (c ∷ a) [] x (d ∷ y) p q ex ey e = let h : d ≡ 0x26 = ey in absurd ((other_than 0x26 c a p).0 (cc))
edge_same (c ∷ a) (d ∷ b) x y p q ex ey e =
    let first : c ≡ d = cc in
    let tails : a ++ x ≡ b ++ y = cc in
    let others = edge_same a b x y (other_than 0x26 c a p).1 (other_than 0x26 d b q).1 ex ey tails in
    (ap (λ c. c ∷ a) first ∙ ap (λ a. d ∷ a) others.0, others.1)

edge_reference : (t x : List ℕ) → IsShaped t → Edge (t ++ x)
edge_reference t x is = subst (λ t. Edge (t ++ x)) (sym is.begins) refl

-- characters of a value hold no `&`
chars_lack : (q : ℕ) (t : List ℕ) → IsSpeltBy (λ cs. list_all (is_value_char q) cs) t → LacksByte 0x26 t
chars_lack q t (cs, e, h) = bytes_lack 0x26 t (lit< tt) (cs, e, all_other (is_value_char q) 0x26 refl cs h)

-- what stands before the first reference
pub record Strip (q : ℕ) (text : List ℕ) : Type 0 where
  pub run : List ℕ
  pub rest : List ℕ
  pub joined : text ≡ run ++ rest
  pub spelt : IsSpeltBy (λ cs. list_all (is_value_char q) cs) run
  pub edge : Edge rest
  pub left : List (List ℕ)
  pub singles : AreSingles q left rest
  pub first : (left ≡ []) ⊎ ((s : List ℕ) × (ss : List (List ℕ)) × (left ≡ s ∷ ss) × IsReference s)

strip_one : (q : ℕ) (s : List ℕ) (ss : List (List ℕ)) → AllByRecursion (IsValuePart q) ss → IsValuePart q s → Strip q (concat ss) → Strip q (s ++ concat ss)
strip_one q s ss are (inl (c, is, e)) others =
    record {
      run = s ++ others.run;
      rest = others.rest;
      joined = ap (λ t. s ++ t) others.joined ∙ sym (append_assoc s others.run others.rest);
      spelt = spelt_joined (is_value_char q) s others.run (subst (IsSpeltBy (λ cs. list_all (is_value_char q) cs)) (sym e) (spelt_char (is_value_char q) c is)) others.spelt;
      edge = others.edge;
      left = others.left;
      singles = others.singles;
      first = others.first;
    }
strip_one q s ss are (inr is) others =
    record { run = []; rest = s ++ concat ss; joined = refl; spelt = ([], refl, refl); edge = edge_reference s (concat ss) (reference_shaped s is); left = s ∷ ss; singles = ((inr is, are), refl); first = inr (s, ss, refl, is) }

strip : (q : ℕ) (singles : List (List ℕ)) → AllByRecursion (IsValuePart q) singles → Strip q (concat singles)
strip q [] are = record { run = []; rest = []; joined = refl; spelt = ([], refl, refl); edge = tt; left = []; singles = (tt, refl); first = inl refl }
strip q (s ∷ ss) are = strip_one q s ss are.1 are.0 (strip q ss are.1)

edge_parts : (q : ℕ) (parts : List ValuePart) → AreValueParts q parts → begins_with_characters parts ≡ false → Edge (value_parts_text parts)
edge_parts q [] are none = tt
edge_parts q (characters_part t ∷ ps) are none = absurd (let h : true ≡ false = none in cc)
edge_parts q (character_part t c ∷ ps) are none = edge_reference t (value_parts_text ps) (stands_shaped t c are.0)

nil_parts : (x y : List ℕ) → x ++ y ≡ [] → (x ≡ []) × (y ≡ [])
nil_parts [] y e = (refl, e)
nil_parts (b ∷ x) y e = absurd (cc)

-- the parts behind the characters before the first reference
parts_behind : (q : ℕ) (run rest : List ℕ) → LacksByte 0x26 run → Edge rest → HasParts q (run ++ rest) → HasParts q rest
parts_behind q run rest lacks edge ([], are, e) = ([], tt, sym (nil_parts run rest (sym e)).1)
parts_behind q run rest lacks edge (characters_part t ∷ ps, are, e) =
    (ps, are.3, (edge_same t run (value_parts_text ps) rest (chars_lack q t are.0) lacks (edge_parts q ps are.3 are.2) edge e).1)
parts_behind q run rest lacks edge (character_part t c ∷ ps, are, e) =
    let same = edge_same [] run (t ++ value_parts_text ps) rest refl lacks (edge_reference t (value_parts_text ps) (stands_shaped t c are.0)) edge e in
    (character_part t c ∷ ps, are, same.1)

no_characters_at_edge : (q : ℕ) (parts : List ValuePart) → AreValueParts q parts → Edge (value_parts_text parts) → begins_with_characters parts ≡ false
no_characters_at_edge q [] are edge = refl
no_characters_at_edge q (characters_part [] ∷ ps) are edge = absurd (are.1 refl)
no_characters_at_edge q (characters_part (b ∷ t) ∷ ps) are edge = absurd ((other_than 0x26 b t (chars_lack q (b ∷ t) are.0)).0 edge)
no_characters_at_edge q (character_part t c ∷ ps) are edge = refl

parts_before : (q : ℕ) (run rest : List ℕ) → IsSpeltBy (λ cs. list_all (is_value_char q) cs) run → Edge rest → HasParts q rest → HasParts q (run ++ rest)
parts_before q [] rest spelt edge has = has
parts_before q (b ∷ run) rest spelt edge (parts, are, e) =
    (characters_part (b ∷ run) ∷ parts, (spelt, (λ n. let h : ◌≡◌ {A = List ℕ} (b ∷ run) [] = n in cc), no_characters_at_edge q parts are (subst Edge (sym e) edge), are), ap (λ t. (b ∷ run) ++ t) e)

-- What is known of a value is known of it from its first reference on.
pub skips : (q : ℕ) (singles : List (List ℕ)) (text run rest : List ℕ) → AreSingles q singles text → text ≡ run ++ rest → LacksByte 0x26 run → Edge rest
    → ((left : List (List ℕ)) × AreSingles q left rest) × (HasParts q text → HasParts q rest) × (HasParts q rest → HasParts q text)
skips q singles text run rest are joined lacks edge =
    let s = strip q singles are.0 in
    let same = edge_same s.run run s.rest rest (chars_lack q s.run s.spelt) lacks s.edge edge (sym s.joined ∙ are.1 ∙ joined) in
    let spelt = subst (IsSpeltBy (λ cs. list_all (is_value_char q) cs)) same.0 s.spelt in (
      (s.left, subst (AreSingles q s.left) same.1 s.singles),
      (λ has. parts_behind q run rest lacks edge (subst (HasParts q) joined has)),
      (λ has. subst (HasParts q) (sym joined) (parts_before q run rest spelt edge has)),
    )

-- the first of what is left at an `&` is a reference
reference_first : (q : ℕ) (singles : List (List ℕ)) (text tail : List ℕ) → AreSingles q singles text → text ≡ 0x26 ∷ tail → (s : List ℕ) × (ss : List (List ℕ)) × AreSingles q (s ∷ ss) text × IsReference s
reference_first q singles text tail are begins =
    let s = strip q singles are.0 in
    let same = edge_same s.run [] s.rest text (chars_lack q s.run s.spelt) refl s.edge (subst Edge (sym begins) refl) (sym s.joined ∙ are.1) in
    by_first s.left s.first (subst (AreSingles q s.left) same.1 s.singles)
  where
    by_first : (left : List (List ℕ)) → ((left ≡ []) ⊎ ((s : List ℕ) × (ss : List (List ℕ)) × (left ≡ s ∷ ss) × IsReference s)) → AreSingles q left text → (s : List ℕ) × (ss : List (List ℕ)) × AreSingles q (s ∷ ss) text × IsReference s
    by_first left (inl none) singles = absurd (let h : [] ≡ 0x26 ∷ tail = sym (ap concat none) ∙ singles.1 ∙ begins in cc)
    by_first left (inr (s, ss, is, reference)) singles = (s, ss, subst (λ l. AreSingles q l text) is singles, reference)

parts_at_reference : (q : ℕ) (text reference rest tail : List ℕ) → IsShaped reference → text ≡ reference ++ rest → text ≡ 0x26 ∷ tail → HasParts q text → ((c : ℕ) × StandsFor reference c) × HasParts q rest
parts_at_reference q text reference rest tail shape joined begins ([], are, e) = absurd (let h : ◌≡◌ {A = List ℕ} [] (0x26 ∷ tail) = e ∙ begins in cc)
parts_at_reference q text reference rest tail shape joined begins (characters_part [] ∷ ps, are, e) = absurd (are.1 refl)
parts_at_reference q text reference rest tail shape joined begins (characters_part (b ∷ t) ∷ ps, are, e) =
    absurd ((other_than 0x26 b t (chars_lack q (b ∷ t) are.0)).0 (let h : ◌≡◌ {A = List ℕ} (b ∷ (t ++ value_parts_text ps)) (0x26 ∷ tail) = e ∙ begins in cc))
parts_at_reference q text reference rest tail shape joined begins (character_part r c ∷ ps, are, e) =
    let same = shaped_unique r reference (value_parts_text ps) rest (stands_shaped r c are.0) shape (e ∙ joined) in
    ((c, subst (λ r. StandsFor r c) same.0 are.0), (ps, are.1, same.1))

-- .. and behind a reference, where that stands for a character.
pub takes_reference : (q : ℕ) (singles : List (List ℕ)) (text reference rest tail : List ℕ) → AreSingles q singles text → text ≡ reference ++ rest → text ≡ 0x26 ∷ tail → (body : List ℕ) × LacksByte 0x3B body × (reference ≡ body ++ 0x3B ∷ [])
    → ((left : List (List ℕ)) × AreSingles q left rest) × (HasParts q text → ((c : ℕ) × StandsFor reference c) × HasParts q rest) × ((c : ℕ) → StandsFor reference c → HasParts q rest → HasParts q text)
takes_reference q singles text reference rest tail are joined begins (body, lacks, ends) =
    let (s, ss, left, is) = reference_first q singles text tail are begins in
    let shape = reference_shaped s is in
    let up_to : body ++ 0x3B ∷ rest ≡ shape.body ++ 0x3B ∷ concat ss =
    sym (append_assoc body (0x3B ∷ []) rest) ∙ ap (λ t. t ++ rest) (sym ends) ∙ sym joined ∙ sym left.1 ∙ ap (λ t. t ++ concat ss) shape.is ∙ append_assoc shape.body (0x3B ∷ []) (concat ss) in
    let same = first_same 0x3B body shape.body rest (concat ss) lacks shape.lacks up_to in
    let reference_is : reference ≡ s = ends ∙ ap (λ b. b ++ 0x3B ∷ []) same.0 ∙ sym shape.is in (
      (ss, (left.0.1, sym same.1)),
      parts_at_reference q text reference rest tail (subst IsShaped (sym reference_is) shape) joined begins,
      (λ c stands has. (character_part reference c ∷ has.0, (stands, has.1), ap (λ t. reference ++ t) has.2 ∙ sym joined)),
    )

-- a value that doesn't go on has no parts
pub nothing_left : (q : ℕ) → HasParts q []
nothing_left q = ([], tt, refl)

-- the characters before the first reference are passed over
pub skip_same : (text run rest : List ℕ) → text ≡ run ++ rest → LacksByte 0x26 run → Edge rest → IsSame text rest
skip_same text run rest joined lacks edge = record {
  left = λ q singles are. (skips q singles text run rest are joined lacks edge).0;
  forth = λ q singles are. (skips q singles text run rest are joined lacks edge).1;
  back = λ q singles are. (skips q singles text run rest are joined lacks edge).2;
}

pub same_same : (a b c : List ℕ) → IsSame a b → IsSame b c → IsSame a c
same_same a b c x y = record {
  left = λ q singles are. let (left, is) = x.left q singles are in y.left q left is;
  forth = λ q singles are has. let (left, is) = x.left q singles are in y.forth q left is (x.forth q singles are has);
  back = λ q singles are has. let (left, is) = x.left q singles are in x.back q singles are (y.back q left is has);
}

-- a reference that stands for a character is passed over
pub reference_same : (text reference rest : List ℕ) (c : ℕ) → BeginsReference text → IsUpToSemicolon text reference rest → StandsFor reference c → IsSame text rest
reference_same text reference rest c (tail, begins) up stands =
    let take = λ (q : ℕ) (singles : List (List ℕ)) (are : AreSingles q singles text). takes_reference q singles text reference rest tail are up.joined begins (up.body, up.lacks, up.ends) in
    record {
      left = λ q singles are. (take q singles are).0;
      forth = λ q singles are has. ((take q singles are).1 has).1;
      back = λ q singles are has. (take q singles are).2 c stands has;
    }

-- one that doesn't leaves no parts
pub reference_none : (text reference rest : List ℕ) → BeginsReference text → IsUpToSemicolon text reference rest → ((c : ℕ) → ¬ StandsFor reference c) → HasNoParts text
reference_none text reference rest (tail, begins) up none q singles are has =
    let found = ((takes_reference q singles text reference rest tail are up.joined begins (up.body, up.lacks, up.ends)).1 has).0 in none found.0 found.1

-- a text that begins with `&` and holds no `;` is no value
pub no_reference : (text : List ℕ) → BeginsReference text → LacksByte 0x3B text → HasNoParts text
no_reference text (tail, begins) lacks q singles are has =
    let (s, ss, left, is) = reference_first q singles text tail are begins in
    let shape = reference_shaped s is in
    let whole : text ≡ shape.body ++ 0x3B ∷ concat ss = sym left.1 ∙ ap (λ t. t ++ concat ss) shape.is ∙ append_assoc shape.body (0x3B ∷ []) (concat ss) in
    let parts = list_all_behind (is_other 0x3B) shape.body (0x3B ∷ concat ss) (subst (LacksByte 0x3B) whole lacks) in
    (other_than 0x3B 0x3B (concat ss) parts).0 refl

-- ---- a value has parts, or none

one_more_character : (q : ℕ) (s : List ℕ) (ss : List (List ℕ)) → AllByRecursion (IsValuePart q) ss → (c : ℕ) → is_value_char q c ≡ true → s ≡ encode_utf8 c → (HasParts q (concat ss) → HasParts q (s ++ concat ss)) × (HasParts q (s ++ concat ss) → HasParts q (concat ss))
one_more_character q s ss are c is e =
    let rest = strip q ss are in
    let spelt : IsSpeltBy (λ cs. list_all (is_value_char q) cs) (s ++ rest.run) = spelt_joined (is_value_char q) s rest.run (subst (IsSpeltBy (λ cs. list_all (is_value_char q) cs)) (sym e) (spelt_char (is_value_char q) c is)) rest.spelt in
    let joined : s ++ concat ss ≡ (s ++ rest.run) ++ rest.rest = ap (λ t. s ++ t) rest.joined ∙ sym (append_assoc s rest.run rest.rest) in (
      (λ has. subst (HasParts q) (sym joined) (parts_before q (s ++ rest.run) rest.rest spelt rest.edge (parts_behind q rest.run rest.rest (chars_lack q rest.run rest.spelt) rest.edge (subst (HasParts q) rest.joined has)))),
      (λ has. subst (HasParts q) (sym rest.joined) (parts_before q rest.run rest.rest rest.spelt rest.edge (parts_behind q (s ++ rest.run) rest.rest (chars_lack q (s ++ rest.run) spelt) rest.edge (subst (HasParts q) joined has)))),
    )

stands_or_not : (s : List ℕ) → IsReference s → ((c : ℕ) × StandsFor s c) ⊎ ((c : ℕ) → ¬ StandsFor s c)
stands_or_not s (inl (c, names)) = inl (c, inl names)
stands_or_not s (inr entity) = elim (is_predefined s) [
  | inl known ↦ inl (known.0, inr known.1)
  | inr none ↦ inr (λ c stands. elim stands [
    | inl names ↦ names_no_entity s c names entity
    | inr known ↦ none c known
  ])
]

with_reference : (q : ℕ) (s : List ℕ) (ss : List (List ℕ)) → IsReference s → (HasParts q (concat ss) ⊎ ¬ HasParts q (concat ss)) → HasParts q (s ++ concat ss) ⊎ ¬ HasParts q (s ++ concat ss)
with_reference q s ss is rest = by (stands_or_not s is) rest
  where
    shape : IsShaped s
    shape = reference_shaped s is

    at : HasParts q (s ++ concat ss) → ((c : ℕ) × StandsFor s c) × HasParts q (concat ss)
    at has = parts_at_reference q (s ++ concat ss) s (concat ss) (shape.rest ++ concat ss) shape refl (ap (λ t. t ++ concat ss) shape.begins) has

    by : (((c : ℕ) × StandsFor s c) ⊎ ((c : ℕ) → ¬ StandsFor s c)) → (HasParts q (concat ss) ⊎ ¬ HasParts q (concat ss)) → HasParts q (s ++ concat ss) ⊎ ¬ HasParts q (s ++ concat ss)
    by (inr none) others = inr (λ has. let stands = (at has).0 in none stands.0 stands.1)
    by (inl stands) (inr never) = inr (λ has. never (at has).1)
    by (inl (c, stands)) (inl (parts, are, joined)) = inl (character_part s c ∷ parts, (stands, are), ap (λ t. s ++ t) joined)

with_single : (q : ℕ) (s : List ℕ) (ss : List (List ℕ)) → AllByRecursion (IsValuePart q) ss → IsValuePart q s → (HasParts q (concat ss) ⊎ ¬ HasParts q (concat ss)) → HasParts q (s ++ concat ss) ⊎ ¬ HasParts q (s ++ concat ss)
with_single q s ss are (inr is) rest = with_reference q s ss is rest
with_single q s ss are (inl (c, is, e)) (inl has) = inl ((one_more_character q s ss are c is e).0 has)
with_single q s ss are (inl (c, is, e)) (inr never) = inr (λ has. never ((one_more_character q s ss are c is e).1 has))

pub parts_or_none : (q : ℕ) (singles : List (List ℕ)) → AllByRecursion (IsValuePart q) singles → HasParts q (concat singles) ⊎ ¬ HasParts q (concat singles)
parts_or_none q [] are = inl (nothing_left q)
parts_or_none q (s ∷ ss) are = with_single q s ss are.1 are.0 (parts_or_none q ss are.1)
