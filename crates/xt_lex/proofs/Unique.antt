-- A text has its parts in one way.
use Rattle.std.proofs.Common.{◌≡◌, ℕ, ◌<◌, List, [], ◌∷◌, ◌++◌, true, false, refl, ap, sym, subst, ◌∙◌, arith, inl, inr, Option, Some, None, codes, append_assoc, append-nil, cond, eqb, get_or}
use Rattle.std.proofs.lemmas.Bool.{and_parts}
use Rattle.std.proofs.lemmas.List.{append_cancel_left}
use Rattle.std.specs.List.{AllByRecursion}
use Rattle.xt_spec.specs.Char.{is_space}
use Rattle.xt_spec.specs.Name.{IsQName}
use Rattle.xt_spec.specs.Reference.{NamesChar, IsEntityRef, IsPredefined, StandsFor}
use Rattle.xt_spec.specs.Tag.{IsBlank, Attribute, attribute_text, IsAttribute, Tag, tag_text, IsTag}
use Rattle.xt_spec.specs.Token.{char_ref, entity_ref}
use Rattle.xt_lex.specs.NameTest.{is_name_byte}
use Rattle.xt_lex.specs.Place.{EndsName, EndsTag}
use Rattle.xt_lex.specs.QName.{q_name}
use Rattle.xt_lex.specs.Scan.{take_while, drop_while}
use Rattle.xt_lex.specs.Tag.{attribute}
use Rattle.xt_scan.specs.Form.{read_space}
use Rattle.xt_lex.proofs.Attributes.{attribute_again, attribute_begins}
use Rattle.xt_lex.proofs.Places.{name_run}
use Rattle.xt_lex.proofs.QNames.{no_empty_name}
use Rattle.xt_lex.proofs.References.{numbered_again, reference_again, char_ref_again, pair_parts}
use Rattle.xt_lex.proofs.StepLemmas.{take_while_append, drop_while_append, space_no_name}
use Rattle.xt_lex.proofs.Tags.{joined}

pub name_unique : (a b r s : List ℕ) → IsQName a → IsQName b → EndsName r → EndsName s → a ++ r ≡ b ++ s → (a ≡ b) × (r ≡ s)
name_unique a b r s p q x y e =
    let same : a ≡ b = sym (name_run a r p x) ∙ ap (take_while is_name_byte) e ∙ name_run b s q y in
    (same, append_cancel_left a r s (e ∙ ap (λ t. t ++ s) (sym same)))

pub attribute_unique : (a b : Attribute) (r s : List ℕ) → IsAttribute a → IsAttribute b → attribute_text a ++ r ≡ attribute_text b ++ s → (a ≡ b) × (r ≡ s)
attribute_unique a b r s p q e =
    let same : ◌≡◌ {A = Option (Attribute × List ℕ)} (Some (a, r)) (Some (b, s)) = sym (attribute_again a r p) ∙ ap attribute.read e ∙ attribute_again b s q in
    let parts : ◌≡◌ {A = Attribute × List ℕ} (a, r) (b, s) = cc in
    (ap (λ x. x.0) parts, ap (λ x. x.1) parts)

-- what ends a tag begins no name, and no white space
tag_end : (ending r : List ℕ) → EndsTag ending → (take_while is_name_byte (ending ++ r) ≡ []) × (drop_while is_space (ending ++ r) ≡ ending ++ r) × (read_space (ending ++ r) ≡ None) × (take_while is_space (ending ++ r) ≡ []) × EndsName (ending ++ r)
tag_end [] r h = absurd h
tag_end (b ∷ bs) r (inl e) =
    let name : is_name_byte b ≡ false = rw e refl in
    let space : is_space b ≡ false = rw e refl in
    (rw name refl, rw space refl, rw space refl, rw space refl, name)
tag_end (b ∷ bs) r (inr e) =
    let name : is_name_byte b ≡ false = rw e refl in
    let space : is_space b ≡ false = rw e refl in
    (rw name refl, rw space refl, rw space refl, rw space refl, name)

-- behind white space, what ends a tag begins no attribute
end_rests : (blank ending r : List ℕ) → IsBlank blank → EndsTag ending → attribute.read (blank ++ (ending ++ r)) ≡ None
unfolding attribute q_name
end_rests [] ending r b ends = let none = (tag_end ending r ends).2 in rw none refl
end_rests (c ∷ cs) ending r b ends =
    let is = tag_end ending r ends in
    let both = and_parts _ _ b in
    let first : is_space c ≡ true = both.0 in
    let rest : drop_while is_space (cs ++ (ending ++ r)) ≡ ending ++ r = drop_while_append is_space cs (ending ++ r) both.1 ∙ is.1 in
    let none = is.0 in
    rw first (rw rest (rw none (rw no_empty_name refl)))

pub no_attribute_at_end : (blank ending : List ℕ) (a : Attribute) (rest : List ℕ) → IsBlank blank → EndsTag ending → IsAttribute a → blank ++ ending ≡ attribute_text a ++ rest → ⊥
no_attribute_at_end blank ending a rest b ends is e =
    let none : attribute.read (blank ++ ending) ≡ None = ap (λ t. attribute.read (blank ++ t)) (sym (append-nil ending)) ∙ end_rests blank ending [] b ends in
    let again : attribute.read (blank ++ ending) ≡ Some (a, rest) = ap attribute.read e ∙ attribute_again a rest is in
    absurd (cc)

list_same : (x y : Attribute) (xs ys : List Attribute) → x ≡ y → xs ≡ ys → x ∷ xs ≡ y ∷ ys
list_same x y xs ys a b = cc

-- attributes, and behind them what begins none
pub attributes_unique : (xs ys : List Attribute) (r s : List ℕ) → AllByRecursion IsAttribute xs → AllByRecursion IsAttribute ys → attribute.read r ≡ None → attribute.read s ≡ None → joined xs ++ r ≡ joined ys ++ s → (xs ≡ ys) × (r ≡ s)
attributes_unique [] [] r s p q x y e = (refl, e)
attributes_unique [] (b ∷ ys) r s p q x y e =
    let again : attribute.read r ≡ Some (b, (joined ys ++ s)) = ap attribute.read (e ∙ append_assoc (attribute_text b) (joined ys) s) ∙ attribute_again b (joined ys ++ s) q.0 in
    absurd (cc)
attributes_unique (a ∷ xs) [] r s p q x y e =
    let again : attribute.read s ≡ Some (a, (joined xs ++ r)) = ap attribute.read (sym e ∙ append_assoc (attribute_text a) (joined xs) r) ∙ attribute_again a (joined xs ++ r) p.0 in
    absurd (cc)
attributes_unique (a ∷ xs) (b ∷ ys) r s p q x y e =
    let first = attribute_unique a b (joined xs ++ r) (joined ys ++ s) p.0 q.0 (sym (append_assoc (attribute_text a) (joined xs) r) ∙ e ∙ append_assoc (attribute_text b) (joined ys) s) in
    let rest = attributes_unique xs ys r s p.1 q.1 x y first.1 in
    (list_same a b xs ys first.0 rest.0, rest.1)

blank_ends : (blank rest : List ℕ) → IsBlank blank → EndsName rest → EndsName (blank ++ rest)
blank_ends [] rest b ends = ends
blank_ends (c ∷ cs) rest b ends = space_no_name c (and_parts _ _ b).0

attributes_end : (parts : List Attribute) (rest : List ℕ) → AllByRecursion IsAttribute parts → EndsName rest → EndsName (joined parts ++ rest)
attributes_end [] rest h ends = ends
attributes_end (a ∷ parts) rest h ends =
    let first = attribute_begins a h.0 in
    subst EndsName (sym (ap (λ t. (t ++ joined parts) ++ rest) first.2)) (space_no_name first.0 first.3)

-- behind the name of a tag stands what may stand behind a name
pub tag_name_ends : (tag : Tag) (ending r : List ℕ) → IsTag tag → EndsTag ending → EndsName (joined tag.attributes ++ (tag.blank ++ (ending ++ r)))
tag_name_ends tag ending r is ends = attributes_end tag.attributes _ is.attributes (blank_ends tag.blank _ is.blank (tag_end ending r ends).4)

pub end_tag_name_ends : (blank r : List ℕ) → IsBlank blank → EndsName (blank ++ (codes ">" ++ r))
end_tag_name_ends blank r b = blank_ends blank (codes ">" ++ r) b refl

blank_unique : (x y e f : List ℕ) → IsBlank x → IsBlank y → EndsTag e → EndsTag f → x ++ e ≡ y ++ f → (x ≡ y) × (e ≡ f)
blank_unique x y e f p q a b same =
    let stop = λ (t : List ℕ) (ends : EndsTag t). ap (take_while is_space) (sym (append-nil t)) ∙ (tag_end t [] ends).3 in
    let left : take_while is_space (x ++ e) ≡ x = take_while_append is_space x e p ∙ ap (λ t. x ++ t) (stop e a) ∙ append-nil x in
    let right : take_while is_space (y ++ f) ≡ y = take_while_append is_space y f q ∙ ap (λ t. y ++ t) (stop f b) ∙ append-nil y in
    let blank : x ≡ y = sym left ∙ ap (take_while is_space) same ∙ right in
    (blank, append_cancel_left x e f (same ∙ ap (λ t. t ++ f) (sym blank)))

tag_same : (n : List ℕ) (p : List Attribute) (b m : List ℕ) (q : List Attribute) (c : List ℕ) → n ≡ m → p ≡ q → b ≡ c → ◌≡◌ {A = Tag} (record { name = n; attributes = p; blank = b }) (record { name = m; attributes = q; blank = c })
tag_same n p b m q c x y z = cc

tag_split : (name cat blank ending : List ℕ) → codes "<" ++ name ++ cat ++ blank ++ ending ≡ 60 ∷ (name ++ (cat ++ (blank ++ ending)))
tag_split name cat blank ending = simp append_assoc

behind_first : (b : ℕ) (x y : List ℕ) → b ∷ x ≡ b ∷ y → x ≡ y
behind_first b x y e = cc

pub tag_unique : (a b : Tag) (e f : List ℕ) → EndsTag e → EndsTag f → IsTag a → IsTag b → tag_text a e ≡ tag_text b f → (a ≡ b) × (e ≡ f)
tag_unique a b e f ends_e ends_f p q same =
    let left = joined a.attributes in
    let right = joined b.attributes in
    let tails : a.name ++ (left ++ (a.blank ++ e)) ≡ b.name ++ (right ++ (b.blank ++ f)) = behind_first 60 _ _ (sym (tag_split a.name left a.blank e) ∙ same ∙ tag_split b.name right b.blank f) in
    let nil = λ (x t : List ℕ). ap (λ t. x ++ t) (append-nil t) in
    let ends_a = subst EndsName (ap (λ t. left ++ t) (nil a.blank e)) (tag_name_ends a e [] p ends_e) in
    let ends_b = subst EndsName (ap (λ t. right ++ t) (nil b.blank f)) (tag_name_ends b f [] q ends_f) in
    let names = name_unique a.name b.name (left ++ (a.blank ++ e)) (right ++ (b.blank ++ f)) p.name q.name ends_a ends_b tails in
    let none_a = ap attribute.read (sym (nil a.blank e)) ∙ end_rests a.blank e [] p.blank ends_e in
    let none_b = ap attribute.read (sym (nil b.blank f)) ∙ end_rests b.blank f [] q.blank ends_f in
    let parts = attributes_unique a.attributes b.attributes (a.blank ++ e) (b.blank ++ f) p.attributes q.attributes none_a none_b names.1 in
    let blanks = blank_unique a.blank b.blank e f p.blank q.blank ends_e ends_f parts.1 in
    (tag_same a.name a.attributes a.blank b.name b.attributes b.blank names.0 parts.0 blanks.0, blanks.1)

-- the character of a reference to a predefined entity, from two of its bytes
abbrev predefined_value : List ℕ → ℕ
predefined_value t = cond (eqb (get_or t 1 0) 108) 60 (cond (eqb (get_or t 1 0) 103) 62 (cond (eqb (get_or t 2 0) 109) 38 (cond (eqb (get_or t 2 0) 112) 39 34)))

predefined_is : (t : List ℕ) (c : ℕ) → IsPredefined t c → c ≡ predefined_value t
predefined_is t c (inl (e, f)) = f ∙ sym (ap predefined_value e)
predefined_is t c (inr (inl (e, f))) = f ∙ sym (ap predefined_value e)
predefined_is t c (inr (inr (inl (e, f)))) = f ∙ sym (ap predefined_value e)
predefined_is t c (inr (inr (inr (inl (e, f))))) = f ∙ sym (ap predefined_value e)
predefined_is t c (inr (inr (inr (inr (e, f))))) = f ∙ sym (ap predefined_value e)

second_byte : (t : List ℕ) (b : ℕ) → get_or t 1 0 ≡ b → 35 < b → (c : ℕ) → NamesChar t c → ⊥
second_byte t b is more c names =
    let found = char_ref_again t [] c names in
    let hash : get_or t 1 0 ≡ 35 = ap (λ t. get_or t 1 0) found.1 in
    omega arith

predefined_no_number : (t : List ℕ) (c d : ℕ) → IsPredefined t c → NamesChar t d → ⊥
predefined_no_number t c d (inl (e, f)) n = second_byte t 108 (ap (λ t. get_or t 1 0) e) (omega arith) d n
predefined_no_number t c d (inr (inl (e, f))) n = second_byte t 103 (ap (λ t. get_or t 1 0) e) (omega arith) d n
predefined_no_number t c d (inr (inr (inl (e, f)))) n = second_byte t 97 (ap (λ t. get_or t 1 0) e) (omega arith) d n
predefined_no_number t c d (inr (inr (inr (inl (e, f))))) n = second_byte t 97 (ap (λ t. get_or t 1 0) e) (omega arith) d n
predefined_no_number t c d (inr (inr (inr (inr (e, f))))) n = second_byte t 113 (ap (λ t. get_or t 1 0) e) (omega arith) d n

pub stands_unique : (t : List ℕ) (c d : ℕ) → StandsFor t c → StandsFor t d → c ≡ d
stands_unique t c d (inl a) (inl b) = let one = numbered_again t c a in let two = numbered_again t d b in cc
stands_unique t c d (inl a) (inr b) = absurd (predefined_no_number t d c b a)
stands_unique t c d (inr a) (inl b) = absurd (predefined_no_number t c d a b)
stands_unique t c d (inr a) (inr b) = predefined_is t c a ∙ sym (predefined_is t d b)

-- a character reference is no entity reference
pub names_no_entity : (t : List ℕ) (c : ℕ) → NamesChar t c → IsEntityRef t → ⊥
names_no_entity t c names entity =
    let one = reference_again t [] char_ref (inl (refl, (c, names))) in
    let two = reference_again t [] entity_ref (inr (refl, entity)) in
    let both = pair_parts char_ref entity_ref [] [] (sym one ∙ two) in
    let same = both.0 in
    absurd (cc)
