-- Tags: their form is lawful, and says what the standard says.
use Rattle.std.proofs.Common.{◌≡◌, ℕ, List, ◌++◌, ◌⊎◌, refl, sym, subst, ◌∙◌, inl, inr, Some, codes, append_assoc, map}
use Rattle.std.specs.List.{concat}
use Rattle.std.specs.Str.{IsUtf8}
use Rattle.xt_spec.specs.Name.{IsQName}
use Rattle.xt_spec.specs.Tag.{Attribute, attribute_text}
use Rattle.xt_spec.specs.Token.{TokenKind, start_tag, empty_tag, end_tag, char_data, char_ref, entity_ref, cdata_section, comment, pi, declaration, doctype, Spells}
use Rattle.xt_scan.proofs.Theorems.{Lawful, lawful_blank, lawful_both, lawful_either, lawful_given, lawful_many, lawful_word, sees_nothing}
use Rattle.xt_lex.specs.QName.{q_name}
use Rattle.xt_lex.specs.Tag.{att_value, attribute, open_end, open_tag, closing_tag, tag}
use Rattle.xt_lex.proofs.Attributes.{lawful_attribute, attributes_are, are_attributes}
use Rattle.xt_lex.proofs.QNames.{lawful_q_name}

-- a token that is a tag
abbrev pub IsTagKind : TokenKind → Type 0
IsTagKind k = (k ≡ start_tag) ⊎ ((k ≡ empty_tag) ⊎ (k ≡ end_tag))

-- the text of attributes
abbrev pub joined : List Attribute → List ℕ
joined parts = concat (map attribute_text parts)

-- ---- lawful

lawful_open_end : Lawful open_end
unfolding open_end
lawful_open_end = search (lawful_either, lawful_given, lawful_word) depth 14

lawful_open_tag : Lawful open_tag
unfolding open_tag open_end q_name attribute att_value
lawful_open_tag = search (lawful_both, lawful_many, lawful_blank, lawful_q_name, lawful_attribute, lawful_open_end) depth 14

lawful_closing_tag : Lawful closing_tag
unfolding closing_tag q_name
lawful_closing_tag = search (lawful_given, lawful_both, lawful_blank, lawful_word, lawful_q_name) depth 14

pub lawful_tag : Lawful tag
unfolding tag closing_tag open_tag open_end q_name attribute att_value
lawful_tag = search (lawful_both, lawful_either, lawful_word, lawful_closing_tag, lawful_open_tag) depth 14

-- ---- it says what the standard says

open_joined : (t less r1 name r2 cat blank r3 close end : List ℕ) → t ≡ less ++ r1 → less ≡ codes "<" → r1 ≡ name ++ r2 → r2 ≡ cat ++ r3 → r3 ≡ blank ++ close → close ≡ end → (parts : List ℕ) → cat ≡ parts → t ≡ codes "<" ++ name ++ parts ++ blank ++ end
open_joined t less r1 name r2 cat blank r3 close end a b c d e f parts g = rw (a, b, c, d, e, f, g) (simp append_assoc)

close_joined : (t less r1 slash r2 name r3 blank close : List ℕ) → t ≡ less ++ r1 → less ≡ codes "<" → r1 ≡ slash ++ r2 → slash ≡ codes "/" → r2 ≡ name ++ r3 → r3 ≡ blank ++ close → close ≡ codes ">" → t ≡ codes "</" ++ name ++ blank ++ codes ">"
close_joined t less r1 slash r2 name r3 blank close a b c d e f g = rw (a, b, c, d, e, f, g) (simp append_assoc)

spelt_as : (k j : TokenKind) (t : List ℕ) → j ≡ k → Spells j t → Spells k t
spelt_as k j t e h = subst (λ k. Spells k t) e h

pub tag_is : (k : TokenKind) (t : List ℕ) → tag.Spells k t → Spells k t × IsTagKind k
unfolding tag closing_tag open_tag open_end q_name
tag_is k t (_, j, less, r1, is_less, inl (_, i, slash, r2, is_slash, (_, (_, _, name, r3, (same, is_name), (_, _, blank, close, is_blank, is_close, _, e4), _, e3), end), a2, e2), a1, e1) =
    let kind = end ∙ a2 ∙ a1 in
    (spelt_as k end_tag t kind (name, subst IsQName (sym same) is_name, (blank, is_blank, close_joined t less r1 slash r2 name r3 blank close e1 is_less e2 is_slash e3 e4 is_close)), inr (inr (sym kind)))
tag_is k t (_, j, less, r1, is_less, inr (_, k1, name, r2, (same, is_name), (parts, k2, cat, r3, are, (_, k3, blank, close, is_blank, inl (_, is_close, start), a4, e4), a3, e3), a2, e2), a1, e1) =
    let kind = start ∙ a4 ∙ a3 ∙ a2 ∙ a1 in
    let all = attributes_are parts cat are in
    (spelt_as k start_tag t kind (record { name = name; attributes = parts; blank = blank }, record { name = subst IsQName (sym same) is_name; attributes = all.0; blank = is_blank }, open_joined t less r1 name r2 cat blank r3 close (codes ">") e1 is_less e2 e3 e4 is_close (joined parts) all.1), inl (sym kind))
tag_is k t (_, j, less, r1, is_less, inr (_, k1, name, r2, (same, is_name), (parts, k2, cat, r3, are, (_, k3, blank, close, is_blank, inr (_, is_close, empty_), a4, e4), a3, e3), a2, e2), a1, e1) =
    let kind = empty_ ∙ a4 ∙ a3 ∙ a2 ∙ a1 in
    let all = attributes_are parts cat are in
    (spelt_as k empty_tag t kind (record { name = name; attributes = parts; blank = blank }, record { name = subst IsQName (sym same) is_name; attributes = all.0; blank = is_blank }, open_joined t less r1 name r2 cat blank r3 close (codes "/>") e1 is_less e2 e3 e4 is_close (joined parts) all.1), inr (inl (sym kind)))

open_split : (name cat blank close : List ℕ) → codes "<" ++ name ++ cat ++ blank ++ close ≡ codes "<" ++ (name ++ (cat ++ (blank ++ close)))
open_split name cat blank close = simp append_assoc

close_split : (name blank : List ℕ) → codes "</" ++ name ++ blank ++ codes ">" ≡ codes "<" ++ (codes "/" ++ (name ++ (blank ++ codes ">")))
close_split name blank = simp append_assoc

pub no_tag : (k : TokenKind) → k ≡ char_data → IsTagKind k → ⊥
no_tag k e (inl s) = absurd (cc)
no_tag k e (inr (inl s)) = absurd (cc)
no_tag k e (inr (inr s)) = absurd (cc)

pub no_tag_ref : (k : TokenKind) → ((k ≡ char_ref) ⊎ (k ≡ entity_ref)) → IsTagKind k → ⊥
no_tag_ref k (inl e) (inl s) = absurd (cc)
no_tag_ref k (inl e) (inr (inl s)) = absurd (cc)
no_tag_ref k (inl e) (inr (inr s)) = absurd (cc)
no_tag_ref k (inr e) (inl s) = absurd (cc)
no_tag_ref k (inr e) (inr (inl s)) = absurd (cc)
no_tag_ref k (inr e) (inr (inr s)) = absurd (cc)

pub no_tag_other : (k : TokenKind) → (k ≡ start_tag → ⊥) → (k ≡ empty_tag → ⊥) → (k ≡ end_tag → ⊥) → IsTagKind k → ⊥
no_tag_other k a b c (inl e) = a e
no_tag_other k a b c (inr (inl e)) = b e
no_tag_other k a b c (inr (inr e)) = c e

pub is_tag : (k : TokenKind) (t : List ℕ) → Spells k t → IsTagKind k → tag.Spells k t
unfolding tag closing_tag open_tag open_end q_name
is_tag start_tag t (tag, is, e) m =
    let cat = joined tag.attributes in
    let tail = tag.blank ++ codes ">" in
    (tt, start_tag, codes "<", tag.name ++ (cat ++ tail), refl, inr (tag.name, start_tag, tag.name, cat ++ tail, (refl, is.name), (tag.attributes, start_tag, cat, tail, are_attributes tag.attributes is.attributes, (tt, start_tag, tag.blank, codes ">", is.blank, inl (tt, refl, refl), refl, refl), refl, refl), refl, refl), refl, e ∙ open_split tag.name cat tag.blank (codes ">"))
is_tag empty_tag t (tag, is, e) m =
    let cat = joined tag.attributes in
    let tail = tag.blank ++ codes "/>" in
    (tt, empty_tag, codes "<", tag.name ++ (cat ++ tail), refl, inr (tag.name, empty_tag, tag.name, cat ++ tail, (refl, is.name), (tag.attributes, empty_tag, cat, tail, are_attributes tag.attributes is.attributes, (tt, empty_tag, tag.blank, codes "/>", is.blank, inr (tt, refl, refl), refl, refl), refl, refl), refl, refl), refl, e ∙ open_split tag.name cat tag.blank (codes "/>"))
is_tag end_tag t (name, q, (blank, b, e)) m =
    (tt, end_tag, codes "<", codes "/" ++ (name ++ (blank ++ codes ">")), refl, inl (tt, end_tag, codes "/", name ++ (blank ++ codes ">"), refl, (tt, (name, tt, name, blank ++ codes ">", (refl, q), (tt, tt, blank, codes ">", b, refl, refl, refl), refl, refl), refl), refl, refl), refl, e ∙ close_split name blank)
is_tag char_data t s m = absurd (no_tag char_data refl m)
is_tag char_ref t s m = absurd (no_tag_ref char_ref (inl refl) m)
is_tag entity_ref t s m = absurd (no_tag_ref entity_ref (inr refl) m)
is_tag cdata_section t s m = absurd (no_tag_other cdata_section (λ e. cc) (λ e. cc) (λ e. cc) m)
is_tag comment t s m = absurd (no_tag_other comment (λ e. cc) (λ e. cc) (λ e. cc) m)
is_tag pi t s m = absurd (no_tag_other pi (λ e. cc) (λ e. cc) (λ e. cc) m)
is_tag declaration t s m = absurd (no_tag_other declaration (λ e. cc) (λ e. cc) (λ e. cc) m)
is_tag doctype t s m = absurd (no_tag_other doctype (λ e. cc) (λ e. cc) (λ e. cc) m)

-- ---- what the token needs

pub tag_takes : (s r : List ℕ) (k : TokenKind) → IsUtf8 s → tag.read s ≡ Some (k, r) → (t : List ℕ) × (s ≡ t ++ r) × Spells k t × IsTagKind k
tag_takes s r k u h =
    let one = lawful_tag.takes s k r u h in
    let is = tag_is k one.0 one.1 in
    (one.0, one.2, is.0, is.1)

pub tag_again : (t r : List ℕ) (k : TokenKind) → Spells k t → IsTagKind k → tag.read (t ++ r) ≡ Some (k, r)
unfolding tag closing_tag open_tag open_end q_name attribute att_value
tag_again t r k s m = lawful_tag.again k t r (is_tag k t s m) (sees_nothing r)

pub tag_utf8 : (t : List ℕ) (k : TokenKind) → Spells k t → IsTagKind k → IsUtf8 t
tag_utf8 t k s m = lawful_tag.utf8 k t (is_tag k t s m)
