-- What is spelled is text, so a text may be cut behind a token.
use Rattle.std.proofs.Common.{◌≡◌, ℕ, List, [], ◌∷◌, ◌++◌, take, true, refl, sym, codes, inl, inr, ◌∙◌, append_assoc}
use Rattle.std.proofs.lemmas.Bool.{and_from}
use Rattle.std.proofs.lemmas.Str.{IsUtf8-append, IsCharBoundary-from_take}
use Rattle.std.specs.List.{AllByRecursion}
use Rattle.std.specs.Str.{IsUtf8, IsCharBoundary}
use lib.Utf8.{scalars}
use Rattle.xt_spec.specs.Token.{TokenKind, start_tag, empty_tag, end_tag, char_data, char_ref, entity_ref, cdata_section, comment, pi, declaration, doctype, IsPlain, Spells, IsFront}
use Rattle.xt_lex.proofs.Cuts.{chars_utf8}
use Rattle.xt_lex.proofs.Declarations.{declaration_utf8}
use Rattle.xt_lex.proofs.Doctypes.{doctype_utf8}
use Rattle.xt_lex.proofs.Instructions.{behind_target, data_utf8}
use Rattle.xt_lex.proofs.References.{IsFound, found_spelt}
use Rattle.xt_lex.proofs.Tags.{tag_utf8}
use Rattle.xt_lex.proofs.Utf8.{char_scalar, ascii, ncname_utf8}
use Rattle.xt_lex.proofs.Values.{attr_scalars}

plain_scalars : (cs : List ℕ) → AllByRecursion IsPlain cs → scalars cs ≡ true
plain_scalars [] h = refl
plain_scalars (c ∷ cs) h = and_from _ _ (char_scalar c h.0.0) (plain_scalars cs h.1)

found_utf8 : (k : TokenKind) (t : List ℕ) → IsFound k t → IsUtf8 t
found_utf8 k t f = let spelt = found_spelt k t f in (spelt.0, (attr_scalars spelt.0 spelt.2, spelt.1))

bracketed_utf8 : (front inner ending : List ℕ) → IsUtf8 front → IsUtf8 inner → IsUtf8 ending → IsUtf8 (front ++ inner ++ ending)
bracketed_utf8 front inner ending f i e = IsUtf8-append (front ++ inner) ending (IsUtf8-append front inner f i) e

regrouped : (target space inner : List ℕ) → codes "<?" ++ target ++ space ++ inner ++ codes "?>" ≡ (codes "<?" ++ target) ++ (space ++ inner) ++ codes "?>"
regrouped target space inner = simp append_assoc

pub spells_utf8 : (kind : TokenKind) (t : List ℕ) → Spells kind t → IsUtf8 t
spells_utf8 start_tag t h = tag_utf8 t start_tag h (inl refl)
spells_utf8 empty_tag t h = tag_utf8 t empty_tag h (inr (inl refl))
spells_utf8 end_tag t h = tag_utf8 t end_tag h (inr (inr refl))
spells_utf8 char_data t (cs, some, plain, e, closes) = (cs, (plain_scalars cs plain, sym e))
spells_utf8 char_ref t h = found_utf8 char_ref t (inl (refl, h))
spells_utf8 entity_ref t h = found_utf8 entity_ref t (inr (refl, h))
spells_utf8 cdata_section t (inner, (chars_, lacks_, e)) =
    rw e (bracketed_utf8 (codes "<![CDATA[") inner (codes "]]>") (ascii (codes "<![CDATA[") refl) (chars_utf8 inner chars_) (ascii (codes "]]>") refl))
spells_utf8 comment t (inner, chars_, lacks_, e) =
    rw e (bracketed_utf8 (codes "<!--") inner (codes "-->") (ascii (codes "<!--") refl) (chars_utf8 inner chars_) (ascii (codes "-->") refl))
spells_utf8 pi t (target, inner, chars_, lacks_, is) =
    let spelled : t ≡ (codes "<?" ++ target) ++ (is.space ++ inner) ++ codes "?>" = is.spelled ∙ regrouped target is.space inner in
    rw spelled (bracketed_utf8 (codes "<?" ++ target) (is.space ++ inner) (codes "?>") (IsUtf8-append (codes "<?") target (ascii (codes "<?") refl) (ncname_utf8 target is.is_target.0)) (data_utf8 (is.space ++ inner) (behind_target t target inner chars_ lacks_ is)) (ascii (codes "?>") refl))
spells_utf8 declaration t (d, is) = declaration_utf8 d t is
spells_utf8 doctype t is = doctype_utf8 t is

pub front_boundary : (s : List ℕ) (k : TokenKind) (n : ℕ) → IsUtf8 s → IsFront k n s → IsCharBoundary s n
front_boundary s k n u f = IsCharBoundary-from_take s n u f.within (spells_utf8 k (take n s) f.spelled)
