-- What the items give after an edit of a text.
use Rattle.std.proofs.Common.{◌≡◌, ◌≢◌, ℕ, zero, suc, List, [], ◌∷◌, length, refl, ap, arith, Some, false, true, encode_utf8_all}
use Rattle.std.proofs.lemmas.Str.{length-le-encodes}
use Rattle.std.specs.List.{list_all}
use Rattle.xt_spec.specs.Char.{is_char}
use Rattle.xt_spec.specs.Tree.{Items, nil, element, leaf, leaf_item, text_item, reference_item, comment_item, pi_item, gap, append}
use Rattle.xt_spec.specs.Content.{Content, text_content, HasContent}
use Rattle.xt_spec.specs.Paths.{item_in, item_at, replaced_in}
use Rattle.xt_escape.proofs.Theorems.{escape_has_value}
use Rattle.ed_spec.specs.TextEdit.{text_written, text_edited}
use Rattle.ed_text.specs.EditedContent.{text_before, first_text_set, behind_first, within_first, content_edited_in, content_edited}

-- ---- the items that stand for a value

some_text : (bytes : List ℕ) (others : Content) → bytes ≢ [] → text_before bytes others ≡ text_content bytes others
some_text [] others some = absurd (some refl)
some_text (b ∷ bytes) others some = refl

pub encodes_some : (c : ℕ) (cs : List ℕ) → encode_utf8_all (c ∷ cs) ≢ []
encodes_some c cs none = let size = ap length none in absurd (omega (arith, size, length-le-encodes (c ∷ cs)))

-- they give a text of it, or nothing
written_has : (cs : List ℕ) (rest : Items) (others : Content) → list_all is_char cs ≡ true → HasContent rest others → HasContent (append (text_written cs) rest) (text_before (encode_utf8_all cs) others)
written_has [] rest others are has = has
written_has (c ∷ cs) rest others are has =
    (encode_utf8_all (c ∷ cs), others, escape_has_value (c ∷ cs) are, has, some_text (encode_utf8_all (c ∷ cs)) others (encodes_some c cs))

-- ---- in the place of the text at a path

edited_in : (items : Items) (index : ℕ) (path text cs : List ℕ) (content : Content) → item_in items index path ≡ Some (leaf_item text_item text) → list_all is_char cs ≡ true → HasContent items content
    → HasContent (replaced_in items index path (text_written cs)) (content_edited_in items index path (encode_utf8_all cs) content)
edited_in nil index path text cs content is are has = absurd (cc)
edited_in (element open_tag kids close rest) zero [] text cs content is are has = absurd (cc)
edited_in (element open_tag kids close rest) zero (next ∷ path) text cs content is are (tag, values, inner, others, is_tag, spelled, values_are, has_inner, has_others, same) = (
  tag,
  values,
  content_edited_in kids next path (encode_utf8_all cs) inner,
  others,
  is_tag,
  spelled,
  values_are,
  edited_in kids next path text cs inner is are has_inner,
  has_others,
  ap (within_first (content_edited_in kids next path (encode_utf8_all cs))) same,
)
edited_in (element open_tag kids close rest) (suc index) path text cs content is are (tag, values, inner, others, is_tag, spelled, values_are, has_inner, has_others, same) = (
  tag,
  values,
  inner,
  content_edited_in rest index path (encode_utf8_all cs) others,
  is_tag,
  spelled,
  values_are,
  has_inner,
  edited_in rest index path text cs others is are has_others,
  ap (behind_first (content_edited_in rest index path (encode_utf8_all cs))) same,
)
edited_in (leaf text_item other rest) zero [] text cs content is are (value, others, has_value, has, same) =
    rw (ap (first_text_set (encode_utf8_all cs)) same) (written_has cs rest others are has)
edited_in (leaf reference_item other rest) zero [] text cs content is are has = absurd has
edited_in (leaf comment_item other rest) zero [] text cs content is are has = absurd (cc)
edited_in (leaf pi_item other rest) zero [] text cs content is are has = absurd (cc)
edited_in (leaf gap other rest) zero [] text cs content is are has = absurd (cc)
edited_in (leaf kind other rest) zero (next ∷ path) text cs content is are has = absurd (cc)
edited_in (leaf text_item other rest) (suc index) path text cs content is are (value, others, has_value, has, same) =
    (value, content_edited_in rest index path (encode_utf8_all cs) others, has_value, edited_in rest index path text cs others is are has, ap (behind_first (content_edited_in rest index path (encode_utf8_all cs))) same)
edited_in (leaf reference_item other rest) (suc index) path text cs content is are has = absurd has
edited_in (leaf comment_item other rest) (suc index) path text cs content is are (inner, others, spells, has, same) =
    (inner, content_edited_in rest index path (encode_utf8_all cs) others, spells, edited_in rest index path text cs others is are has, ap (behind_first (content_edited_in rest index path (encode_utf8_all cs))) same)
edited_in (leaf pi_item other rest) (suc index) path text cs content is are (target, inner, others, spells, has, same) =
    (target, inner, content_edited_in rest index path (encode_utf8_all cs) others, spells, edited_in rest index path text cs others is are has, ap (behind_first (content_edited_in rest index path (encode_utf8_all cs))) same)
edited_in (leaf gap other rest) (suc index) path text cs content is are (apart, has) = (apart, edited_in rest index path text cs content is are has)

-- the edited items give the edited content
pub edited_content : (items : Items) (path text cs : List ℕ) (content : Content) → item_at items path ≡ Some (leaf_item text_item text) → list_all is_char cs ≡ true → HasContent items content
    → HasContent (text_edited false items path cs) (content_edited items path (encode_utf8_all cs) content)
edited_content items [] text cs content is are has = absurd (cc)
edited_content items (index ∷ path) text cs content is are has = edited_in items index path text cs content is are has
