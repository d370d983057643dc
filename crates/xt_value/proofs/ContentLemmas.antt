-- Items give one content.
use Rattle.std.proofs.Common.{false, ◌≡◌, ◌∙◌, ℕ, List, [], ◌∷◌, ◌++◌, Option, None, Some, inl, inr, refl, sym, ap, subst, codes}
use Rattle.std.proofs.lemmas.List.{append_cancel_left, append_cancel_right}
use Rattle.xt_spec.specs.Char.{is_space}
use Rattle.xt_spec.specs.Tag.{Attribute, Tag}
use Rattle.xt_spec.specs.Tree.{Items, nil, element, leaf, text_item, reference_item, comment_item, pi_item, gap}
use Rattle.xt_spec.specs.LineEnds.{lines_read}
use Rattle.xt_spec.specs.Reading.{tag_ending}
use Rattle.xt_spec.specs.Namespace.{NamedValue}
use Rattle.xt_spec.specs.Content.{Content, element_content, text_content, comment_content, pi_content, typed, HaveValues, HasContent}
use Rattle.xt_spec.specs.Markup.{IsCommentOf, IsPiOf}
use Rattle.xt_lex.specs.Place.{EndsTag}
use Rattle.xt_lex.proofs.Theorems.{tag_unique, drop_while_append}
use Rattle.xt_value.specs.Parts.{IsCut}
use Rattle.xt_value.proofs.MarkupLemmas.{pi_cut, pi_is_cut, data_stay}
use Rattle.xt_value.proofs.UniqueLemmas.{text_value_unique, attribute_value_unique}

pub comment_unique : (text a b : List ℕ) → IsCommentOf text a → IsCommentOf text b → a ≡ b
comment_unique text a b first second =
    append_cancel_right a b (codes "-->") (append_cancel_left (codes "<!--") (a ++ codes "-->") (b ++ codes "-->") (sym first ∙ second))

pi_body : (target space inner : List ℕ) → codes "<?" ++ target ++ space ++ inner ++ codes "?>" ≡ codes "<?" ++ ((target ++ space ++ inner) ++ codes "?>")
pi_body target space inner = refl

pub pi_unique : (text target inner other data_ : List ℕ) → IsPiOf text target inner → IsPiOf text other data_ → (target ≡ other) × (inner ≡ data_)
pi_unique text target inner other data_ first second =
    let whole : codes "<?" ++ ((target ++ first.space ++ inner) ++ codes "?>") ≡ codes "<?" ++ ((other ++ second.space ++ data_) ++ codes "?>") = sym first.spelled ∙ second.spelled in
    let body : target ++ first.space ++ inner ≡ other ++ second.space ++ data_ = append_cancel_right _ _ (codes "?>") (append_cancel_left (codes "<?") _ _ whole) in
    let cut : IsCut is_space (target ++ first.space ++ inner) other (second.space ++ data_) = subst (λ (l : List ℕ). IsCut is_space l other (second.space ++ data_)) (sym body) (pi_is_cut text other data_ second) in
    let parts = pi_cut text target inner (target ++ first.space ++ inner) other (second.space ++ data_) first refl cut in
    (parts.0, parts.1 ∙ drop_while_append is_space second.space data_ second.is_space ∙ data_stay data_ second.begins)

values_unique : (attributes : List Attribute) (xs ys : List NamedValue) → HaveValues attributes xs → HaveValues attributes ys → xs ≡ ys
values_unique [] xs ys first second = first ∙ sym second
values_unique (a ∷ attributes) xs ys (v, more, has, have, is) (w, others, has_w, have_w, is_w) =
    is ∙ ap (λ (x : List ℕ). record { name = a.name; value = typed a.name x } ∷ more) (attribute_value_unique a.quoted v w has has_w)
    ∙ ap (λ (l : List NamedValue). record { name = a.name; value = typed a.name w } ∷ l) (values_unique attributes more others have have_w) ∙ sym is_w

ending_ends : (close : Option (List ℕ)) → EndsTag (tag_ending close)
ending_ends None = inr refl
ending_ends (Some close) = inl refl

pub content_unique : (items : Items) (a b : Content) → HasContent items a → HasContent items b → a ≡ b
content_unique nil a b first second = first ∙ sym second
content_unique (element open_tag kids close rest) a b (tag, values, inner, others, is_tag, spelled, have, has_inner, has_others, is) (tag_b, values_b, inner_b, others_b, is_tag_b, spelled_b, have_b, has_inner_b, has_others_b, is_b) =
    let tags : tag ≡ tag_b = (tag_unique tag tag_b (tag_ending close) (tag_ending close) (ending_ends close) (ending_ends close) is_tag is_tag_b (sym spelled ∙ spelled_b)).0 in
    let same : values ≡ values_b = values_unique tag_b.attributes values values_b (subst (λ (t : Tag). HaveValues t.attributes values) tags have) have_b in
    is ∙ ap (λ (t : Tag). element_content t.name values inner others) tags
    ∙ ap (λ (v : List NamedValue). element_content tag_b.name v inner others) same
    ∙ ap (λ (c : Content). element_content tag_b.name values_b c others) (content_unique kids inner inner_b has_inner has_inner_b)
    ∙ ap (λ (c : Content). element_content tag_b.name values_b inner_b c) (content_unique rest others others_b has_others has_others_b) ∙ sym is_b
content_unique (leaf text_item text rest) a b (value, others, has, has_others, is) (value_b, others_b, has_b, has_others_b, is_b) =
    is ∙ ap (λ (v : List ℕ). text_content v others) (text_value_unique false text value value_b has has_b)
    ∙ ap (λ (c : Content). text_content value_b c) (content_unique rest others others_b has_others has_others_b) ∙ sym is_b
content_unique (leaf comment_item text rest) a b (inner, others, has, has_others, is) (inner_b, others_b, has_b, has_others_b, is_b) =
    is ∙ ap (λ (l : List ℕ). comment_content (lines_read l) others) (comment_unique text inner inner_b has has_b)
    ∙ ap (λ (c : Content). comment_content (lines_read inner_b) c) (content_unique rest others others_b has_others has_others_b) ∙ sym is_b
content_unique (leaf pi_item text rest) a b (target, inner, others, has, has_others, is) (target_b, inner_b, others_b, has_b, has_others_b, is_b) =
    let parts = pi_unique text target inner target_b inner_b has has_b in
    is ∙ ap (λ (t : List ℕ). pi_content t (lines_read inner) others) parts.0
    ∙ ap (λ (l : List ℕ). pi_content target_b (lines_read l) others) parts.1
    ∙ ap (λ (c : Content). pi_content target_b (lines_read inner_b) c) (content_unique rest others others_b has_others has_others_b) ∙ sym is_b
content_unique (leaf gap text rest) a b (begins, has) (begins_b, has_b) = content_unique rest a b has has_b
content_unique (leaf reference_item text rest) a b first second = absurd first
