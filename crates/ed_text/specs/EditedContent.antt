-- What an edit of a text makes of what the items give: the text has its new value, and goes where that is empty; the rest is
-- as before. Of this project. A value is here UTF-8.
--
--   content_edited  the content, of these items, in which the text at a path has this value
use Rattle.std.specs.Prelude.{ℕ, zero, suc, List, [], ◌∷◌}
use Rattle.xt_spec.specs.Tree.{LeafKind, Items, nil, element, leaf, text_item, reference_item, comment_item, pi_item, gap}
use Rattle.xt_spec.specs.Content.{Content, nothing_given, element_content, text_content, comment_content, pi_content}

-- a text of this value, which is left out where that is empty, and others behind it
abbrev pub text_before : List ℕ → Content → Content
text_before [] others = others
text_before (b ∷ value) others = text_content (b ∷ value) others

-- the first one, where it is a text, with this value
abbrev pub first_text_set : List ℕ → Content → Content
first_text_set value nothing_given = nothing_given
first_text_set value (element_content name values kids rest) = element_content name values kids rest
first_text_set value (text_content old rest) = text_before value rest
first_text_set value (comment_content inner rest) = comment_content inner rest
first_text_set value (pi_content target inner rest) = pi_content target inner rest

-- the first one stays, and what stands behind it becomes this
abbrev pub behind_first : (Content → Content) → Content → Content
behind_first change nothing_given = nothing_given
behind_first change (element_content name values kids rest) = element_content name values kids (change rest)
behind_first change (text_content value rest) = text_content value (change rest)
behind_first change (comment_content inner rest) = comment_content inner (change rest)
behind_first change (pi_content target inner rest) = pi_content target inner (change rest)

-- what the first one holds, where it is an element, becomes this
abbrev pub within_first : (Content → Content) → Content → Content
within_first change nothing_given = nothing_given
within_first change (element_content name values kids rest) = element_content name values (change kids) rest
within_first change (text_content value rest) = text_content value rest
within_first change (comment_content inner rest) = comment_content inner rest
within_first change (pi_content target inner rest) = pi_content target inner rest

-- what stands behind a leaf becomes this; a gap gives nothing, so it stands behind nothing
abbrev pub behind_leaf : LeafKind → (Content → Content) → Content → Content
behind_leaf text_item change content = behind_first change content
behind_leaf reference_item change content = behind_first change content
behind_leaf comment_item change content = behind_first change content
behind_leaf pi_item change content = behind_first change content
behind_leaf gap change content = change content

-- the content of the items, in which the text of this index, or the one that a path leads to in it, has this value
abbrev pub content_edited_in : Items → ℕ → List ℕ → List ℕ → Content → Content
content_edited_in nil index path value content = content
content_edited_in (leaf kind text rest) zero path value content = first_text_set value content
content_edited_in (leaf kind text rest) (suc index) path value content = behind_leaf kind (content_edited_in rest index path value) content
content_edited_in (element open_tag kids close rest) zero [] value content = content
content_edited_in (element open_tag kids close rest) zero (next ∷ path) value content = within_first (content_edited_in kids next path value) content
content_edited_in (element open_tag kids close rest) (suc index) path value content = behind_first (content_edited_in rest index path value) content

abbrev pub content_edited : Items → List ℕ → List ℕ → Content → Content
content_edited items [] value content = content
content_edited items (index ∷ path) value content = content_edited_in items index path value content
