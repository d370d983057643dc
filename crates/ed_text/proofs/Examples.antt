-- The pieces of a tree, computed, and a text of it with another value; a file that is read as a text, with values that begin
-- with a byte order mark.
use Rattle.std.proofs.Common.{◌≡◌, ◌++◌, ℕ, List, refl, inl, inr, [], ◌∷◌, codes, Some, None, false, true}
use Rattle.xt_spec.specs.Content.{Content, nothing_given, element_content, text_content, comment_content}
use Rattle.xt_spec.specs.Reading.{mark, plain_text, IsOrdered}
use Rattle.xt_spec.specs.Tree.{Items, nil, element, leaf, text_item, comment_item, gap, source_text}
use Rattle.ed_spec.specs.TextEdit.{text_edited}
use Rattle.ed_text.specs.ByteOrderMark.{AddsNoByteOrderMark}
use Rattle.ed_text.specs.Pieces.{opens, closes, holds, pieces_of}
use Rattle.ed_text.specs.TextPlace.{IsTextAt}
use Rattle.ed_text.specs.EditedContent.{content_edited}

-- <a>x<b/></a>
tree : Items
tree = element (codes "<a>") (leaf text_item (codes "x") (element (codes "<b/>") nil None nil)) (Some (codes "</a>")) nil

shows_each_tag_and_leaf : pieces_of tree ≡ opens (codes "<a>") ∷ holds text_item (codes "x") ∷ opens (codes "<b/>") ∷ closes None ∷ closes (Some (codes "</a>")) ∷ []
unfolding tree
shows_each_tag_and_leaf = refl

changes_the_text_alone : pieces_of (text_edited false tree (0 ∷ 0 ∷ []) (codes "y")) ≡ opens (codes "<a>") ∷ holds text_item (codes "y") ∷ opens (codes "<b/>") ∷ closes None ∷ closes (Some (codes "</a>")) ∷ []
unfolding tree lib.Utf8.encode
changes_the_text_alone = refl

finds_the_text : IsTextAt tree (0 ∷ 0 ∷ [])
unfolding tree
finds_the_text = (codes "x", refl)

finds_no_text_in_a_tag : IsTextAt tree (0 ∷ 1 ∷ []) → ⊥
unfolding tree
finds_no_text_in_a_tag (text, is) = absurd cc

-- white space at the top gives nothing: `<!--c-->`, a line end and `<a>x</a>`
document : Items
document = leaf comment_item (codes "<!--c-->") (leaf gap (codes "\n") (element (codes "<a>") (leaf text_item (codes "x") nil) (Some (codes "</a>")) nil))

abbrev gives : Content → Content
gives kids = comment_content (codes "c") (element_content (codes "a") [] kids nothing_given)

sets_the_text : content_edited document (2 ∷ 0 ∷ []) (codes "y") (gives (text_content (codes "x") nothing_given)) ≡ gives (text_content (codes "y") nothing_given)
unfolding document
sets_the_text = refl

takes_the_text_away : content_edited document (2 ∷ 0 ∷ []) [] (gives (text_content (codes "x") nothing_given)) ≡ gives nothing_given
unfolding document
takes_the_text_away = refl

sets_no_comment : content_edited document (0 ∷ []) (codes "y") (gives nothing_given) ≡ gives nothing_given
unfolding document
sets_no_comment = refl

-- a file that is read as a text: `x`
text : Items
text = leaf text_item (codes "x") nil

-- .. and behind a byte order mark
marked : Items
marked = leaf gap mark text

-- U+FEFF in front of `x` would be read as a byte order mark
adds_a_mark : AddsNoByteOrderMark (source_text text) (mark ++ codes "x") → ⊥
unfolding text
adds_a_mark adds = let begins : false ≡ true = adds refl in absurd cc

-- .. so the file doesn't read as its edited tree
reads_otherwise : IsOrdered plain_text (text_edited true text (0 ∷ []) (0xFEFF ∷ codes "x")) → ⊥
unfolding text lib.Utf8.encode
reads_otherwise (inl (rest, same, one)) = absurd cc
reads_otherwise (inr (none, one)) = absurd cc

-- behind a byte order mark it is one of the text's characters
adds_none_behind_a_mark : AddsNoByteOrderMark (source_text marked) (mark ++ codes "x")
unfolding marked text
adds_none_behind_a_mark begins = refl

reads_behind_a_mark : IsOrdered plain_text (text_edited true marked (1 ∷ []) (0xFEFF ∷ codes "x"))
unfolding marked text lib.Utf8.encode
reads_behind_a_mark = inl (leaf text_item (mark ++ codes "x") nil, refl, ((0xFEFF ∷ codes "x", refl, refl), λ none. cc))

-- U+FEFF further on is none
adds_none_further_on : AddsNoByteOrderMark (source_text text) (codes "x" ++ mark)
unfolding text
adds_none_further_on begins = absurd cc

-- with an empty value the byte order mark is left
leaves_the_mark : text_edited true marked (1 ∷ []) [] ≡ leaf gap mark nil
unfolding marked text
leaves_the_mark = refl

adds_none_with_nothing : (file : List ℕ) → AddsNoByteOrderMark file []
adds_none_with_nothing file begins = absurd cc
