-- Each text, comment and processing instruction of a reading gives content; what stands at the top but for a DOCTYPE gives none.
use Rattle.std.proofs.Common.{ℕ, List, refl}
use Rattle.xt_spec.specs.Markup.{IsComment, IsPi}
use Rattle.xt_spec.specs.Tree.{nil, leaf, text_item, comment_item, pi_item}
use Rattle.xt_spec.specs.LineEnds.{lines_read}
use Rattle.xt_spec.specs.Text.{parts_value, IsTextItem}
use Rattle.xt_spec.specs.Content.{nothing_given, text_content, comment_content, pi_content}
use Rattle.xt_read.specs.ContentTest.{GiveContent}

pub text_content_of : (text : List ℕ) → IsTextItem text → GiveContent (leaf text_item text nil)
text_content_of text (parts, are, some, joined) = (text_content (parts_value parts) nothing_given, (parts_value parts, nothing_given, (parts, are, joined, refl), refl, refl))

pub comment_content_of : (text : List ℕ) → IsComment text → GiveContent (leaf comment_item text nil)
comment_content_of text (inner, chars, lacks, spelled) = (comment_content (lines_read inner) nothing_given, (inner, nothing_given, spelled, refl, refl))

pub pi_content_of : (text : List ℕ) → IsPi text → GiveContent (leaf pi_item text nil)
pi_content_of text (target, inner, chars, lacks, is) = (pi_content target (lines_read inner) nothing_given, (target, inner, nothing_given, is, refl, refl))
