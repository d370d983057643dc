-- Which bytes of a file an accepted edit of a text changes; of this project.
--
--   StandsBetween    a text item, the bytes of the file in front of it, and those behind it
--   ChangesOneText   the bytes of one text item give way to what is written, and the others stay
use Rattle.std.specs.Prelude.{◌≡◌, ℕ, List, ◌++◌, Some, encode_utf8_all}
use Rattle.xt_spec.specs.Tree.{Items, leaf_item, text_item, source_text}
use Rattle.xt_spec.specs.Escape.{escape_text}
use Rattle.xt_spec.specs.Paths.{item_at, replaced}
use Rattle.ed_spec.specs.Edit.{IsInText, range_replaced}

-- The item at the path is a text item of these bytes, and they stand between those in front of it and those behind it:
-- whatever is put in its place comes between them too.
pub record StandsBetween (items : Items) (path front text back : List ℕ) : Type 0 where
  pub there : item_at items path ≡ Some (leaf_item text_item text)
  pub whole : source_text items ≡ front ++ text ++ back
  pub put : (others : Items) → source_text (replaced items path others) ≡ front ++ source_text others ++ back

-- The place leads to a text item. In place of its bytes the escaped text of the new value is written, which is nothing where
-- that value is empty; what stands in front of it and behind it is as before.
pub record ChangesOneText (items others : Items) (place : List ℕ) (from to : ℕ) (new : List ℕ) : Type 0 where
  pub path : List ℕ
  pub characters : List ℕ
  pub inside : IsInText items place from to path characters
  pub front : List ℕ
  pub text : List ℕ
  pub back : List ℕ
  pub stands : StandsBetween items path front text back
  pub written : source_text others ≡ front ++ encode_utf8_all (escape_text (range_replaced characters from to new)) ++ back
