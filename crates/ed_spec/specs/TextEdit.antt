-- The lossless tree of a file after a text of it was edited; of this project. A text item is written anew as the escaped
-- text of its new value, and goes where that is empty; every other item keeps its text and its place. A value is here the
-- list of its characters.
--
--   text_written   the items that stand for a value: one text item, or none
--   text_as_it_is  .. in a file that is read as text
--   text_edited    the tree after the edit
use Rattle.std.specs.Prelude.{ℕ, List, [], ◌∷◌, Bool, true, false, encode_utf8_all}
use Rattle.xt_spec.specs.Tree.{Items, nil, leaf, text_item}
use Rattle.xt_spec.specs.Escape.{escape_text}
use Rattle.xt_spec.specs.Paths.{replaced}

-- a value as content
abbrev pub text_written : List ℕ → Items
text_written [] = nil
text_written (c ∷ cs) = leaf text_item (encode_utf8_all (escape_text (c ∷ cs))) nil

-- a value in a file that is read as text
abbrev pub text_as_it_is : List ℕ → Items
text_as_it_is [] = nil
text_as_it_is (c ∷ cs) = leaf text_item (encode_utf8_all (c ∷ cs)) nil

-- a value in a file, which is read as text or isn't
abbrev pub text_items : Bool → List ℕ → Items
text_items true value = text_as_it_is value
text_items false value = text_written value

-- the tree in which the item at the path has this value
abbrev pub text_edited : Bool → Items → List ℕ → List ℕ → Items
text_edited plain items path value = replaced items path (text_items plain value)
