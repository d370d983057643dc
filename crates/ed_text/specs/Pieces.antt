-- The tags and leaves of a tree in document order, and what an edit of a text changes of them. Of this project.
--
--   Piece           a start-tag or empty-element tag, what closes an element, or a leaf; each with its text
--   pieces_of       those of the items, in document order; no two lists of items have the same
--   ChangesOneText  the pieces stay, but for those in the place of one text
use Rattle.std.specs.Prelude.{◌≡◌, ℕ, Bool, List, [], ◌∷◌, ◌++◌, Option}
use Rattle.xt_spec.specs.Tree.{Items, nil, element, leaf, LeafKind, text_item}
use Rattle.ed_spec.specs.TextEdit.{text_items, text_edited}

pub data Piece : Type 0 where
  opens : List ℕ → Piece
  closes : Option (List ℕ) → Piece
  holds : LeafKind → List ℕ → Piece

abbrev pub pieces_of : Items → List Piece
pieces_of nil = []
pieces_of (element open_tag kids close rest) = opens open_tag ∷ pieces_of kids ++ closes close ∷ pieces_of rest
pieces_of (leaf kind text rest) = holds kind text ∷ pieces_of rest

-- the piece of this text is at a place among the others, and after the edit those of the value are there
pub record ChangesOneText (items : Items) (path text : List ℕ) : Type 0 where
  pub front : List Piece
  pub back : List Piece
  pub before : pieces_of items ≡ front ++ holds text_item text ∷ back
  pub after : (plain : Bool) (value : List ℕ) → pieces_of (text_edited plain items path value) ≡ front ++ pieces_of (text_items plain value) ++ back
