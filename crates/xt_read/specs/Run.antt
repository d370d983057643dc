-- Reading from left to right: at each place the longest token, and what stands open behind it. That a document reads as
-- items exactly where such a run ends with them is a law (`longest_tokens`).
--
--   Body         the top of a document, or content
--   Piece        what a token is that is no tag
--   Tok          a token, with the parts that a reader asks for
--   IsToken      the longest token at the front of the text
--   State        what was read so far
--   is_too_deep  a tag would begin an element at level 129
--   step         the state behind a token; none where the token may not stand
--   Passes       a front of a text is read from one state to another; Reads: the whole of it is
--   IsWhole      nothing is left open
--   IsRead       a text is read from the beginning, to a whole document or content of these items
use Rattle.std.specs.Prelude.{◌≡◌, ◌⊎◌, ℕ, nat_lt, Bool, true, false, not, ◌&&◌, ◌||◌, List, [], ◌∷◌, ◌++◌, length, take, drop, codes, bytes_eq, Option, None, Some, if◌then◌else◌}
use Rattle.std.specs.List.{list_all}
use Rattle.xt_spec.specs.Limit.{most_levels}
use Rattle.xt_spec.specs.Char.{is_space}
use Rattle.xt_spec.specs.Reference.{StandsFor, IsPredefined}
use Rattle.xt_spec.specs.Name.{IsQName}
use Rattle.xt_spec.specs.Tag.{Tag, IsTag, tag_text, IsEndTag}
use Rattle.xt_spec.specs.Token.{TokenKind, start_tag, empty_tag, end_tag, char_data, char_ref, entity_ref, cdata_section, comment, pi, declaration, doctype, IsLongestFront}
use Rattle.xt_spec.specs.Tree.{Items, nil, Item, element_item, leaf_item, items_of, text_item, reference_item, comment_item, pi_item, gap}
use Rattle.xt_spec.specs.Reading.{are_distinct, attribute_names, Stage, before_doctype, before_root, behind_root, is_before_root, IsContent, Leads}

-- character data; another part of a text item: a reference that stands for a character, or a CDATA section; any other
-- reference; a comment; a processing instruction; a declaration, which stands only in front of a body;
-- a DOCTYPE declaration
pub data Piece : Type 0 where
  data_piece : Piece
  part_piece : Piece
  reference_piece : Piece
  comment_piece : Piece
  pi_piece : Piece
  declaration_piece : Piece
  doctype_piece : Piece

-- a start-tag with its text, its name and the names of its attributes; an empty-element tag with its text and these names;
-- an end-tag with its text and name; or a piece with its text
pub data Tok : Type 0 where
  start_tok : List ℕ → List ℕ → List (List ℕ) → Tok
  empty_tok : List ℕ → List (List ℕ) → Tok
  end_tok : List ℕ → List ℕ → Tok
  piece_tok : Piece → List ℕ → Tok

abbrev pub tok_text : Tok → List ℕ
tok_text (start_tok text name names) = text
tok_text (empty_tok text names) = text
tok_text (end_tok text name) = text
tok_text (piece_tok piece text) = text

-- the text is a tag that ends so, of this name and these names of attributes
pub record AreTagNames (text end : List ℕ) (name : List ℕ) (names : List (List ℕ)) : Type 0 where
  pub tag : Tag
  pub parts : IsTag tag
  pub spelled : text ≡ tag_text tag end
  pub is_name : name ≡ tag.name
  pub are_names : names ≡ attribute_names tag

-- a token of this kind with this text is such a piece
abbrev pub IsPiece : TokenKind → Piece → List ℕ → Type 0
IsPiece kind data_piece text = kind ≡ char_data
IsPiece kind part_piece text = (kind ≡ cdata_section) ⊎ (((kind ≡ char_ref) ⊎ (kind ≡ entity_ref)) × (c : ℕ) × StandsFor text c)
IsPiece kind reference_piece text = (kind ≡ entity_ref) × ((c : ℕ) → ¬ IsPredefined text c)
IsPiece kind comment_piece text = kind ≡ comment
IsPiece kind pi_piece text = kind ≡ pi
IsPiece kind declaration_piece text = kind ≡ declaration
IsPiece kind doctype_piece text = kind ≡ doctype

-- the token is of this kind, and its parts are those of its text
abbrev pub IsOfKind : TokenKind → Tok → Type 0
IsOfKind kind (start_tok text name names) = (kind ≡ start_tag) × AreTagNames text (codes ">") name names
IsOfKind kind (empty_tok text names) = (kind ≡ empty_tag) × (name : List ℕ) × AreTagNames text (codes "/>") name names
IsOfKind kind (end_tok text name) = (kind ≡ end_tag) × IsQName name × IsEndTag name text
IsOfKind kind (piece_tok piece text) = IsPiece kind piece text

-- the longest token at the front of the text is this one
pub record IsToken (tok : Tok) (text : List ℕ) : Type 0 where
  pub kind : TokenKind
  pub longest : IsLongestFront text kind (length (tok_text tok))
  pub front : take (length (tok_text tok)) text ≡ tok_text tok
  pub of_kind : IsOfKind kind tok

-- an element that is open: its tag, its name, and the items before it
pub record OpenElement : Type 0 where
  pub open_tag : List ℕ
  pub name : List ℕ
  pub before : List Item

-- the elements that are open, the innermost first; the items of the innermost, but for a text item that may go on; that
-- text item; and how far the top of the document has come, or that content stands at the top
pub record State : Type 0 where
  pub opened : List OpenElement
  pub items : List Item
  pub text : Option (List ℕ)
  pub stage : Option Stage

-- what is read behind a byte order mark and a declaration: the top of a document, or content
pub data Body : Type 0 where
  document_body : Body
  content_body : Body

abbrev pub first_stage : Body → Option Stage
first_stage document_body = Some before_doctype
first_stage content_body = None

-- before the first token
abbrev pub begin : Body → State
begin body = record { opened = []; items = []; text = None; stage = first_stage body }

-- the items stand in the order that the body asks
abbrev pub IsBody : Body → Items → Type 0
IsBody document_body items = Leads before_doctype items behind_root
IsBody content_body items = IsContent 0 items

-- the items, and behind them the text item that may go on
abbrev pub with_text : List Item → Option (List ℕ) → List Item
with_text items None = items
with_text items (Some text) = items ++ leaf_item text_item text ∷ []

-- the text item, with more behind it
abbrev pub longer : Option (List ℕ) → List ℕ → List ℕ
longer None more = more
longer (Some text) more = text ++ more

abbrev pub is_top : List OpenElement → Bool
is_top [] = true
is_top (element ∷ others) = false

-- content stands at the top
abbrev pub is_content : Option Stage → Bool
is_content None = true
is_content (Some stage) = false

-- text may stand here: within an element, or in content
abbrev pub is_inside : State → Bool
is_inside s = not (is_top s.opened) || is_content s.stage

-- an element may begin at the top
abbrev pub begins_root : Option Stage → Bool
begins_root None = true
begins_root (Some stage) = is_before_root stage

-- a DOCTYPE may stand at the top
abbrev pub begins_document : Option Stage → Bool
begins_document None = false
begins_document (Some before_doctype) = true
begins_document (Some before_root) = false
begins_document (Some behind_root) = false

-- how far the top has come behind an element
abbrev pub behind_element : Option Stage → Option Stage
behind_element None = None
behind_element (Some stage) = Some behind_root

-- no more elements may be open: another would stand at level 129
abbrev pub is_full : State → Bool
is_full s = not (nat_lt (length s.opened) most_levels)

-- an element may begin here: at level 128 at most, and at the top of a document only where none came
abbrev pub has_room : State → Bool
has_room s = not (is_full s) && (not (is_top s.opened) || begins_root s.stage)

-- a tag that would begin an element at level 129
abbrev pub is_too_deep : State → Tok → Bool
is_too_deep s (start_tok text name names) = is_full s
is_too_deep s (empty_tok text names) = is_full s
is_too_deep s (end_tok text name) = false
is_too_deep s (piece_tok piece text) = false

-- the state with an item more
abbrev pub with_item : State → Item → State
with_item s item = record s { items = with_text s.items s.text ++ item ∷ []; text = None }

-- the state whose text item goes on
abbrev pub with_more : State → List ℕ → State
with_more s text = record s { text = Some (longer s.text text) }

-- .. with the DOCTYPE
abbrev pub with_doctype : State → List ℕ → State
with_doctype s text = record { opened = s.opened; items = with_text s.items s.text ++ leaf_item gap text ∷ []; text = None; stage = Some before_root }

-- the innermost element closed by an end-tag of this text and name, where the name is its own
abbrev pub closed : List OpenElement → State → List ℕ → List ℕ → Option State
closed [] s text name = None
closed (element ∷ others) s text name =
    if bytes_eq element.name name then Some (record { opened = others; items = element.before ++ element_item element.open_tag (items_of (with_text s.items s.text)) (Some text) ∷ []; text = None; stage = s.stage })
    else None

-- the state behind a piece, or none where it may not stand
abbrev pub piece_step : State → Piece → List ℕ → Option State
piece_step s data_piece text =
    if is_inside s then Some (with_more s text)
    else (if list_all is_space text then Some (with_item s (leaf_item gap text)) else None)
piece_step s part_piece text = if is_inside s then Some (with_more s text) else None
piece_step s reference_piece text = if is_inside s then Some (with_item s (leaf_item reference_item text)) else None
piece_step s comment_piece text = Some (with_item s (leaf_item comment_item text))
piece_step s pi_piece text = Some (with_item s (leaf_item pi_item text))
piece_step s declaration_piece text = None
piece_step s doctype_piece text = if is_top s.opened && begins_document s.stage then Some (with_doctype s text) else None

-- the state behind a token, or none where the token may not stand
abbrev pub step : State → Tok → Option State
step s (start_tok text name names) =
    if has_room s && are_distinct names then Some (record { opened = record { open_tag = text; name = name; before = with_text s.items s.text } ∷ s.opened; items = []; text = None; stage = behind_element s.stage }) else None
step s (empty_tok text names) =
    if has_room s && are_distinct names then Some (record { opened = s.opened; items = with_text s.items s.text ++ element_item text nil None ∷ []; text = None; stage = behind_element s.stage }) else None
step s (end_tok text name) = closed s.opened s text name
step s (piece_tok piece text) = piece_step s piece text

-- from one state a front of the text is read to another, before the rest: each token is the longest at its place, and may
-- stand there
pub data Passes : State → List ℕ → State → List ℕ → Type 0 where
  here : (s : State) (text : List ℕ) → Passes s text s text
  past : (s t u : State) (text rest : List ℕ) (tok : Tok) → IsToken tok text → step s tok ≡ Some t
      → Passes t (drop (length (tok_text tok)) text) u rest → Passes s text u rest

-- .. to its end
abbrev pub Reads : State → List ℕ → State → Type 0
Reads s text u = Passes s text u []

-- the document element came, where there has to be one
abbrev pub has_ended : Option Stage → Bool
has_ended None = true
has_ended (Some stage) = not (is_before_root stage)

-- no element is open, and a document has its element
pub record IsWhole (s : State) : Type 0 where
  pub closed : s.opened ≡ []
  pub ended : has_ended s.stage ≡ true

-- the text is read from the beginning to its end, where nothing is left open, and these are the items
pub record IsRead (body : Body) (text : List ℕ) (items : Items) : Type 0 where
  pub last : State
  pub reads : Reads (begin body) text last
  pub whole : IsWhole last
  pub are : items_of (with_text last.items last.text) ≡ items
