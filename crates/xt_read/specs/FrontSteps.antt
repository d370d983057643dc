-- A declaration at a place of a text.
--
--   IsDeclarationAt  one stands there, with this span; NoDeclarationAt: none does
--   IsDeclaredAt     .. of a form, that names no other encoding than UTF-8
--   mark_src         the gap of a mark, as the code has it; declared_src: of a declaration; front_src: both;
--                    text_src: a text
--   front_items      the gaps of a mark and a declaration; front_marks: their marks
--   one_text_items   the items of a text behind a mark; one_text_marks: their marks
use Rattle.std.specs.Prelude.{◌≡◌, ℕ, ◌<◌, ◌≤◌, Bool, List, [], ◌∷◌, ◌++◌, length, drop, ◌==◌, if◌then◌else◌, Option, None, Some}
use Rattle.std.specs.Str.{IsCharBoundary}
use Rattle.xt_spec.specs.Declaration.{Declaration, IsDeclaration}
use Rattle.xt_spec.specs.Reading.{DeclaresUtf8}
use Rattle.xt_lex.specs.declared.token.Span.{Span}
use Rattle.xt_spec.specs.Tree.{Items, nil, leaf, text_item, gap}
use Rattle.xt_tree.specs.declared.source.Src.{Src}
use Rattle.xt_tree.specs.declared.source.Src.TheVariants as src
use Rattle.xt_tree.specs.Meaning.{at_span}
use Rattle.xt_tree.specs.Places.{Mark, span_mark}

pub record IsDeclarationAt (text : List ℕ) (at : ℕ) (span : Span) : Type 0 where
  pub from_is : span.from ≡ at
  pub some : at < span.to
  pub within : span.to ≤ length text
  pub cut : IsCharBoundary text span.to
  pub is : IsDeclaration (at_span text span)
  pub stands : drop at text ≡ at_span text span ++ drop span.to text

abbrev pub NoDeclarationAt : List ℕ → ℕ → Type 0
NoDeclarationAt text at = (spelled rest : List ℕ) → drop at text ≡ spelled ++ rest → ¬ IsDeclaration spelled

pub record IsDeclaredAt (form : Declaration → Bool) (text : List ℕ) (at : ℕ) (span : Span) : Type 0 where
  pub place : IsDeclarationAt text at span
  pub declares : DeclaresUtf8 form (at_span text span)

-- the gap of a byte order mark of so many bytes, or none
abbrev pub mark_src : ℕ → List Src
mark_src len = if len == 0 then [] else src.Gap (record { from = 0; to = len }) ∷ []

-- .. of a declaration with this span
abbrev pub declared_src : Option Span → List Src
declared_src None = []
declared_src (Some span) = src.Gap span ∷ []

-- .. of both
abbrev pub front_src : ℕ → Option Span → List Src
front_src len declared = mark_src len ++ declared_src declared

-- the text from one place to another, or none
abbrev pub text_src : ℕ → ℕ → List Src
text_src from to = if from == to then [] else src.Text (record { from = from; to = to }) ∷ []

-- what these are in the text: the gap of a byte order mark
abbrev pub mark_gap : List ℕ → ℕ → Items → Items
mark_gap text len rest = if len == 0 then rest else leaf gap (at_span text (record { from = 0; to = len })) rest

-- .. of a declaration
abbrev pub declared_gap : List ℕ → Option Span → Items
declared_gap text None = nil
declared_gap text (Some span) = leaf gap (at_span text span) nil

abbrev pub front_items : List ℕ → ℕ → Option Span → Items
front_items text len declared = mark_gap text len (declared_gap text declared)

abbrev pub declared_marks : Option Span → List Mark
declared_marks None = []
declared_marks (Some span) = span_mark span ∷ []

abbrev pub front_marks : ℕ → Option Span → List Mark
front_marks len declared = if len == 0 then declared_marks declared else span_mark (record { from = 0; to = len }) ∷ declared_marks declared

-- where the body begins
abbrev pub front_len : ℕ → Option Span → ℕ
front_len len None = len
front_len len (Some span) = span.to

-- the text from there to the end, where there is any
abbrev pub text_part : List ℕ → ℕ → ℕ → Items
text_part text len to = if len == to then nil else leaf text_item (at_span text (record { from = len; to = to })) nil

-- the items of a text behind a byte order mark of so many bytes
abbrev pub one_text_items : List ℕ → ℕ → ℕ → Items
one_text_items text len to = mark_gap text len (text_part text len to)

abbrev pub text_part_marks : ℕ → ℕ → List Mark
text_part_marks len to = if len == to then [] else span_mark (record { from = len; to = to }) ∷ []

abbrev pub one_text_marks : ℕ → ℕ → List Mark
one_text_marks len to = if len == 0 then text_part_marks len to else span_mark (record { from = 0; to = len }) ∷ text_part_marks len to
