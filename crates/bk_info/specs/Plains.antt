-- What information items of the code are, in the words of `bk_spec`.
--
--   plain_attrs_in   attributes, by names and values
--   plain_in         an item, and those behind it
--   plains_in        items in a row
--   text_items       a text by itself, where it has characters
--   so_far           items, a text behind them, and what stands behind that
use Rattle.std.specs.Prelude.{ℕ, List, [], ◌∷◌, map}
use Rattle.bk_spec.specs.Infoset as spec
use Rattle.bk_spec.specs.Infoset.{nothing_plain, element_plain, text_plain, comment_plain, pi_plain, text_before}
use Rattle.xt_spec.specs.Namespace.{Expanded}
use Rattle.bk_info.specs.declared.plain.PlainAttr.{PlainAttr}
use Rattle.bk_info.specs.declared.plain.Plain.{Plain}
use Rattle.bk_info.specs.declared.plain.Plain.TheVariants as code
use Rattle.bk_info.specs.declared.plain.Plain.TheOpen.{Plain-F, Elem, Text, Comment, Pi}
use Rattle.bk_info.specs.declared.plain.Plain.TheFolds.{fold-Plain}

abbrev pub plain_attr_in : PlainAttr → spec.PlainAttr
plain_attr_in a = record { space = a.name.space; local = a.name.local; value = a.value }

abbrev pub plain_attrs_in : List PlainAttr → List spec.PlainAttr
plain_attrs_in attrs = map plain_attr_in attrs

-- an element's own
abbrev pub plain_head_in : Expanded → List PlainAttr → List ℕ → List ℕ → spec.PlainHead
plain_head_in name attrs base lang = record {
  space = name.space;
  local = name.local;
  attributes = plain_attrs_in attrs;
  base = base;
  lang = lang;
}

-- each item with those behind it
abbrev pub in_front : List (spec.Plain → spec.Plain) → spec.Plain → spec.Plain
in_front [] others = others
in_front (item ∷ items) others = item (in_front items others)

abbrev pub plain_step : Plain-F (spec.Plain → spec.Plain) → spec.Plain → spec.Plain
plain_step (Elem name attrs base lang kids) others = element_plain (plain_head_in name attrs base lang) (in_front kids nothing_plain) others
plain_step (Text value) others = text_plain value others
plain_step (Comment value) others = comment_plain value others
plain_step (Pi target value) others = pi_plain target value others

-- an item, and those behind it
abbrev pub plain_in : Plain → spec.Plain → spec.Plain
plain_in = fold-Plain (spec.Plain → spec.Plain) plain_step

-- the items of the code, and those behind them
abbrev pub plains_before : List Plain → spec.Plain → spec.Plain
plains_before items others = in_front (map plain_in items) others

abbrev pub plains_in : List Plain → spec.Plain
plains_in items = plains_before items nothing_plain

-- a text by itself, where it has characters
abbrev pub text_items : List ℕ → List Plain
text_items [] = []
text_items (b ∷ value) = code.Text (b ∷ value) ∷ []

-- items, a text behind them that may go on, and what stands behind that
abbrev pub so_far : List Plain → List ℕ → spec.Plain → spec.Plain
so_far items text others = plains_before items (text_before text others)
