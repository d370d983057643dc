-- After an accepted edit a document opens, with the text at the place set.
use Rattle.std.proofs.Common.{◌≡◌, ◌∙◌, ℕ, ◌≤◌, List, length, sym, ap, subst, true, encode_utf8_all, Some}
use Rattle.std.specs.List.{list_all}
use Rattle.xt_spec.specs.Limit.{most_file_bytes}
use Rattle.xt_spec.specs.Char.{is_char}
use Rattle.xt_spec.specs.Tree.{Items, source_text}
use Rattle.bk_spec.specs.Node.{Nodes}
use Rattle.bk_spec.specs.DocumentNodes.{Context}
use Rattle.bk_spec.specs.Opening.{top_context, GivesNodes, IsOpen}
use Rattle.ed_spec.specs.Place.{text_set}
use Rattle.ed_spec.specs.Edit.{Edit, text_edit, IsInText, range_replaced, edited, Accepts}
use Rattle.ed_text.proofs.Theorems.{edited_reads}
use Rattle.ed_laws.specs.Outcome.{Outcome, HasOutcome}
use Rattle.ed_laws.proofs.Values.{value_chars}
use Rattle.ed_laws.proofs.Nodes.{text_of_item, range_chars, edit_changes_the_node, text_set_inclusion}
use Rattle.ed_laws.proofs.Outcomes.{accepted_is, ordered_outcome}

pub accepted_changes_the_node : (file : List ℕ) (context : Context) (count : ℕ) (items others : Items) (nodes : Nodes) (place : List ℕ) (from to : ℕ) (new : List ℕ)
    → GivesNodes file context count items nodes → Accepts items (text_edit place from to new) others
    → (path characters : List ℕ) × IsInText items place from to path characters × GivesNodes file context count others (text_set nodes place (encode_utf8_all (range_replaced characters from to new)))
accepted_changes_the_node file context count items others nodes place from to new gives accepts =
    let a = accepted_is items place from to new others accepts in (
      a.path,
      a.characters,
      a.inside,
      subst (λ (is : Items). GivesNodes file context count is (text_set nodes place (encode_utf8_all (range_replaced a.characters from to new)))) (sym a.is)
          (edit_changes_the_node file context count items nodes place from to new a.path a.characters gives a.inside a.are),
    )

-- the edited items open
edited_opens : (file bytes : List ℕ) (items : Items) (nodes : Nodes) (place : List ℕ) (from to : ℕ) (new path characters : List ℕ) → IsOpen file bytes items nodes → IsInText items place from to path characters → list_all is_char new ≡ true
    → length (source_text (edited items path characters from to new)) ≤ most_file_bytes
    → IsOpen file (source_text (edited items path characters from to new)) (edited items path characters from to new) (text_set nodes place (encode_utf8_all (range_replaced characters from to new)))
edited_opens file bytes items nodes place from to new path characters opens inside are fits =
    let (text, is, has) = text_of_item inside.item characters inside.value in
    record {
      size = fits;
      reading = edited_reads bytes items path text (range_replaced characters from to new) (inside.at.there ∙ ap Some is) (range_chars characters from to new (value_chars text characters has) are) opens.reading;
      gives = edit_changes_the_node file (top_context file) 0 items nodes place from to new path characters opens.gives inside are;
      apart = text_set_inclusion nodes place (encode_utf8_all (range_replaced characters from to new)) ∙ opens.apart;
    }

pub accepted_opens : (file bytes : List ℕ) (items others : Items) (nodes : Nodes) (place : List ℕ) (from to : ℕ) (new : List ℕ) → IsOpen file bytes items nodes → Accepts items (text_edit place from to new) others
    → (path characters : List ℕ) × IsInText items place from to path characters × IsOpen file (source_text others) others (text_set nodes place (encode_utf8_all (range_replaced characters from to new)))
accepted_opens file bytes items others nodes place from to new opens accepts =
    let a = accepted_is items place from to new others accepts in (
      a.path,
      a.characters,
      a.inside,
      subst (λ (is : Items). IsOpen file (source_text is) is (text_set nodes place (encode_utf8_all (range_replaced a.characters from to new)))) (sym a.is)
          (edited_opens file bytes items nodes place from to new a.path a.characters opens a.inside a.are a.fits),
    )

pub an_edited_document_opens : (file bytes : List ℕ) (items others : Items) (nodes : Nodes) (edit : Edit) → IsOpen file bytes items nodes → Accepts items edit others → (next : Nodes) × IsOpen file (source_text others) others next
an_edited_document_opens file bytes items others nodes (text_edit place from to new) opens accepts =
    let (path, characters, inside, next) = accepted_opens file bytes items others nodes place from to new opens accepts in
    (text_set nodes place (encode_utf8_all (range_replaced characters from to new)), next)

pub has_an_outcome : (file bytes : List ℕ) (items : Items) (nodes : Nodes) (edit : Edit) → IsOpen file bytes items nodes → (outcome : Outcome) × HasOutcome items edit outcome
has_an_outcome file bytes items nodes edit opens = ordered_outcome items edit opens.reading.ordered
