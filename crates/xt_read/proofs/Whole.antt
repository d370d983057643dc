-- What a reader has at the end of the text.
use Rattle.std.proofs.Common.{◌≡◌, ◌∙◌, ℕ, ◌≤◌, List, [], ◌∷◌, length, map, drop, refl, inr, subst, sym, ap, arith, true, false, option_map}
use Rattle.std.proofs.lemmas.List.{length-map}
use Rattle.std.proofs.Math.ListN.{drop_of_length-le}
use Rattle.xt_spec.specs.Tree.{items_of}
use Rattle.xt_tree.specs.declared.source.Src.{Src}
use Rattle.xt_tree.specs.Meaning.{at_span, item_of, items_in}
use Rattle.xt_tree.specs.Rows.{OpenTag}
use Rattle.xt_tree.specs.Built.{built}
use Rattle.xt_read.specs.declared.reader.Reader.{Reader}
use Rattle.xt_spec.specs.FirstFault.{not_well_formed}
use Rattle.xt_read.specs.Progress.{element_of, state_of}
use Rattle.xt_read.specs.Run.{Body, OpenElement, State, begin, with_text, is_top, IsWhole, IsRead, Passes}
use Rattle.xt_read.specs.Faults.{IsHalt, IsBodyFault}

none_of_length : (frames : List OpenTag) → length frames ≡ 0 → frames ≡ []
none_of_length [] e = refl
none_of_length (f ∷ fs) e = absurd (cc)

none_on_top : (opened : List OpenElement) → is_top opened ≡ true → opened ≡ []
none_on_top [] is = refl
none_on_top (e ∷ es) is = absurd (let h : false ≡ true = is in cc)

-- at the top no element is open
pub none_opened : (bytes : List ℕ) (reader : Reader) → is_top (state_of bytes reader).opened ≡ true → (built reader.tape).opened ≡ []
none_opened bytes reader is =
    none_of_length (built reader.tape).opened (sym (length-map (built reader.tape).opened (element_of bytes)) ∙ ap length (none_on_top (state_of bytes reader).opened is))

-- what was read to the end of the text
pub is_read : (body : Body) (text : List ℕ) (from : ℕ) (reader : Reader) (settled items : List Src) → Passes (begin body) (drop from text) (state_of text reader) [] → IsWhole (state_of text reader) → map (item_of text) settled ≡ with_text (map (item_of text) (built reader.tape).items) (option_map (at_span text) reader.text) → items ≡ settled
    → IsRead body (drop from text) (items_in text items)
is_read body text from reader settled items passes whole all same = record {
  last = state_of text reader;
  reads = passes;
  whole = whole;
  are = sym (ap (λ (l : List Src). items_in text l) same ∙ ap items_of all);
}

-- where something is left open, the text ends too early
pub ends_early : (body : Body) (text : List ℕ) (from : ℕ) (s : State) → from ≤ length text → Passes (begin body) (drop from text) s [] → (IsWhole s → ⊥) → IsBodyFault body text from (not_well_formed (length text))
ends_early body text from s within passes never =
    let size : length text ≤ length text = omega arith in
    let none : drop (length text) text ≡ [] = drop_of_length-le text size in
    record {
      at = length text;
      order = within;
      within = size;
      state = s;
      passes = subst (λ (r : List ℕ). Passes (begin body) (drop from text) s r) (sym none) passes;
      halts = (refl, subst (λ (r : List ℕ). IsHalt s r) (sym none) (inr (inr (refl, never))));
    }
