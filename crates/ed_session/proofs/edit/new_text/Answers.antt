use Rattle.std.proofs.Common.{◌≡◌, ◌∙◌, List, ℕ, sym, subst, encode_utf8_all, string_bytes}
use Rattle.std.proofs.lemmas.Str.{encodes-chars}
use Rattle.std.specs.Str.{chars}
use Rattle.xt_spec.specs.Text.{IsTextItem, HasTextValue}
use Rattle.xt_tree.specs.Meaning.{at_span, items_in}
use Rattle.ed_session.proofs.NarrowLemmas.{open_narrow}
use Rattle.ed_session.proofs.EditLemmas.{opened_text, no_text_refused, no_value_refused, new_text_is}
use Rattle.ed_session.proofs.edit.new_text.Goals as goal

pub find_text-requires : goal.find_text-requires
find_text-requires c = record { few = open_narrow c.requires.current.0 c.args.bytes.now (items_in c.args.bytes.now c.args.items.now) c.requires.current.1 }

pub value_of-requires : goal.value_of-requires
value_of-requires c =
    let bytes = c.args.bytes.now in
    let items = items_in bytes c.args.items.now in
    let text = at_span bytes c.in-Ok.found.span in
    record { item = subst (λ (l : List ℕ). IsTextItem l) (sym c.bytes_at.ensures.value) (opened_text c.requires.current.0 bytes items c.args.at.now c.in-Ok.found.path.items text c.requires.current.1 c.in-Ok.ensures.value) }

pub returns-in-Err-clause-fault : goal.returns-in-Err-clause-fault
returns-in-Err-clause-fault c =
    no_text_refused (items_in c.args.bytes.now c.args.items.now) c.args.at.now (chars c.args.new.now) c.args.from c.args.to c.in-Err.e c.in-Err.ensures.fault

pub returns-in-Ok-new_value-clause-value : goal.returns-in-Ok-new_value-clause-value
returns-in-Ok-new_value-clause-value c =
    let bytes = c.args.bytes.now in
    let items = items_in bytes c.args.items.now in
    let text = at_span bytes c.in-Ok.found.span in
    let at = c.in-Ok.ensures.value in
    let has : HasTextValue text (string_bytes c.in_ok-old.old) = subst (λ (l : List ℕ). HasTextValue l (string_bytes c.in_ok-old.old)) c.bytes_at.ensures.value c.in_ok-old.ensures.value in
    let spell : encode_utf8_all (chars c.as_str.result.now) ≡ string_bytes c.in_ok-old.old = encodes-chars c.as_str.result.now c.as_str.utf8 ∙ c.as_str.ensures.value in
    new_text_is items c.args.at.now (chars c.args.new.now) c.in-Ok.found.path.items text (chars c.as_str.result.now) (chars (string_bytes c.in-Ok-new_value.value)) c.args.from c.args.to at
    (subst (λ (l : List ℕ). HasTextValue text l) (sym spell) has) c.in-Ok-new_value.ensures.value

pub returns-in-Err-new_value-clause-fault : goal.returns-in-Err-new_value-clause-fault
returns-in-Err-new_value-clause-fault c =
    let bytes = c.args.bytes.now in
    let items = items_in bytes c.args.items.now in
    let text = at_span bytes c.in-Ok.found.span in
    let at = c.in-Ok.ensures.value in
    let has : HasTextValue text (string_bytes c.in_ok-old.old) = subst (λ (l : List ℕ). HasTextValue l (string_bytes c.in_ok-old.old)) c.bytes_at.ensures.value c.in_ok-old.ensures.value in
    let spell : encode_utf8_all (chars c.as_str.result.now) ≡ string_bytes c.in_ok-old.old = encodes-chars c.as_str.result.now c.as_str.utf8 ∙ c.as_str.ensures.value in
    no_value_refused items c.args.at.now (chars c.args.new.now) c.in-Ok.found.path.items text (chars c.as_str.result.now) c.args.from c.args.to c.in-Err-new_value.e at
    (subst (λ (l : List ℕ). HasTextValue text l) (sym spell) has) c.in-Err-new_value.ensures.fault
