use Rattle.std.proofs.Common.{◌≡◌, ◌∙◌, List, ℕ, false, ap, string_bytes}
use Rattle.std.proofs.lemmas.Result.{IfOk-weaker, IfErr-weaker}
use Rattle.std.specs.Str.{chars}
use Rattle.xt_spec.specs.Tree.{source_text}
use Rattle.ed_spec.specs.TextEdit.{text_edited}
use Rattle.xt_tree.specs.Meaning.{items_in}
use Rattle.xt_tree.specs.Patches.{patched}
use Rattle.ed_session.proofs.EditLemmas.{new_text_there, edit_of_new, too_large_refused}
use Rattle.ed_session.proofs.edit.edited.Goals as goal

pub text_patch-requires-clause-present : goal.text_patch-requires-clause-present
text_patch-requires-clause-present c =
    let items = items_in c.args.bytes.now c.args.items.now in
    let there = new_text_there items c.args.at.now (chars c.args.new.now) c.in-Ok.text.path.items (chars (string_bytes c.in-Ok.text.value)) c.args.from c.args.to c.in-Ok.ensures.value in
    (there.0, rw c.as_slice.ensures.value there.1)

pub returns-clause-value : goal.returns-clause-value
returns-clause-value c =
    let bytes = c.args.bytes.now in
    let items = items_in bytes c.args.items.now in
    let path = c.in-Ok.text.path.items in
    let value = chars (string_bytes c.in-Ok.text.value) in
    let text_is : chars c.as_str.result.now ≡ value = ap chars c.as_str.ensures.value in
    IfOk-weaker c.with_patch.result _ _
    (λ out is root opens.
    let bytes_are : out.items ≡ source_text (text_edited false items path value) =
    is.0 ∙ c.in_ok-patch.ensures.value ∙ ap (λ (l : List ℕ). source_text (text_edited false items l (chars c.as_str.result.now))) c.as_slice.ensures.value ∙ ap (λ (l : List ℕ). source_text (text_edited false items path l)) text_is in
    edit_of_new root bytes items c.args.at.now (chars c.args.new.now) path value out.items c.args.from c.args.to opens c.in-Ok.ensures.value bytes_are is.1)
    c.with_patch.ensures.value

pub returns-clause-fits : goal.returns-clause-fits
returns-clause-fits c = IfOk-weaker c.with_patch.result _ _ (λ out is. is.1) c.with_patch.ensures.value

pub returns-clause-fault : goal.returns-clause-fault
returns-clause-fault c =
    let bytes = c.args.bytes.now in
    let items = items_in bytes c.args.items.now in
    let path = c.in-Ok.text.path.items in
    let value = chars (string_bytes c.in-Ok.text.value) in
    let text_is : chars c.as_str.result.now ≡ value = ap chars c.as_str.ensures.value in
    let bytes_are : patched bytes c.in_ok-patch.patch ≡ source_text (text_edited false items path value) =
    c.in_ok-patch.ensures.value ∙ ap (λ (l : List ℕ). source_text (text_edited false items l (chars c.as_str.result.now))) c.as_slice.ensures.value ∙ ap (λ (l : List ℕ). source_text (text_edited false items path l)) text_is in
    IfErr-weaker c.with_patch.result _ _
    (λ e large. too_large_refused items c.args.at.now (chars c.args.new.now) path value (patched bytes c.in_ok-patch.patch) c.args.from c.args.to e c.in-Ok.ensures.value bytes_are large)
    c.with_patch.ensures.fault
