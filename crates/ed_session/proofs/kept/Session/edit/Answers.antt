use Rattle.std.proofs.Common.{◌∙◌, ◌+◌, List, ℕ, length, ap, sym, refl, subst}
use Rattle.xt_tree.specs.Meaning.{items_in}
use Rattle.ed_session.specs.Kept.{Kept, Opens}
use Rattle.ed_edit.specs.View.{edit_of}
use Rattle.ed_session.proofs.EditLemmas.{is_edited, counts_wanting}
use Rattle.ed_session.proofs.KeptLemmas.{same_opens}
use Rattle.ed_session.proofs.kept.Session.edit.Goals as goal

pub edited_by-requires-clause-current : goal.edited_by-requires-clause-current
edited_by-requires-clause-current g c = (
  c.self.inside.root,
  same_opens c.self.inside.root c.self.inside.root c.as_slice.result.now c.self.inside.bytes.items c.items.result c.self.inside.items refl c.as_slice.ensures.value c.items.ensures.value c.self.invariant.opens,
)

pub read_again-requires-clause-opens : goal.read_again-requires-clause-opens
read_again-requires-clause-opens g c =
    let root = c.self.inside.root in
    let opens =
    same_opens root root c.as_slice.result.now c.self.inside.bytes.items c.items.result c.self.inside.items refl c.as_slice.ensures.value c.items.ensures.value c.self.invariant.opens in
    let edit = c.in_ok-bytes.ensures.value root opens in
    (root, edit.others, subst (λ (l : List ℕ). Opens root l edit.others) (sym c.as_slice-2.ensures.value) edit.opens)

pub replace-requires-clause-current : goal.replace-requires-clause-current
replace-requires-clause-current g c =
    let root = c.args.self.now.root in
    let bytes = c.in_ok-bytes.bytes.items in
    let opens =
    same_opens root c.self.inside.root c.as_slice.result.now c.self.inside.bytes.items c.items.result c.self.inside.items (ap (λ (k : Kept). k.root) (sym c.self.view_is)) c.as_slice.ensures.value c.items.ensures.value c.self.invariant.opens in
    let edit = c.in_ok-bytes.ensures.value root opens in
    let same = c.as_slice-2.ensures.value in
    let again = c.in_ok-tape.ensures.value root edit.others (subst (λ (l : List ℕ). Opens root l edit.others) (sym same) edit.opens) in
    same_opens root root bytes c.as_slice-2.result.now c.in_ok-tape.tape c.in_ok-tape.tape refl (sym same) refl again

pub returns-clause-value : goal.returns-clause-value
returns-clause-value g c =
    let root = c.args.self.now.root in
    let opens =
    same_opens root c.self.inside.root c.as_slice.result.now c.self.inside.bytes.items c.items.result c.self.inside.items (ap (λ (k : Kept). k.root) (sym c.self.view_is)) c.as_slice.ensures.value c.items.ensures.value c.self.invariant.opens in
    is_edited (edit_of c.args.edit.now) c.args.self.now c.replace.new.self c.as_slice.result.now c.in_ok-bytes.bytes.items (items_in c.as_slice.result.now c.items.result)
    (ap (λ (k : Kept). k.bytes) (sym c.self.view_is) ∙ sym c.as_slice.ensures.value) opens (c.in_ok-bytes.ensures.value root opens) c.replace.ensures.value

pub returns-in_err-tape-clause-exact : goal.returns-in_err-tape-clause-exact
returns-in_err-tape-clause-exact g c =
    let old = c.args.self.now in
    let edit = edit_of c.args.edit.now in
    let out = c.in_ok-bytes.bytes.items in
    let made : Kept = record { root = old.root; bytes = out; saved = old.saved } in
    let opens =
    same_opens old.root c.self.inside.root c.as_slice.result.now c.self.inside.bytes.items c.items.result c.self.inside.items (ap (λ (k : Kept). k.root) (sym c.self.view_is)) c.as_slice.ensures.value c.items.ensures.value c.self.invariant.opens in
    let is = is_edited edit old made c.as_slice.result.now out (items_in c.as_slice.result.now c.items.result) (ap (λ (k : Kept). k.bytes) (sym c.self.view_is) ∙ sym c.as_slice.ensures.value) opens (c.in_ok-bytes.ensures.value old.root opens) refl in
    counts_wanting edit old old made c.from_residual-in_err-tape.result c.args.steps.now c.read_again.new.steps c.from_residual-in_err-tape.ensures.1 is
    (c.read_again.ensures.count ∙ ap (λ (l : List ℕ). c.args.steps.now + length l) c.as_slice-2.ensures.value)
