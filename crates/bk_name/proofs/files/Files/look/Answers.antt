use Rattle.std.proofs.Common.{◌≡◌, Some, None, sym, ap, ◌∙◌}
use Rattle.std.specs.FinMap.{get}
use Rattle.bk_name.specs.declared.files.Entry.TheVariants as entry
use Rattle.bk_name.proofs.FilesLemmas.{get-view_of}
use Rattle.bk_name.proofs.files.Files.look.Goals as goal

pub returns-in-Some-Bytes : goal.returns-in-Some-Bytes
returns-in-Some-Bytes c =
    let has : get c.args.self.now c.args.name.now ≡ Some (entry.Bytes c.in-Some-Bytes.bytes) =
    ap (λ m. get m c.args.name.now) (sym c.self.view_is) ∙ get-view_of c.self.inside.map c.args.name.now ∙ sym c.in-Some-Bytes.ensures.value ∙ ap Some c.in-Some-Bytes.field-0-is in
    record { value = ap (λ bytes. Some (entry.Bytes bytes)) c.as_slice.ensures.value ∙ sym has }

pub returns-in-Some-Absent : goal.returns-in-Some-Absent
returns-in-Some-Absent c =
    let has : get c.args.self.now c.args.name.now ≡ Some entry.Absent =
    ap (λ m. get m c.args.name.now) (sym c.self.view_is) ∙ get-view_of c.self.inside.map c.args.name.now ∙ sym c.in-Some-Absent.ensures.value ∙ ap Some c.in-Some-Absent.field-0-is in
    record { value = sym has }

pub returns-in-None : goal.returns-in-None
returns-in-None c =
    let has : get c.args.self.now c.args.name.now ≡ None =
    ap (λ m. get m c.args.name.now) (sym c.self.view_is) ∙ get-view_of c.self.inside.map c.args.name.now ∙ sym c.in-None.ensures.value in
    record { value = sym has }
