use Rattle.std.proofs.Common.{◌≡◌, ◌∙◌, ℕ, ap, drop}
use Rattle.std.specs.List.{prefix_len}
use Rattle.xt_spec.specs.Char.{is_space}
use Rattle.xt_lex.proofs.Theorems.{boundary_behind, space_ascii, drop_while_is}
use Rattle.xt_value.proofs.cuts.behind_space.Goals as goal

pub range_from-requires : goal.range_from-requires
range_from-requires c some =
    let n : c.space_len.result ≡ prefix_len is_space c.args.text.now = cc in
    boundary_behind is_space c.args.text.now c.utf8.text space_ascii c.space_len.result n some

pub returns : goal.returns
returns c =
    let n : c.space_len.result ≡ prefix_len is_space c.args.text.now = cc in
    record { value = c.range_from.ensures.value ∙ ap (λ (k : ℕ). drop k c.args.text.now) n ∙ drop_while_is is_space c.args.text.now }
