use Rattle.std.proofs.Common.{◌≡◌, true, sym, ◌∙◌}
use Rattle.std.specs.List.{list_all}
use Rattle.xt_lex.specs.Fast.{is_sound_byte}
use Rattle.xt_lex.proofs.Sound.{sound_first_chars}
use Rattle.xt_lex.proofs.data.chars_len.Goals as goal

pub returns-then-are_sound_bytes : goal.returns-then-are_sound_bytes
returns-then-are_sound_bytes c =
    let sound : list_all is_sound_byte c.args.text.now ≡ true = rw c.as_bytes.ensures.value at (sym c.are_sound_bytes.ensures ∙ c.if-are_sound_bytes.true) in
    record { value = sound_first_chars c.args.text.now c.utf8.text sound }
