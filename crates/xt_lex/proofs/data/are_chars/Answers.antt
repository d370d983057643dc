use Rattle.xt_lex.proofs.Sound.{sound_bytes_value}
use Rattle.xt_lex.proofs.data.are_chars.Goals as goal

pub returns-then-are_sound_bytes : goal.returns-then-are_sound_bytes
returns-then-are_sound_bytes c = sound_bytes_value c.args.text.now c.as_bytes.result.now c.are_sound_bytes.result c.utf8.text c.as_bytes.ensures.value c.are_sound_bytes.ensures c.if-are_sound_bytes.true
