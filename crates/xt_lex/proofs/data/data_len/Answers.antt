use Rattle.std.proofs.Common.{◌≡◌, true, take, sym, ◌∙◌, arith}
use Rattle.std.specs.List.{list_all}
use Rattle.xt_lex.specs.Fast.{is_data_byte}
use Rattle.xt_lex.proofs.DataLemmas.{front_data, sound_data}
use Rattle.xt_lex.proofs.data.data_len.Goals as goal

pub returns-then-are_data_bytes : goal.returns-then-are_data_bytes
returns-then-are_data_bytes c =
    let text = c.args.text.now in
    let bytes = c.as_bytes.ensures.value in
    let front : c.range-front.result.now ≡ take c.delimiter_at.result text = grind arith in
    let sound : list_all is_data_byte c.range-front.result.now ≡ true = rw c.as_bytes-2.ensures.value at (sym c.are_data_bytes.ensures ∙ c.if-are_data_bytes.true) in
    sound_data text c.range-front.result.now c.delimiter_at.result front c.range-front.utf8 (rw bytes at c.delimiter_at.ensures) sound

pub returns : goal.returns
returns c =
    let text = c.args.text.now in
    let bytes = c.as_bytes.ensures.value in
    let front : c.range-front.result.now ≡ take c.delimiter_at.result text = grind arith in
    let inner : c.range.result.now ≡ take c.close_at-end.result c.range-front.result.now = grind arith in
    front_data text c.range-front.result.now c.range.result.now c.delimiter_at.result c.close_at-end.result c.chars_len.result front inner
    (rw c.as_bytes.ensures.value at c.delimiter_at.ensures)
    (rw c.as_bytes-3.ensures.value at c.close_at-end.ensures)
    c.chars_len.ensures.value
