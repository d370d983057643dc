use Rattle.std.proofs.Common.{◌≡◌, ◌∙◌, List, ℕ, ◌++◌, sym, ap, encode_utf8}
use Rattle.std.proofs.lemmas.Str.{chars_past_char}
use Rattle.ed_session.proofs.RangeLemmas.{first_char}
use Rattle.ed_session.proofs.range.behind_char.Goals as goal

pub returns-in-Some : goal.returns-in-Some
returns-in-Some c =
    let char = c.in-Some.field-0 in
    let begins : c.args.text.now ≡ encode_utf8 char ++ c.as_str.result.now = sym c.chars-chars.ensures.rest ∙ c.in-Some.ensures.steps.0 ∙ ap (λ (l : List ℕ). encode_utf8 char ++ l) (sym c.as_str.ensures) in
    let parts = first_char c.args.text.now c.as_str.result.now char c.utf8.text begins in
    record { value = (char, chars_past_char c.args.text.now c.as_str.result.now char c.utf8.text begins, begins, parts.0, parts.1) }
