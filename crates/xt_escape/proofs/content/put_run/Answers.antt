use Rattle.std.proofs.Common.{◌≡◌, ◌∙◌, List, ℕ, ◌++◌, sym, ap, encode_utf8, string_bytes}
use Rattle.xt_escape.proofs.Inner.{run_and_char}
use Rattle.xt_escape.proofs.content.put_run.Goals as goal

pub returns-in_ok-put_char-in-Some-clause-value : goal.returns-in_ok-put_char-in-Some-clause-value
returns-in_ok-put_char-in-Some-clause-value c =
    let rest = c.split_kept.result.1.now in
    let char = c.in-Some.c in
    let begins : rest ≡ encode_utf8 char ++ c.as_str.result.now = sym c.chars-chars.ensures.rest ∙ c.in-Some.ensures.steps.0 ∙ ap (λ (l : List ℕ). encode_utf8 char ++ l) (sym c.as_str.ensures) in
    run_and_char (string_bytes c.args.out.now) (string_bytes c.push_str.new.self) (string_bytes c.put_char.new.out) c.args.text.now c.split_kept.result.0.now rest c.as_str.result.now char c.split_kept.ensures.keeps c.split_kept.ensures.value begins c.in_ok-push_str.ensures.bytes
    c.in_ok-put_char-in-Some.ensures.value
