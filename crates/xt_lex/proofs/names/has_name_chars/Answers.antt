use Rattle.std.proofs.Common.{◌≡◌, ◌++◌, sym, ◌∙◌, rules, encode_utf8, refl}
use Rattle.std.proofs.lemmas.Iterator.{YieldsList-from_chars}
use Rattle.std.proofs.lemmas.Iterator.Search.{all_from_yields_List}
use Rattle.std.proofs.lemmas.Str.{IsUtf8-past_char, chars_past_char}
use Rattle.xt_spec.specs.Char.{is_name_char}
use Rattle.xt_lex.proofs.names.has_name_chars.Goals as goal

pub returns-then-is_name_start : goal.returns-then-is_name_start
returns-then-is_name_start c =
    let split : c.args.text.now ≡ encode_utf8 c.in-Some.first ++ c.next.new.self.rest.now = sym c.chars-chars.ensures.rest ∙ c.in-Some.ensures.steps.0 in
    let all = all_from_yields_List is_name_char _ _ c.all.result c.all.ensures.ran (YieldsList-from_chars _ (IsUtf8-past_char _ _ _ c.utf8.text split) cc) (λ x b q k. search rules) in
    rw (chars_past_char _ _ _ c.utf8.text split) (rw (← c.is_name_start.ensures, c.if-is_name_start.true) all)

pub returns-else-is_name_start : goal.returns-else-is_name_start
returns-else-is_name_start c =
    let split : c.args.text.now ≡ encode_utf8 c.in-Some.first ++ c.next.new.self.rest.now = sym c.chars-chars.ensures.rest ∙ c.in-Some.ensures.steps.0 in
    rw (chars_past_char _ _ _ c.utf8.text split) (rw (← c.is_name_start.ensures, c.if-is_name_start.false) refl)
