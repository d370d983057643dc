use Rattle.std.proofs.Common.{◌≡◌, ◌≢◌, ◌∙◌, List, ℕ, [], ◌++◌, sym, ap, subst, true, encode_utf8_all, string_bytes}
use Rattle.std.proofs.lemmas.Str.{encodes-chars}
use Rattle.std.specs.List.{list_all}
use Rattle.std.specs.Str.{chars, IsUtf8}
use Rattle.xt_spec.specs.Char.{is_char}
use Rattle.xt_spec.specs.Text.{IsTextItem, HasTextValue}
use Rattle.xt_spec.specs.Escape.{escape_text}
use Rattle.xt_escape.proofs.Parts.{has_no_cr}
use Rattle.xt_escape.proofs.Inner.{parts_joined}
use Rattle.xt_escape.proofs.Theorems.{escape_is_text_item, escape_has_value, escape_has_no_cr}
use Rattle.xt_escape.proofs.content.escape_text.Goals as goal

-- the clauses, of what was put
record Clauses (text out : List ℕ) : Type 0 where
  value : out ≡ encode_utf8_all (escape_text (chars text))
  law : text ≢ [] → list_all is_char (chars text) ≡ true → IsTextItem out
  reads_back : list_all is_char (chars text) ≡ true → HasTextValue out text
  keeps : has_no_cr out ≡ true

hold : (text out : List ℕ) → IsUtf8 text → out ≡ encode_utf8_all (escape_text (chars text)) → Clauses text out
hold text out utf8 is =
    let cs = chars text in
    let same = encodes-chars text utf8 in
    record {
      value = is;
      law = λ some are. subst IsTextItem (sym is) (escape_is_text_item cs are (λ none. some (sym same ∙ ap encode_utf8_all none)));
      reads_back = λ are. subst (λ (l : List ℕ). HasTextValue l text) (sym is) (subst (λ (l : List ℕ). HasTextValue (encode_utf8_all (escape_text cs)) l) same (escape_has_value cs are));
      keeps = ap has_no_cr is ∙ escape_has_no_cr cs;
    }

pub returns : goal.returns
returns c =
    let text = c.args.text.now in
    let first = c.in_ok-push_str.ensures.bytes ∙ ap (λ (l : List ℕ). l ++ c.split_front.result.0.now) c.in_ok-out.ensures.bytes in
    let put = hold text (string_bytes c.push_str-2.new.self) c.utf8.text (parts_joined text c.split_front.result.1.now c.split_end.result.0.now c.split_front.result.0.now c.split_end.result.1.now (string_bytes c.push_str.new.self) (string_bytes c.put_inner.new.out) (string_bytes c.push_str-2.new.self) c.split_front.ensures.value c.split_end.ensures.value first c.in_ok-put_inner.ensures.value c.in_ok-push_str-2.ensures.bytes) in
    record { value = put.value; law = put.law; reads_back = put.reads_back; keeps = put.keeps }
