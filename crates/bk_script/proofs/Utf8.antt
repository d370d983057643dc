-- What follows an escape in UTF-8 is UTF-8.
use Rattle.std.proofs.Common.{◌≡◌, ℕ, List, [], ◌∷◌, Bool, true, ltb, refl, sym, subst, arith, inl, inr}
use Rattle.std.proofs.lemmas.Bool.{lt-ltb}
use Rattle.std.proofs.lemmas.Str.{IsUtf8-drop}
use Rattle.std.specs.List.{list_all, prefix_len}
use Rattle.std.specs.Str.{IsUtf8}
use Rattle.xt_spec.specs.Reference.{is_hexadecimal_digit}
use Rattle.xt_scan.specs.Step.{drop_while}
use Rattle.xt_scan.proofs.Theorems.{ascii, drop_while_is, boundary_at_stop, utf8_behind, utf8_rest}
use Rattle.xt_lex.proofs.Theorems.{hexadecimal_ascii, list_all_weaker, list_all_joined}
use Rattle.bk_script.specs.Word.{is_plain, IsEscape}
use Rattle.bk_script.specs.Reading.{IsPushed}
use Rattle.bk_script.proofs.Fronts.{no_plain_ascii}
use Rattle.bk_script.proofs.Strings.{escape_takes}

abbrev is_ascii : ℕ → Bool
is_ascii b = ltb b 128

digit_ascii : (b : ℕ) → is_hexadecimal_digit b ≡ true → is_ascii b ≡ true
digit_ascii b h = lt-ltb b 128 (hexadecimal_ascii b h)

escape_ascii : (t : List ℕ) (c : ℕ) → IsEscape t c → list_all is_ascii t ≡ true
escape_ascii t c (inl (e, f)) = rw e refl
escape_ascii t c (inr (inl (e, f))) = rw e refl
escape_ascii t c (inr (inr (inl (e, f)))) = rw e refl
escape_ascii t c (inr (inr (inr (inl (e, f))))) = rw e refl
escape_ascii t c (inr (inr (inr (inr (inl (e, f)))))) = rw e refl
escape_ascii t c (inr (inr (inr (inr (inr is))))) =
    rw is.whole (list_all_joined is_ascii is.digits (125 ∷ []) (list_all_weaker is_hexadecimal_digit is_ascii digit_ascii is.digits is.spelled.all) refl)

pub plain_behind : (s : List ℕ) → IsUtf8 s → IsUtf8 (drop_while is_plain s)
plain_behind s utf8 = subst IsUtf8 (drop_while_is is_plain s) (IsUtf8-drop s (prefix_len is_plain s) utf8 (boundary_at_stop is_plain s no_plain_ascii))

pub pushed_utf8 : (value rest text now after_it : List ℕ) → rest ≡ 92 ∷ text → IsPushed value text now after_it → IsUtf8 rest → IsUtf8 after_it
pushed_utf8 value rest text now after_it is p utf8 =
    let escaped : IsUtf8 text = utf8_behind 92 text (omega arith) (subst IsUtf8 is utf8) in
    let t = escape_takes text (p.c, p.behind_escape) p.escape in
    let left : IsUtf8 p.behind_escape = utf8_rest text t.0 p.behind_escape escaped (ascii t.0 (escape_ascii t.0 p.c t.1)) t.2 in
    subst IsUtf8 (sym p.rest_is) (plain_behind p.behind_escape left)
