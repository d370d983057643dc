-- Names as a form are lawful.
use Rattle.std.proofs.Common.{◌≡◌, ℕ, [], true, false, refl, arith}
use Rattle.std.proofs.lemmas.Str.{chars-nil}
use Rattle.std.proofs.lemmas.Bool.Decides.{nat_tests}
use Rattle.xt_spec.specs.Char.{is_space}
use Rattle.xt_spec.specs.Name.{IsQName}
use Rattle.xt_scan.specs.Look.{in_class}
use Rattle.xt_scan.proofs.Theorems.{Lawful, lawful_piece, take_while_utf8}
use Rattle.xt_lex.specs.NameTest.{is_name_byte, name_class, qname}
use Rattle.xt_lex.specs.QName.{q_name}
use Rattle.xt_lex.proofs.NameLemmas.{qname_from_test, test_from_qname, qname_bytes}
use Rattle.xt_lex.proofs.Runs.{stop_ascii}
use Rattle.xt_lex.proofs.Utf8.{qname_utf8}

pub byte_in_class : (b : ℕ) → is_name_byte b ≡ true → in_class name_class b ≡ true
byte_in_class b h = grind (arith, nat_tests)

name_no_space : (b : ℕ) → is_name_byte b ≡ true → is_space b ≡ false
name_no_space b h = grind (arith, nat_tests)

pub no_empty_name : qname [] ≡ false
no_empty_name = rw chars-nil refl

pub lawful_q_name : Lawful q_name
unfolding q_name
lawful_q_name = lawful_piece is_name_byte name_class qname IsQName (record {
  in_ = byte_in_class;
  solid = name_no_space;
  cuts = take_while_utf8 is_name_byte stop_ascii;
  from = λ t u all h. qname_from_test t u h;
  to = test_from_qname;
  all = qname_bytes;
  none = no_empty_name;
  utf8 = qname_utf8;
})
