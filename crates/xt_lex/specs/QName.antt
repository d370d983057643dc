-- Names as a form.
--
--   q_name  [7] QName of Namespaces in XML 1.0
use Rattle.std.specs.Prelude.{ℕ, List}
use Rattle.xt_spec.specs.Name.{IsQName}
use Rattle.xt_scan.specs.Form.{Form, piece}
use Rattle.xt_lex.specs.NameTest.{is_name_byte, name_class, qname}

unfoldable pub q_name : Form (List ℕ)
q_name = piece is_name_byte name_class qname IsQName
