-- A text of empty CDATA sections, section by section.
use Rattle.std.proofs.Common.{◌≡◌, ℕ, List, ◌++◌, refl, codes}
use Rattle.xt_spec.specs.Text.{is_void}

pub void_behind : (text rest : List ℕ) → text ≡ codes "<![CDATA[]]>" ++ rest → is_void text ≡ is_void rest
void_behind text rest is = rw is refl
