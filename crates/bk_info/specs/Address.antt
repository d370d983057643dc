-- Where nodes stand; of this project.
--
--   Address       what a node came from; the path of the item that gives it: indices from 0 in the file's items (as of
--                 `xt_spec::Paths`); and the references through which it came, the outermost first. Of what an element
--                 holds, or a file: the path of the element, empty at the top
--   reference_at  the reference at an address, as one of a list
--   via_behind    the references through which comes what it shows
use Rattle.std.specs.Prelude.{List, ℕ, [], ◌∷◌, ◌++◌}
use Rattle.bk_spec.specs.Node.{Origin}
use Rattle.bk_info.specs.declared.reference.Reference.{Reference}

pub record Address : Type 0 where
  pub origin : Origin
  pub path : List ℕ
  pub via : List Reference

abbrev pub reference_at : Address → Reference
reference_at address = record { origin = address.origin; path = address.path }

-- those of the reference's own address, and then itself
abbrev pub via_behind : Address → List Reference
via_behind address = address.via ++ reference_at address ∷ []
