-- Which address an address of the code is.
--
--   siblings_at  that of the element round nodes side by side
--   address_at   that of one of them, by its index
--   via_to       the references up to the innermost one, by its address
--   weight       how many references there are, and indices in their paths
use Rattle.std.specs.Prelude.{◌≡◌, List, ℕ, suc, ◌+◌, [], ◌∷◌, ◌++◌, length, Option, None, Some}
use Rattle.std.proofs.Common.{arith}
use Rattle.std.specs.declared.rc.Rc.{Rc}
use Rattle.std.specs.declared.alloc.Global.{Global}
use Rattle.bk_info.specs.Address.{Address, via_behind}
use Rattle.bk_info.specs.declared.reference.Reference.{Reference}
use Rattle.bk_info.specs.declared.address.Round.{Round}
use Rattle.bk_info.specs.declared.address.Round.TheVariants.{Top, Element}
use Rattle.bk_info.specs.declared.address.Within.{Within}

-- the path of the element round nodes, empty at the top
abbrev pub path_round : Round → List ℕ
path_round (Top via) = []
path_round (Element outer) = outer.path

-- what an element holds came through the references of the element
abbrev pub via_round : Round → List Reference
via_round (Top via) = via
via_round (Element outer) = outer.via

abbrev pub siblings_at : Rc Within Global → Address
siblings_at within = record { origin = within.value.origin; path = path_round within.value.round; via = via_round within.value.round }

abbrev pub address_at : Rc Within Global → ℕ → Address
address_at within index = record { origin = within.value.origin; path = path_round within.value.round ++ index ∷ []; via = via_round within.value.round }

abbrev pub via_to : Option Address → List Reference
via_to None = []
via_to (Some address) = via_behind address

-- one for each reference, and one for each index in its path
abbrev pub weight : List Reference → ℕ
weight [] = 0
weight (reference ∷ others) = suc (length reference.path) + weight others

pub weight-append : (xs ys : List Reference) → weight (xs ++ ys) ≡ weight xs + weight ys
weight-append [] ys = omega arith
weight-append (x ∷ xs) ys = omega (arith, weight-append xs ys)
