-- The references through which the nodes of items in a row came.
use Rattle.std.proofs.Common.{◌≡◌, List, ◌++◌, sym, subst}
use Rattle.bk_info.specs.Address.{Address}
use Rattle.bk_info.specs.declared.reference.Reference.{Reference}
use Rattle.bk_info.specs.declared.node.Node.{Node}
use Rattle.bk_info.specs.Vias.{HaveVia}
use Rattle.bk_info.proofs.Theorems.{both_have_via}

pub same_via : (via : List Reference) (nodes list : List Node) → list ≡ nodes → HaveVia via nodes → HaveVia via list
same_via via nodes list same have = subst (λ (l : List Node). HaveVia via l) (sym same) have

pub vias_step : (via : List Reference) (address : Address) (nodes more joined : List Node) → joined ≡ nodes ++ more → address.via ≡ via → HaveVia via nodes → HaveVia address.via more → HaveVia via joined
vias_step via address nodes more joined same own so_far next =
    same_via via (nodes ++ more) joined same (both_have_via via nodes more so_far (subst (λ (v : List Reference). HaveVia v more) own next))
