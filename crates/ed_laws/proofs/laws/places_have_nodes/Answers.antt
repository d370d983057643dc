use Rattle.ed_laws.proofs.Theorems.{place_has_node, place_leads}
use Rattle.ed_laws.proofs.laws.places_have_nodes.Goals as goal

pub returns : goal.returns
returns c = record { law = place_has_node; value = place_leads }
