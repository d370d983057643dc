-- Faults that go on.
use Rattle.std.proofs.Common.{◌≡◌, ◌∙◌, ap, Result, Option, Some, None}
use Rattle.bk_spec.specs.Fault.{Fault}
use Rattle.bk_spec.specs.DocumentNodes.{and_then}
use Rattle.ent_doc.specs.Steps.{Fails}

-- a fault goes on to the end
pub fails_then : {A B : Type 0} (next : A → Result B Fault) (result : Result A Fault) (fault : Option Fault) → Fails result fault → Fails (and_then next result) fault
fails_then next result (Some fault) is = ap (λ r. and_then next r) is
fails_then next result None is = tt

-- the same of an equal result
pub fails_as : {A : Type 0} (a b : Result A Fault) (fault : Option Fault) → a ≡ b → Fails b fault → Fails a fault
fails_as a b (Some fault) same is = same ∙ is
fails_as a b None same is = tt
