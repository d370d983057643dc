-- Why the items of a document give no nodes.
--
--   IsNodesFault  their first fault, where they have content
use Rattle.std.specs.Prelude.{◌≡◌, List, ℕ, Err}
use Rattle.xt_spec.specs.Tree.{Items}
use Rattle.xt_spec.specs.Content.{Content, HasContent}
use Rattle.bk_spec.specs.Fault.{Fault}
use Rattle.bk_spec.specs.DocumentNodes.{nodes_of}
use Rattle.bk_spec.specs.Opening.{top_context}

abbrev pub IsNodesFault : List ℕ → Items → Fault → Type 0
IsNodesFault file items fault = (content : Content) → HasContent items content → nodes_of file (top_context file) 0 content ≡ Err fault
