-- What is in scope, of what the code keeps. Namespaces in XML 1.0, section 6.1.
--
--   bindings_in   the bindings, the innermost first
use Rattle.std.specs.Prelude.{List, [], ◌∷◌, ◌++◌, Option, None, Some}
use Rattle.std.specs.declared.rc.Rc.{Rc}
use Rattle.std.specs.declared.alloc.Global.{Global}
use Rattle.xt_spec.specs.Namespace.{Binding}
use Rattle.xt_value.specs.declared.scope.Declared.{Declared}

abbrev pub bindings_in : Option (Rc Declared Global) → List Binding
bindings_in None = []
bindings_in (Some r) = r.value.first ∷ r.value.others ++ r.value.outer
