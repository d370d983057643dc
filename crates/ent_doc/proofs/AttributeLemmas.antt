-- Attributes, one after the other.
use Rattle.std.proofs.Common.{◌≡◌, ◌∙◌, ℕ, Bool, true, false, List, [], ◌∷◌, ◌++◌, refl, sym, ap, append_assoc, bytes_eq, if◌then◌else◌, Option, Some, None, Result, Ok, Err}
use Rattle.std.proofs.lemmas.List.{append-nil, map-append}
use Rattle.std.proofs.lemmas.Bool.{false≢true}
use Rattle.std.proofs.lemmas.Slice.Eq.{bytes_eq-Decides}
use Rattle.xt_spec.specs.Namespace.{NamedValue, Binding, Expanded, is_declaration}
use Rattle.bk_spec.specs.Node as spec
use Rattle.bk_spec.specs.Fault.{Fault}
use Rattle.bk_spec.specs.DocumentNodes.{and_then, named, attr_of, attrs_of, value_at}
use Rattle.bk_info.specs.declared.attr.Attr.{Attr}
use Rattle.bk_info.specs.Nodes.{attr_in, attrs_in}
use Rattle.ent_doc.specs.Steps.{Fails, IsAttrOf, attr_value}
use Rattle.ent_doc.proofs.FaultLemmas.{fails_then, fails_as}

-- the attributes so far, and those that are left
abbrev pub AttrsTo : List ℕ → List Binding → List NamedValue → List NamedValue → List Attr → Type 0
AttrsTo file scope values rest attrs = attrs_of file scope values ≡ and_then (λ (more : List spec.Attr). Ok (attrs_in attrs ++ more)) (attrs_of file scope rest)

none_first : (others : Result (List spec.Attr) Fault) → others ≡ and_then (λ (more : List spec.Attr). Ok ([] ++ more)) others
none_first (Ok more) = refl
none_first (Err fault) = refl

pub attrs_begin : (file : List ℕ) (scope : List Binding) (values rest : List NamedValue) (attrs : List Attr) → rest ≡ values → attrs ≡ [] → AttrsTo file scope values rest attrs
attrs_begin file scope values rest attrs all none = rw all (rw none (none_first (attrs_of file scope values)))

declared_left : (file : List ℕ) (scope : List Binding) (a : NamedValue) (rest : List NamedValue) → is_declaration a.name ≡ true → attrs_of file scope (a ∷ rest) ≡ attrs_of file scope rest
declared_left file scope a rest is = rw is refl

written_first : (file : List ℕ) (scope : List Binding) (a : NamedValue) (rest : List NamedValue) → is_declaration a.name ≡ false
    → attrs_of file scope (a ∷ rest) ≡ and_then (λ (name : Expanded). and_then (λ (attrs : List spec.Attr). Ok (attr_of a name ∷ attrs)) (attrs_of file scope rest)) (named file scope true a.name)
written_first file scope a rest is = rw is refl

pub attrs_declared : (file : List ℕ) (scope : List Binding) (values rest left : List NamedValue) (a : NamedValue) (attrs : List Attr) → left ≡ a ∷ rest → is_declaration a.name ≡ true → AttrsTo file scope values left attrs → AttrsTo file scope values rest attrs
attrs_declared file scope values rest left a attrs next is so_far =
    so_far ∙ ap (λ (r : Result (List spec.Attr) Fault). and_then (λ (more : List spec.Attr). Ok (attrs_in attrs ++ more)) r) (ap (attrs_of file scope) next ∙ declared_left file scope a rest is)

joined_attrs : (attrs : List Attr) (attr : Attr) (first : spec.Attr) (others : Result (List spec.Attr) Fault) → attr_in attr ≡ first
    → and_then (λ (more : List spec.Attr). Ok (attrs_in attrs ++ more)) (and_then (λ (more : List spec.Attr). Ok (first ∷ more)) others) ≡ and_then (λ (more : List spec.Attr). Ok (attrs_in (attrs ++ attr ∷ []) ++ more)) others
joined_attrs attrs attr first (Err fault) is = refl
joined_attrs attrs attr first (Ok more) is =
    ap (λ (l : List spec.Attr). Ok l)
    (ap (λ (f : spec.Attr). attrs_in attrs ++ f ∷ more) (sym is) ∙ sym (append_assoc (attrs_in attrs) (attr_in attr ∷ []) more) ∙ ap (λ (l : List spec.Attr). l ++ more) (sym (map-append attr_in attrs (attr ∷ []))))

pub attrs_more : (file : List ℕ) (scope : List Binding) (values rest left : List NamedValue) (a : NamedValue) (attrs joined : List Attr) (attr : Attr) → left ≡ a ∷ rest → is_declaration a.name ≡ false → IsAttrOf file scope a attr → joined ≡ attrs ++ attr ∷ []
    → AttrsTo file scope values left attrs → AttrsTo file scope values rest joined
attrs_more file scope values rest left a attrs joined attr next is (name, named_is, attr_is) same so_far =
    let first : attrs_of file scope left ≡ and_then (λ (more : List spec.Attr). Ok (attr_of a name ∷ more)) (attrs_of file scope rest) =
    ap (attrs_of file scope) next ∙ written_first file scope a rest is ∙ ap (λ (r : Result Expanded Fault). and_then (λ (n : Expanded). and_then (λ (more : List spec.Attr). Ok (attr_of a n ∷ more)) (attrs_of file scope rest)) r) named_is in
    so_far ∙ ap (λ (r : Result (List spec.Attr) Fault). and_then (λ (more : List spec.Attr). Ok (attrs_in attrs ++ more)) r) first
    ∙ joined_attrs attrs attr (attr_of a name) (attrs_of file scope rest) attr_is
    ∙ ap (λ (l : List Attr). and_then (λ (more : List spec.Attr). Ok (attrs_in l ++ more)) (attrs_of file scope rest)) (sym same)

pub attrs_fail : (file : List ℕ) (scope : List Binding) (values rest left : List NamedValue) (a : NamedValue) (attrs : List Attr) (fault : Option Fault) → left ≡ a ∷ rest → is_declaration a.name ≡ false → Fails (named file scope true a.name) fault
    → AttrsTo file scope values left attrs → Fails (attrs_of file scope values) fault
attrs_fail file scope values rest left a attrs fault next is fails so_far =
    fails_as _ _ fault so_far
    (fails_then (λ (more : List spec.Attr). Ok (attrs_in attrs ++ more)) (attrs_of file scope left) fault
    (fails_as _ _ fault (ap (attrs_of file scope) next ∙ written_first file scope a rest is) (fails_then (λ (name : Expanded). and_then (λ (more : List spec.Attr). Ok (attr_of a name ∷ more)) (attrs_of file scope rest)) (named file scope true a.name) fault fails)))

pub attrs_end : (file : List ℕ) (scope : List Binding) (values left : List NamedValue) (attrs : List Attr) → left ≡ [] → AttrsTo file scope values left attrs → attrs_of file scope values ≡ Ok (attrs_in attrs)
attrs_end file scope values left attrs none so_far =
    so_far ∙ ap (λ (l : List NamedValue). and_then (λ (more : List spec.Attr). Ok (attrs_in attrs ++ more)) (attrs_of file scope l)) none ∙ ap (λ (l : List spec.Attr). Ok l) (append-nil (attrs_in attrs))

-- the value of an attribute that is no declaration is the same among the attributes and in the tag
abbrev value_in : List spec.Attr → List ℕ → Option (List ℕ)
value_in [] name = None
value_in (a ∷ others) name = if bytes_eq a.qname name then Some a.value else value_in others name

in_value : (attrs : List Attr) (name : List ℕ) → attr_value attrs name ≡ value_in (attrs_in attrs) name
in_value [] name = refl
in_value (a ∷ attrs) name = ap (λ (o : Option (List ℕ)). if bytes_eq a.qname name then Some a.value else o) (in_value attrs name)

same_bytes : (a b : List ℕ) → bytes_eq a b ≡ true → a ≡ b
same_bytes a b same = (bytes_eq-Decides a b).0 same

first_value : (a : NamedValue) (name : List ℕ) (specs : List spec.Attr) (values : List NamedValue) (named_as : Result Expanded Fault) (others : Result (List spec.Attr) Fault)
    → ((more : List spec.Attr) → others ≡ Ok more → value_in more name ≡ value_at values name) → and_then (λ (n : Expanded). and_then (λ (more : List spec.Attr). Ok (attr_of a n ∷ more)) others) named_as ≡ Ok specs
    → value_in specs name ≡ value_at (a ∷ values) name
first_value a name specs values (Err fault) others rest is = cc
first_value a name specs values (Ok n) (Err fault) rest is = cc
first_value a name specs values (Ok n) (Ok more) rest is =
    let same : specs ≡ attr_of a n ∷ more = cc in
    ap (λ (l : List spec.Attr). value_in l name) same ∙ ap (λ (o : Option (List ℕ)). if bytes_eq a.name name then Some a.value else o) (rest more refl)

not_named : (a name : List ℕ) → is_declaration a ≡ true → is_declaration name ≡ false → (b : Bool) → bytes_eq a name ≡ b → b ≡ false
not_named a name is none false same = refl
not_named a name is none true same = absurd (false≢true (sym none ∙ ap is_declaration (sym (same_bytes a name same)) ∙ is))

next_value : (file : List ℕ) (scope : List Binding) (name : List ℕ) (a : NamedValue) (values : List NamedValue) (specs : List spec.Attr) → is_declaration name ≡ false
    → ((others : List spec.Attr) → attrs_of file scope values ≡ Ok others → value_in others name ≡ value_at values name) → attrs_of file scope (a ∷ values) ≡ Ok specs → (b : Bool) → is_declaration a.name ≡ b
    → value_in specs name ≡ value_at (a ∷ values) name
next_value file scope name a values specs none rest is true declares =
    rest specs (sym (declared_left file scope a values declares) ∙ is) ∙ ap (λ (b : Bool). if b then Some a.value else value_at values name) (sym (not_named a.name name declares none (bytes_eq a.name name) refl))
next_value file scope name a values specs none rest is false written =
    first_value a name specs values (named file scope true a.name) (attrs_of file scope values) rest (sym (written_first file scope a values written) ∙ is)

value_found : (file : List ℕ) (scope : List Binding) (name : List ℕ) → is_declaration name ≡ false → (values : List NamedValue) (specs : List spec.Attr) → attrs_of file scope values ≡ Ok specs → value_in specs name ≡ value_at values name
value_found file scope name none [] specs is = let same : specs ≡ [] = cc in ap (λ (l : List spec.Attr). value_in l name) same
value_found file scope name none (a ∷ values) specs is = next_value file scope name a values specs none (value_found file scope name none values) is (is_declaration a.name) refl

pub value_is : (file : List ℕ) (scope : List Binding) (values : List NamedValue) (attrs : List Attr) (name : List ℕ) → is_declaration name ≡ false → attrs_of file scope values ≡ Ok (attrs_in attrs) → attr_value attrs name ≡ value_at values name
value_is file scope values attrs name none is = in_value attrs name ∙ value_found file scope name none values (attrs_in attrs) is
