-- An element's own, from its parts.
use Rattle.std.proofs.Common.{◌≡◌, ◌∙◌, ℕ, false, List, refl, sym, ap, subst, Option, Some, unwrap_or, Result, Ok, codes}
use Rattle.xt_spec.specs.Namespace.{NamedValue, Binding, Expanded, scope_of}
use Rattle.bk_spec.specs.Node as spec
use Rattle.bk_spec.specs.Fault.{Fault, bad_namespace}
use Rattle.bk_spec.specs.DocumentNodes.{Context, Element, and_then, or_fault, named, attrs_of, distinct_attrs, base_at, value_at, element_of}
use Rattle.bk_spec.specs.DocumentNodes as document
use Rattle.bk_info.specs.declared.attr.Attr.{Attr}
use Rattle.bk_info.specs.Nodes.{attrs_in}
use Rattle.ent_doc.specs.declared.element.Own.{Own}
use Rattle.ent_doc.specs.Steps.{Fails, attr_value, element_in}
use Rattle.ent_doc.proofs.AttributeLemmas.{value_is}
use Rattle.ent_doc.proofs.FaultLemmas.{fails_then, fails_as}

-- what follows the base, the attributes, the name and the scope of an element
abbrev at_base : List ℕ → Context → List NamedValue → List Binding → Expanded → List spec.Attr → List ℕ → Result Element Fault
at_base file context values scope name attrs base = Ok (document.element_in file scope (unwrap_or (value_at values (codes "xml:lang")) context.lang) name attrs base)

abbrev at_attrs : List ℕ → Context → List NamedValue → List Binding → Expanded → List spec.Attr → Result Element Fault
at_attrs file context values scope name attrs = and_then (at_base file context values scope name attrs) (base_at file context.base (value_at values (codes "xml:base")))

abbrev at_name : List ℕ → Context → List NamedValue → List Binding → Expanded → Result Element Fault
at_name file context values scope name = and_then (at_attrs file context values scope name) (distinct_attrs file scope values)

abbrev at_scope : List ℕ → Context → List ℕ → List NamedValue → List Binding → Result Element Fault
at_scope file context qname values scope = and_then (at_name file context values scope) (named file scope false qname)

scoped : (file : List ℕ) (context : Context) (qname : List ℕ) (values : List NamedValue) (scope : List Binding) → scope_of context.scope values ≡ Some scope → element_of file context qname values ≡ at_scope file context qname values scope
scoped file context qname values scope is = ap (λ (o : Option (List Binding)). and_then (at_scope file context qname values) (or_fault (bad_namespace file) o)) is

named_next : (file : List ℕ) (context : Context) (qname : List ℕ) (values : List NamedValue) (scope : List Binding) (name : Expanded) → scope_of context.scope values ≡ Some scope → named file scope false qname ≡ Ok name
    → element_of file context qname values ≡ at_name file context values scope name
named_next file context qname values scope name is named_is = scoped file context qname values scope is ∙ ap (λ (r : Result Expanded Fault). and_then (at_name file context values scope) r) named_is

attrs_next : (file : List ℕ) (context : Context) (qname : List ℕ) (values : List NamedValue) (scope : List Binding) (name : Expanded) (attrs : List spec.Attr) → scope_of context.scope values ≡ Some scope → named file scope false qname ≡ Ok name → distinct_attrs file scope values ≡ Ok attrs
    → element_of file context qname values ≡ at_attrs file context values scope name attrs
attrs_next file context qname values scope name attrs is named_is attrs_are = named_next file context qname values scope name is named_is ∙ ap (λ (r : Result (List spec.Attr) Fault). and_then (at_attrs file context values scope name) r) attrs_are

pub scope_fails : (file : List ℕ) (context : Context) (qname : List ℕ) (values : List NamedValue) (fault : Option Fault) → Fails (or_fault (bad_namespace file) (scope_of context.scope values)) fault → Fails (element_of file context qname values) fault
scope_fails file context qname values fault fails = fails_then (at_scope file context qname values) (or_fault (bad_namespace file) (scope_of context.scope values)) fault fails

pub name_fails : (file : List ℕ) (context : Context) (qname : List ℕ) (values : List NamedValue) (scope inner : List Binding) (fault : Option Fault) → scope_of context.scope values ≡ Some inner → scope ≡ inner
    → Fails (named file scope false qname) fault → Fails (element_of file context qname values) fault
name_fails file context qname values scope inner fault is same fails =
    fails_as _ _ fault (scoped file context qname values scope (is ∙ ap (λ (s : List Binding). Some s) (sym same))) (fails_then (at_name file context values scope) (named file scope false qname) fault fails)

pub attrs_fail : (file : List ℕ) (context : Context) (qname : List ℕ) (values : List NamedValue) (scope inner : List Binding) (name : Expanded) (fault : Option Fault) → scope_of context.scope values ≡ Some inner → scope ≡ inner → named file scope false qname ≡ Ok name
    → Fails (distinct_attrs file scope values) fault → Fails (element_of file context qname values) fault
attrs_fail file context qname values scope inner name fault is same named_is fails =
    fails_as _ _ fault (named_next file context qname values scope name (is ∙ ap (λ (s : List Binding). Some s) (sym same)) named_is) (fails_then (at_attrs file context values scope name) (distinct_attrs file scope values) fault fails)

-- the same facts, of what the code reads
pub declared_in : (outer scope : List Binding) (values list : List NamedValue) (declared : Option (List Binding)) → scope ≡ outer → list ≡ values → scope_of scope list ≡ Some (unwrap_or declared scope) → scope_of outer values ≡ Some (unwrap_or declared outer)
declared_in outer scope values list declared same_scope same_values is =
    subst (λ (l : List NamedValue). scope_of outer l ≡ Some (unwrap_or declared outer)) same_values (subst (λ (s : List Binding). scope_of s list ≡ Some (unwrap_or declared s)) same_scope is)

pub inner_is : (outer scope inner : List Binding) (declared : Option (List Binding)) → scope ≡ outer → inner ≡ unwrap_or declared scope → inner ≡ unwrap_or declared outer
inner_is outer scope inner declared same is = is ∙ ap (λ (s : List Binding). unwrap_or declared s) same

pub fault_of : (file outer base : List ℕ) (attrs list : List Attr) (fault : Option Fault) → base ≡ outer → list ≡ attrs → Fails (base_at file base (attr_value list (codes "xml:base"))) fault → Fails (base_at file outer (attr_value attrs (codes "xml:base"))) fault
fault_of file outer base attrs list fault same_base same_attrs fails =
    subst (λ (l : List Attr). Fails (base_at file outer (attr_value l (codes "xml:base"))) fault) same_attrs (subst (λ (b : List ℕ). Fails (base_at file b (attr_value list (codes "xml:base"))) fault) same_base fails)

pub base_of : (file outer base : List ℕ) (attrs list : List Attr) (found : Option (List ℕ)) → base ≡ outer → list ≡ attrs → base_at file base (attr_value list (codes "xml:base")) ≡ Ok (unwrap_or found base) → base_at file outer (attr_value attrs (codes "xml:base")) ≡ Ok (unwrap_or found outer)
base_of file outer base attrs list found same_base same_attrs is =
    subst (λ (l : List Attr). base_at file outer (attr_value l (codes "xml:base")) ≡ Ok (unwrap_or found outer)) same_attrs (subst (λ (b : List ℕ). base_at file b (attr_value list (codes "xml:base")) ≡ Ok (unwrap_or found b)) same_base is)

pub base_fails : (file : List ℕ) (context : Context) (qname : List ℕ) (values : List NamedValue) (scope inner : List Binding) (name : Expanded) (attrs : List Attr) (fault : Option Fault) → scope_of context.scope values ≡ Some inner → scope ≡ inner → named file scope false qname ≡ Ok name
    → distinct_attrs file scope values ≡ Ok (attrs_in attrs) → attrs_of file scope values ≡ Ok (attrs_in attrs) → Fails (base_at file context.base (attr_value attrs (codes "xml:base"))) fault → Fails (element_of file context qname values) fault
base_fails file context qname values scope inner name attrs fault is same named_is attrs_are kept fails =
    fails_as _ _ fault (attrs_next file context qname values scope name (attrs_in attrs) (is ∙ ap (λ (s : List Binding). Some s) (sym same)) named_is attrs_are)
    (fails_then (at_base file context values scope name (attrs_in attrs)) (base_at file context.base (value_at values (codes "xml:base"))) fault
    (subst (λ (o : Option (List ℕ)). Fails (base_at file context.base o) fault) (value_is file scope values attrs (codes "xml:base") refl kept) fails))

pub own_gives : (file : List ℕ) (context : Context) (qname : List ℕ) (values : List NamedValue) (scope : List Binding) (declared : Option (List Binding)) (name : Expanded) (attrs : List Attr) (base lang : Option (List ℕ)) (own : Own)
    → scope_of context.scope values ≡ Some (unwrap_or declared context.scope) → scope ≡ unwrap_or declared context.scope → named file scope false qname ≡ Ok name → distinct_attrs file scope values ≡ Ok (attrs_in attrs) → attrs_of file scope values ≡ Ok (attrs_in attrs)
    → base_at file context.base (attr_value attrs (codes "xml:base")) ≡ Ok (unwrap_or base context.base) → lang ≡ attr_value attrs (codes "xml:lang")
    → own.name ≡ name → own.attrs ≡ attrs → own.context ≡ record { scope = unwrap_or declared context.scope; base = unwrap_or base context.base; lang = unwrap_or lang context.lang }
    → element_of file context qname values ≡ Ok (element_in file own)
own_gives file context qname values scope declared name attrs base lang own is same named_is attrs_are kept base_is lang_is own_name own_attrs own_context =
    let based : base_at file context.base (value_at values (codes "xml:base")) ≡ Ok (unwrap_or base context.base) = subst (λ (o : Option (List ℕ)). base_at file context.base o ≡ Ok (unwrap_or base context.base)) (value_is file scope values attrs (codes "xml:base") refl kept) base_is in
    let spoken : value_at values (codes "xml:lang") ≡ lang = sym (lang_is ∙ value_is file scope values attrs (codes "xml:lang") refl kept) in
    attrs_next file context qname values scope name (attrs_in attrs) (is ∙ ap (λ (s : List Binding). Some s) (sym same)) named_is attrs_are
    ∙ ap (λ (r : Result (List ℕ) Fault). and_then (at_base file context values scope name (attrs_in attrs)) r) based
    ∙ ap (λ (o : Option (List ℕ)). Ok (document.element_in file scope (unwrap_or o context.lang) name (attrs_in attrs) (unwrap_or base context.base))) spoken
    ∙ ap (λ (s : List Binding). Ok (document.element_in file s (unwrap_or lang context.lang) name (attrs_in attrs) (unwrap_or base context.base))) same
    ∙ ap (λ (n : Expanded). Ok (document.element_in file (unwrap_or declared context.scope) (unwrap_or lang context.lang) n (attrs_in attrs) (unwrap_or base context.base))) (sym own_name)
    ∙ ap (λ (l : List Attr). Ok (document.element_in file (unwrap_or declared context.scope) (unwrap_or lang context.lang) own.name (attrs_in l) (unwrap_or base context.base))) (sym own_attrs)
    ∙ ap (λ (x : Context). Ok (document.element_in file x.scope x.lang own.name (attrs_in own.attrs) x.base)) (sym own_context)
