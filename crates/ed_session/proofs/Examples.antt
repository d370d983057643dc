-- The definitions computed on small cases, right and wrong.
use Rattle.std.proofs.Common.{◌≡◌, [], ◌∷◌, true, false, Some, None, refl, inl, inr, arith}
use Rattle.std.specs.Prelude.{codes}
use Rattle.bk_desk.specs.declared.desk.Got.TheVariants.{Bytes}
use Rattle.xt_spec.specs.Tree.{Items, nil, element, leaf, text_item, gap, element_item, leaf_item}
use Rattle.ed_session.specs.declared.refusal.Refusal.TheVariants.{BadRange, BadText}
use Rattle.ed_session.specs.declared.refusal.EditFault.TheVariants.{Refused}
use Rattle.ed_session.specs.Kept.{Kept, saved_of}
use Rattle.ed_session.specs.Items.{gives_node_item, item_count, IsNarrow}
use Rattle.ed_session.specs.Edits.{IsNoValue}
use Rattle.ed_session.specs.Burst.{IsCount}
use Rattle.bk_spec.specs.Fault.{missing, too_large}
use Rattle.bk_spec.specs.FirstFault.{IsRootFault, absent, longer, faulty}
use Rattle.ed_session.specs.Start.{size_of_got, file_steps}

-- an element gives a node, white space at the top gives none
gives_node_item-right : gives_node_item (element_item (codes "<a/>") nil None) ≡ true
gives_node_item-right = refl

gives_node_item-wrong : gives_node_item (leaf_item gap (codes " ")) ≡ false
gives_node_item-wrong = refl

-- a text gives a node exactly where its value isn't empty
gives_node_item-text : gives_node_item (leaf_item text_item (codes "<![CDATA[x]]>")) ≡ true
gives_node_item-text = refl

gives_node_item-void : gives_node_item (leaf_item text_item (codes "<![CDATA[]]><![CDATA[]]>")) ≡ false
gives_node_item-void = refl

-- <a>x</a> and an LF: two items side by side, one within
tree : Items
tree = element (codes "<a>") (leaf text_item (codes "x") nil) (Some (codes "</a>")) (leaf gap (codes "\n") nil)

item_count-right : item_count tree ≡ 2
unfolding tree
item_count-right = refl

IsNarrow-right : IsNarrow 2 tree
unfolding tree
IsNarrow-right = (omega arith, (omega arith, tt, tt))

IsNarrow-wrong : IsNarrow 1 tree → ⊥
unfolding tree
IsNarrow-wrong is = absurd (omega (arith, is.0))

-- without an edit, what is saved is what is there
saved_of-none : saved_of None (codes "<a/>") ≡ codes "<a/>"
saved_of-none = refl

-- a root is counted where it differs from what was saved
abbrev saved : Kept
saved = record { root = codes "a.xml"; bytes = codes "<a/>"; saved = codes "<a/>" }

abbrev unsaved : Kept
unsaved = record { root = codes "a.xml"; bytes = codes "<a/> "; saved = codes "<a/>" }

IsCount-none : IsCount saved 0
IsCount-none = inl (refl, refl)

IsCount-one : IsCount unsaved 1
IsCount-one = inr (λ is. absurd cc, refl)

IsCount-wrong : IsCount unsaved 0 → ⊥
IsCount-wrong (inl is) = absurd cc
IsCount-wrong (inr is) = absurd cc

-- from 2 to 1 is no range of xyz, from 1 to 2 is one
IsNoValue-right : IsNoValue (codes "xyz") 2 1 [] (Refused BadRange)
IsNoValue-right = inl (omega arith)

IsNoValue-wrong : IsNoValue (codes "xyz") 1 2 [] (Refused BadRange) → ⊥
IsNoValue-wrong (inl less) = absurd (omega (arith, less))
IsNoValue-wrong (inr less) = absurd (omega (arith, less))

-- where the range is none, the text is not asked
IsNoValue-order : IsNoValue (codes "xyz") 2 1 (0 ∷ []) (Refused BadText) → ⊥
IsNoValue-order is = absurd (omega (arith, is.0))

-- a root that isn't there is missing, and nothing else
IsRootFault-right : IsRootFault (codes "a.xml") None (missing (codes "a.xml"))
IsRootFault-right = absent refl refl

IsRootFault-wrong : IsRootFault (codes "a.xml") None (too_large (codes "a.xml")) → ⊥
IsRootFault-wrong (absent there same) = absurd cc
IsRootFault-wrong (longer bytes there long same) = absurd cc
IsRootFault-wrong (faulty bytes there fits is) = absurd cc

-- a step a byte of the file that was read
file_steps-right : file_steps (Some (codes "<a/>")) ≡ 4
file_steps-right = refl

file_steps-none : file_steps None ≡ 0
file_steps-none = refl

size_of_got-right : size_of_got (Bytes (codes "<a/>")) ≡ 4
size_of_got-right = refl
