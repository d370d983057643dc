-- Where a text stands, and what is closed, computed on right and wrong cases.
use Rattle.std.proofs.Common.{◌≡◌, ◌∙◌, ℕ, List, [], ◌∷◌, ◌++◌, length, refl, ap, arith, append-nil, codes, Some, None}
use Rattle.xt_spec.specs.Tree.{Items, nil, element, leaf, text_item, element_item, append, source_text}
use Rattle.xt_spec.proofs.Theorems.{source_text-append}
use Rattle.xt_tree.specs.Spans.{IsClosed, Stands}

file : List ℕ
file = codes "<a>x</a>"

tree : Items
tree = element (codes "<a>") (leaf text_item (codes "x") nil) (Some (codes "</a>")) nil

the_text_stands_at_3 : Stands file tree (0 ∷ 0 ∷ []) 3 4
unfolding file tree
the_text_stands_at_3 = record {
  order = omega arith;
  within = omega arith;
  replaced = λ others. append-nil (codes "<a>" ++ source_text (append others nil) ++ codes "</a>") ∙ ap (λ t. codes "<a>" ++ t ++ codes "</a>") (source_text-append others nil ∙ append-nil (source_text others));
}

it_is_not_empty : Stands file tree (0 ∷ 0 ∷ []) 3 3 → ⊥
unfolding file tree
it_is_not_empty stands = let same : length (codes "<a></a>") ≡ length (codes "<a>x</a>") = ap length (stands.replaced nil) in absurd (omega (arith, same))

an_empty_tag_is_closed : IsClosed (element_item (codes "<b/>") nil None)
an_empty_tag_is_closed = refl

a_start_tag_is_not : IsClosed (element_item (codes "<b>") (leaf text_item (codes "x") nil) None) → ⊥
a_start_tag_is_not is = absurd cc
