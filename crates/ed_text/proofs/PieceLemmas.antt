-- A text among the pieces of its tree.
use Rattle.std.proofs.Common.{◌≡◌, ◌∙◌, ℕ, zero, suc, List, [], ◌∷◌, ◌++◌, drop, refl, sym, ap, subst, append_assoc, append-nil, Option, Some, None}
use Rattle.xt_spec.specs.Tree.{Items, nil, element, leaf, LeafKind, leaf_item, text_item, append}
use Rattle.xt_spec.specs.Paths.{item_in, item_at, replaced_in}
use Rattle.ed_spec.specs.TextEdit.{text_items}
use Rattle.ed_text.specs.Pieces.{Piece, opens, closes, holds, pieces_of, ChangesOneText}

pieces_of-append : (items others : Items) → pieces_of (append items others) ≡ pieces_of items ++ pieces_of others
pieces_of-append nil others = refl
pieces_of-append (element open_tag kids close rest) others =
    ap (λ ps. opens open_tag ∷ (pieces_of kids ++ closes close ∷ ps)) (pieces_of-append rest others)
    ∙ sym (append_assoc (opens open_tag ∷ pieces_of kids) (closes close ∷ pieces_of rest) (pieces_of others))
pieces_of-append (leaf kind text rest) others = ap (λ ps. holds kind text ∷ ps) (pieces_of-append rest others)

-- the pieces of the items with others in the place of this text
record StandsAmong (items : Items) (index : ℕ) (path text : List ℕ) : Type 0 where
  front : List Piece
  back : List Piece
  before : pieces_of items ≡ front ++ holds text_item text ∷ back
  after : (others : Items) → pieces_of (replaced_in items index path others) ≡ front ++ pieces_of others ++ back

regroup : (f x b r : List Piece) (o c : Piece) → o ∷ ((f ++ x ++ b) ++ c ∷ r) ≡ (o ∷ f) ++ x ++ (b ++ c ∷ r)
regroup f x b r o c = simp append_assoc

regroup_one : (f b r : List Piece) (o x c : Piece) → o ∷ ((f ++ x ∷ b) ++ c ∷ r) ≡ (o ∷ f) ++ x ∷ (b ++ c ∷ r)
regroup_one f b r o x c = simp append_assoc

regroup_rest : (f x b ks : List Piece) (o c : Piece) → o ∷ (ks ++ c ∷ (f ++ x ++ b)) ≡ (o ∷ (ks ++ c ∷ f)) ++ x ++ b
regroup_rest f x b ks o c = simp append_assoc

regroup_rest_one : (f b ks : List Piece) (o x c : Piece) → o ∷ (ks ++ c ∷ (f ++ x ∷ b)) ≡ (o ∷ (ks ++ c ∷ f)) ++ x ∷ b
regroup_rest_one f b ks o x c = simp append_assoc

among : (items : Items) (index : ℕ) (path text : List ℕ) → item_in items index path ≡ Some (leaf_item text_item text) → StandsAmong items index path text
among nil index path text is = absurd cc
among (element open_tag kids close rest) zero [] text is = absurd cc
among (element open_tag kids close rest) zero (next ∷ path) text is =
    let inner = among kids next path text is in
    record {
      front = opens open_tag ∷ inner.front;
      back = inner.back ++ closes close ∷ pieces_of rest;
      before = ap (λ ps. opens open_tag ∷ (ps ++ closes close ∷ pieces_of rest)) inner.before ∙ regroup_one inner.front inner.back (pieces_of rest) (opens open_tag) (holds text_item text) (closes close);
      after = λ others. ap (λ ps. opens open_tag ∷ (ps ++ closes close ∷ pieces_of rest)) (inner.after others) ∙ regroup inner.front (pieces_of others) inner.back (pieces_of rest) (opens open_tag) (closes close);
    }
among (element open_tag kids close rest) (suc index) path text is =
    let inner = among rest index path text is in
    record {
      front = opens open_tag ∷ (pieces_of kids ++ closes close ∷ inner.front);
      back = inner.back;
      before = ap (λ ps. opens open_tag ∷ (pieces_of kids ++ closes close ∷ ps)) inner.before ∙ regroup_rest_one inner.front inner.back (pieces_of kids) (opens open_tag) (holds text_item text) (closes close);
      after = λ others. ap (λ ps. opens open_tag ∷ (pieces_of kids ++ closes close ∷ ps)) (inner.after others) ∙ regroup_rest inner.front (pieces_of others) inner.back (pieces_of kids) (opens open_tag) (closes close);
    }
among (leaf kind t rest) zero [] text is =
    let same_kind : kind ≡ text_item = cc in
    let same_text : t ≡ text = cc in
    record {
      front = [];
      back = pieces_of rest;
      before = ap (λ k. holds k t ∷ pieces_of rest) same_kind ∙ ap (λ u. holds text_item u ∷ pieces_of rest) same_text;
      after = λ others. pieces_of-append others rest;
    }
among (leaf kind t rest) zero (next ∷ path) text is = absurd cc
among (leaf kind t rest) (suc index) path text is =
    let inner = among rest index path text is in
    record {
      front = holds kind t ∷ inner.front;
      back = inner.back;
      before = ap (λ ps. holds kind t ∷ ps) inner.before;
      after = λ others. ap (λ ps. holds kind t ∷ ps) (inner.after others);
    }

pub one_changes : (items : Items) (path text : List ℕ) → item_at items path ≡ Some (leaf_item text_item text) → ChangesOneText items path text
one_changes items [] text is = absurd cc
one_changes items (index ∷ path) text is =
    let inner = among items index path text is in
    record {
      front = inner.front;
      back = inner.back;
      before = inner.before;
      after = λ plain value. inner.after (text_items plain value);
    }

-- ---- a tree is told by its pieces

-- nothing follows, or what closes an element
abbrev Ends : List Piece → Type 0
Ends [] = Unit {0}
Ends (opens t ∷ ps) = ⊥
Ends (closes t ∷ ps) = Unit {0}
Ends (holds k t ∷ ps) = ⊥

abbrev opened : List Piece → Option (List ℕ)
opened [] = None
opened (opens t ∷ ps) = Some t
opened (closes t ∷ ps) = None
opened (holds k t ∷ ps) = None

abbrev closed : Option (List ℕ) → List Piece → Option (List ℕ)
closed d [] = d
closed d (opens t ∷ ps) = d
closed d (closes t ∷ ps) = t
closed d (holds k t ∷ ps) = d

abbrev kind_held : LeafKind → List Piece → LeafKind
kind_held d [] = d
kind_held d (opens t ∷ ps) = d
kind_held d (closes t ∷ ps) = d
kind_held d (holds k t ∷ ps) = k

abbrev text_held : List ℕ → List Piece → List ℕ
text_held d [] = d
text_held d (opens t ∷ ps) = d
text_held d (closes t ∷ ps) = d
text_held d (holds k t ∷ ps) = t

behind_tag : (o : Piece) (ks rs xs : List Piece) (c : Piece) → (o ∷ ks ++ c ∷ rs) ++ xs ≡ o ∷ (ks ++ c ∷ (rs ++ xs))
behind_tag o ks rs xs c = simp append_assoc

told : (a b : Items) (x y : List Piece) → Ends x → Ends y → pieces_of a ++ x ≡ pieces_of b ++ y → (a ≡ b) × (x ≡ y)
told nil nil x y ex ey same = (refl, same)
told nil (element o k c r) x y ex ey same = absurd (subst Ends (same ∙ behind_tag (opens o) (pieces_of k) (pieces_of r) y (closes c)) ex)
told nil (leaf k t r) x y ex ey same = absurd (subst Ends same ex)
told (element o k c r) nil x y ex ey same = absurd (subst Ends (sym same ∙ behind_tag (opens o) (pieces_of k) (pieces_of r) x (closes c)) ey)
told (leaf k t r) nil x y ex ey same = absurd (subst Ends (sym same) ey)
told (element o k c r) (leaf l t s) x y ex ey same = let e = ap opened same in absurd cc
told (leaf l t s) (element o k c r) x y ex ey same = let e = ap opened same in absurd cc
told (leaf k t r) (leaf l u s) x y ex ey same =
    let kinds : k ≡ l = ap (kind_held k) same in
    let texts : t ≡ u = ap (text_held t) same in
    let rest = told r s x y ex ey (ap (drop 1) same) in
    (ap (λ i. leaf i t r) kinds ∙ ap (λ i. leaf l i r) texts ∙ ap (leaf l u) rest.0, rest.1)
told (element o k c r) (element p l d s) x y ex ey same =
    let all = sym (behind_tag (opens o) (pieces_of k) (pieces_of r) x (closes c)) ∙ same ∙ behind_tag (opens p) (pieces_of l) (pieces_of s) y (closes d) in
    let tags : Some o ≡ Some p = ap opened all in
    let kids = told k l (closes c ∷ (pieces_of r ++ x)) (closes d ∷ (pieces_of s ++ y)) tt tt (ap (drop 1) all) in
    let ends : c ≡ d = ap (closed None) kids.1 in
    let rest = told r s x y ex ey (ap (drop 1) kids.1) in
    let first : o ≡ p = cc in
    (ap (λ t. element t k c r) first ∙ ap (λ i. element p i c r) kids.0 ∙ ap (λ t. element p l t r) ends ∙ ap (element p l d) rest.0, rest.1)

pub told_by_pieces : (a b : Items) → pieces_of a ≡ pieces_of b → a ≡ b
told_by_pieces a b same = (told a b [] [] tt tt (append-nil (pieces_of a) ∙ same ∙ sym (append-nil (pieces_of b)))).0
