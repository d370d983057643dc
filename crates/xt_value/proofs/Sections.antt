-- A CDATA section at the front of a text ends at the first `]]>`.
use Rattle.std.proofs.Common.{◌≡◌, ◌∙◌, ℕ, List, [], ◌∷◌, ◌++◌, Option, Some, None, codes, refl, sym, ap, append_assoc, arith}
use Rattle.std.proofs.lemmas.List.{append_cancel_left}
use Rattle.std.specs.Option.{MatchOption, option_map}
use denote.Ref.{Bor}
use Rattle.xt_spec.specs.Markup.{IsSectionOf}
use Rattle.xt_lex.specs.Scan.{cut}
use Rattle.xt_lex.proofs.Theorems.{Stays, cut_fresh_again, fresh_from_lacks}

stays : Stays (codes "]]>")
stays b [] r = refl
stays b (c ∷ []) r = refl
stays b (c ∷ d ∷ front) r = refl

regroup : (opening inner close behind : List ℕ) → (opening ++ inner ++ close) ++ behind ≡ opening ++ (inner ++ (close ++ behind))
regroup opening inner close behind = simp append_assoc

pub section_cut : (text section inner behind body : List ℕ) → IsSectionOf section inner → text ≡ section ++ behind → text ≡ codes "<![CDATA[" ++ body → cut (codes "]]>") body ≡ Some (inner, behind)
section_cut text section inner behind body (chars, lacks, spelled) is begins =
    let whole : codes "<![CDATA[" ++ body ≡ codes "<![CDATA[" ++ (inner ++ (codes "]]>" ++ behind)) =
    sym begins ∙ is ∙ ap (λ (l : List ℕ). l ++ behind) spelled ∙ regroup (codes "<![CDATA[") inner (codes "]]>") behind in
    let rest : body ≡ inner ++ (codes "]]>" ++ behind) = append_cancel_left (codes "<![CDATA[") body _ whole in
    ap (cut (codes "]]>")) rest ∙ cut_fresh_again (codes "]]>") inner behind (omega arith) (fresh_from_lacks (codes "]]>") inner behind stays lacks)

pub section_begins : (text section inner behind : List ℕ) → IsSectionOf section inner → text ≡ section ++ behind → text ≡ codes "<![CDATA[" ++ (inner ++ (codes "]]>" ++ behind))
section_begins text section inner behind (chars, lacks, spelled) is = is ∙ ap (λ (l : List ℕ). l ++ behind) spelled ∙ regroup (codes "<![CDATA[") inner (codes "]]>") behind

pub parts_found : (r : Option (Bor (List ℕ) × Bor (List ℕ))) (inner behind : List ℕ) → option_map {U = List ℕ × List ℕ} (λ x. (x.0.now, x.1.now)) r ≡ Some (inner, behind) → MatchOption r ⊥ (λ x. (x.0.now ≡ inner) × (x.1.now ≡ behind))
parts_found None inner behind is = absurd (cc)
parts_found (Some x) inner behind is =
    let same : ◌≡◌ {A = List ℕ × List ℕ} (x.0.now, x.1.now) (inner, behind) = cc in
    (ap (λ p. p.0) same, ap (λ p. p.1) same)
