-- Command lines: what is read is one, and of those that are built what is one is read.
use Rattle.std.proofs.Common.{◌≡◌, ℕ, true, ◌&&◌, List, [], ◌∷◌, ◌++◌, Some, refl, sym, ap, subst, ◌∙◌, inl, inr, eqb-true, codes, bytes_eq}
use Rattle.std.proofs.lemmas.Bool.{and_parts}
use Rattle.std.specs.List.{list_all}
use Rattle.std.specs.Cmp.Lexicographic.{bytes_decides}
use Rattle.xt_scan.specs.Step.{take_while}
use Rattle.xt_scan.proofs.Theorems.{bind_some}
use Rattle.bk_script.specs.Word.{is_blank, Place, Word, letters, number, place, string, AreWords}
use Rattle.bk_script.specs.Command.{Command, edit_text, burst, IsCommandLine, is_built}
use Rattle.bk_script.specs.Reading.{word_at, place_of, number_of, last_string_at, text_at, command_at}
use Rattle.bk_script.specs.View.{place_from}
use Rattle.bk_script.proofs.Numbers.{number_takes, number_again}
use Rattle.bk_script.proofs.Places.{place_takes, place_again}
use Rattle.bk_script.proofs.Strings.{choose}
use Rattle.bk_script.proofs.Words.{IsSolid, cut, word_again, number_solid, place_solid, last_string_takes, last_string_again}

-- a word at the front, and the words behind it
front_word : (text : List ℕ) (word : Word) (words : List Word) → Rattle.bk_script.specs.Word.IsWord (word_at text).0 word → AreWords (word_at text).1 words → AreWords text (word ∷ words)
front_word text word words is others =
    let c = cut text in
    (take_while is_blank text, (word_at text).0, (word_at text).1, c.blank, is, c.follow, others, c.whole)

record IsText (text : List ℕ) (c : Command) : Type 0 where
  pub numbers : List ℕ
  pub from : ℕ
  pub to : ℕ
  pub value : List ℕ
  pub command : edit_text (place_from numbers) from to value ≡ c
  pub words : AreWords text (place (place_from numbers) ∷ number from ∷ number to ∷ string value ∷ [])

text_takes : (text : List ℕ) (c : Command) → text_at text ≡ Some c → IsText text c
unfolding text_at
text_takes text c e =
    let one = word_at text in
    let two = word_at one.1 in
    let three = word_at two.1 in
    let p = bind_some (place_of one.0) _ c e in
    let n = bind_some (number_of two.0) _ c p.2 in
    let m = bind_some (number_of three.0) _ c n.2 in
    let v = bind_some (last_string_at three.1) _ c m.2 in
    let some : Some (edit_text (place_from p.0) n.0 m.0 v.0) ≡ Some c = v.2 in
    record {
      numbers = p.0;
      from = n.0;
      to = m.0;
      value = v.0;
      command = cc;
      words =
          front_word text (place (place_from p.0)) (number n.0 ∷ number m.0 ∷ string v.0 ∷ []) (place_takes one.0 p.0 p.1)
          (front_word one.1 (number n.0) (number m.0 ∷ string v.0 ∷ []) (number_takes two.0 n.0 n.1)
          (front_word two.1 (number m.0) (string v.0 ∷ []) (number_takes three.0 m.0 m.1) (last_string_takes three.1 v.0 v.1)));
    }

text_again : (text : List ℕ) (p : Place) (n m : ℕ) (v : List ℕ) → p.carets ≡ 0 → AreWords text (place p ∷ number n ∷ number m ∷ string v ∷ []) → text_at text ≡ Some (edit_text p n m v)
unfolding text_at
text_again text p n m v none (b1, t1, r1, blank1, is1, follow1, (b2, t2, r2, blank2, is2, follow2, (b3, t3, r3, blank3, is3, follow3, last, e3), e2), e1) =
    let one : word_at text ≡ (t1, r1) = ap word_at e1 ∙ word_again b1 t1 r1 blank1 (place_solid t1 p is1) follow1 in
    let two : word_at r1 ≡ (t2, r2) = ap word_at e2 ∙ word_again b2 t2 r2 blank2 (number_solid t2 n is2) follow2 in
    let three : word_at r2 ≡ (t3, r3) = ap word_at e3 ∙ word_again b3 t3 r3 blank3 (number_solid t3 m is3) follow3 in
    let built : place_from p.numbers ≡ p = ap (λ (k : ℕ). record { numbers = p.numbers; carets = k }) (sym none) in
    rw (one, two, three, place_again t1 p is1 none, number_again t2 n is2, number_again t3 m is3, last_string_again r3 v last) (ap (λ (q : Place). Some (edit_text q n m v)) built)

abbrev IsBuilt : List ℕ → Command → Type 0
IsBuilt text c = IsCommandLine text c × (is_built c ≡ true)

edit_line : (text : List ℕ) (c : Command) → bytes_eq (word_at text).0 (codes "text") ≡ true → text_at (word_at text).1 ≡ Some c → IsBuilt text c
edit_line text c first e =
    let t = text_takes (word_at text).1 c e in
    let word : (word_at text).0 ≡ codes "text" = (bytes_decides (word_at text).0 (codes "text")).0 first in
    subst (IsBuilt text) t.command (front_word text (letters (codes "text")) (place (place_from t.numbers) ∷ number t.from ∷ number t.to ∷ string t.value ∷ []) word t.words, refl)

burst_line : (text : List ℕ) (c : Command) → bytes_eq (word_at text).0 (codes "burst") && list_all is_blank (word_at text).1 ≡ true → Some burst ≡ Some c → IsBuilt text c
burst_line text c test e =
    let both = and_parts (bytes_eq (word_at text).0 (codes "burst")) (list_all is_blank (word_at text).1) test in
    let word : (word_at text).0 ≡ codes "burst" = (bytes_decides (word_at text).0 (codes "burst")).0 both.0 in
    let same : burst ≡ c = cc in
    subst (IsBuilt text) same (front_word text (letters (codes "burst")) [] word both.1, refl)

pub command_takes : (text : List ℕ) (c : Command) → command_at text ≡ Some c → IsBuilt text c
unfolding command_at
command_takes text c e =
    elim (choose (bytes_eq (word_at text).0 (codes "text")) _ _ c e) [
      | inl h ↦ edit_line text c h.0 h.1
      | inr e1 ↦ elim (choose (bytes_eq (word_at text).0 (codes "burst") && list_all is_blank (word_at text).1) _ _ c e1) [
        | inl h ↦ burst_line text c h.0 h.1
        | inr none ↦ absurd cc
      ]
    ]

text_solid : IsSolid (codes "text")
text_solid = record { some = λ e. absurd cc; all = refl }

burst_solid : IsSolid (codes "burst")
burst_solid = record { some = λ e. absurd cc; all = refl }

pub command_again : (text : List ℕ) (c : Command) → IsCommandLine text c → is_built c ≡ true → command_at text ≡ Some c
unfolding command_at
command_again text (edit_text p n m v) (before, t, rest, blank, is, follow, others, e) built =
    let one : word_at text ≡ (codes "text", rest) = ap word_at (e ∙ ap (λ (u : List ℕ). before ++ (u ++ rest)) is) ∙ word_again before (codes "text") rest blank text_solid follow in
    rw one (text_again rest p n m v (eqb-true _ _ built) others)
command_again text burst (before, t, rest, blank, is, follow, others, e) built =
    let one : word_at text ≡ (codes "burst", rest) = ap word_at (e ∙ ap (λ (u : List ℕ). before ++ (u ++ rest)) is) ∙ word_again before (codes "burst") rest blank burst_solid follow in
    rw (one, others) refl
command_again text _ is built = absurd cc
