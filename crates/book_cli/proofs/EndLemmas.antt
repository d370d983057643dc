-- What a run that ends in either way has told and left.
use Rattle.std.proofs.Common.{◌≡◌, ◌∙◌, ◌⊎◌, ℕ, List, ◌++◌, Bool, true, false, ◌||◌, Option, refl, ap, subst, inl, inr}
use Rattle.std.specs.Prelude.{◌==◌, IsTrue}
use Rattle.std.proofs.lemmas.Bool.{eqb-true}
use Rattle.bk_desk.specs.Disk.{DiskImage, DiskState, CrashState}
use Rattle.book_cli.specs.Output.{source_line, is_exit_status, is_answer, WritesOutput, RootOutput, IsOutput}
use Rattle.book_cli.specs.Leaves.{RecoveredBook, recovers_book, MayCrashIn, IsBookSaved}
use Rattle.book_cli.specs.Ends.{AnswersWith, whole, cut, EndsBy, output, source, EndsEarly, in_part, at_source}
use Rattle.book_cli.proofs.RunLemmas.{not_whole, not_over}
use Rattle.book_cli.proofs.OutputLemmas.{output_unique}

-- the answer of a run whose source failed is no status of an output
five_apart : (text earlier now : List ℕ) (answer : ℕ) → AnswersWith 5 text earlier now answer → IsTrue (is_exit_status answer) → ⊥
five_apart text earlier now answer (whole is told) ends = let bad : false ≡ true = subst (λ (n : ℕ). IsTrue (is_exit_status n)) is ends in absurd (cc)
five_apart text earlier now answer (cut failed count told) ends = not_whole answer failed ends

five_recovers : (text earlier now : List ℕ) (answer : ℕ) → AnswersWith 5 text earlier now answer → IsTrue (recovers_book answer) → ⊥
five_recovers text earlier now answer (whole is told) ends = let bad : false ≡ true = subst (λ (n : ℕ). IsTrue (recovers_book n)) is ends in absurd (cc)
five_recovers text earlier now answer (cut failed count told) ends = not_over answer failed ends

module _ (root : Option (List ℕ)) (bytes : List ℕ) (rose : Type 0) (start now : DiskState) (points : (CrashState → Type 0) → Type 0) (answer : ℕ) where
  pub ends_output : EndsBy root bytes rose start now points answer → IsTrue (is_exit_status answer) → WritesOutput (RootOutput root bytes start.files) answer start.told now.told
  ends_output (output is) ends = is.output ends
  ends_output (source is) ends = absurd (five_apart source_line start.told now.told answer is.line.told ends)

  pub ends_crash : EndsBy root bytes rose start now points answer → IsTrue (is_exit_status answer) → points (MayCrashIn root bytes start)
  ends_crash (output is) ends = is.crash
  ends_crash (source is) ends = absurd (five_apart source_line start.told now.told answer is.line.told ends)

  pub ends_durable : EndsBy root bytes rose start now points answer → IsTrue (recovers_book answer) → IsBookSaved root bytes start now answer
  ends_durable (output is) ends = is.durable ends
  ends_durable (source is) ends = absurd (five_recovers source_line start.told now.told answer is.line.told ends)

  pub ends_others : EndsBy root bytes rose start now points answer → (RecoveredBook root bytes start.files → ⊥) → now.files ≡ start.files
  ends_others (output is) never = is.others never
  ends_others (source is) never = is.line.same.files

  pub ends_early : EndsBy root bytes rose start now points answer → EndsEarly root bytes rose start now points answer
  ends_early (output is) = in_part is.prefix is.crash
  ends_early (source is) = at_source is

-- ---- where nothing failed

-- one of two tests holds
either : (a b : Bool) → IsTrue (a || b) → IsTrue a ⊎ IsTrue b
either true b holds = inl refl
either false b holds = inr holds

-- the answer is that of a whole output, or memory was wanting
whole_or_seven : (answer : ℕ) → IsTrue (is_answer answer) → (answer ≡ 5 → ⊥) → (answer ≡ 6 → ⊥) → IsTrue (is_exit_status answer) ⊎ (answer ≡ 7)
whole_or_seven answer is not_five not_six = elim (either (is_exit_status answer || answer == 5 || answer == 6) (answer == 7) is) [
  | inr seven ↦ inr (eqb-true answer 7 seven)
  | inl less ↦ elim (either (is_exit_status answer || answer == 5) (answer == 6) less) [
    | inr six ↦ absurd (not_six (eqb-true answer 6 six))
    | inl ends ↦ elim (either (is_exit_status answer) (answer == 5) ends) [
      | inr five ↦ absurd (not_five (eqb-true answer 5 five))
      | inl whole_is ↦ inl whole_is
    ]
  ]
]

-- .. and then it is the status of the one output that there is
pub answers_only : (words : List (List ℕ)) (left : List ℕ) (files : DiskImage) (answer : ℕ) (earlier now : List ℕ) → IsTrue (is_answer answer) → (answer ≡ 5 → ⊥) → (answer ≡ 6 → ⊥)
    → (IsTrue (is_exit_status answer) → WritesOutput (IsOutput words left files) answer earlier now)
    → (status : ℕ) (text : List ℕ) → IsOutput words left files status text → ((answer ≡ status) × (now ≡ earlier ++ text)) ⊎ (answer ≡ 7)
answers_only words left files answer earlier now is not_five not_six writes status text gives = elim (whole_or_seven answer is not_five not_six) [
  | inl ends ↦
      let (told, tells, put) = writes ends in
      let same = output_unique words left files answer status told text tells gives in
      inl (same.0, put ∙ ap (λ (l : List ℕ). earlier ++ l) same.1)
  | inr seven ↦ inr seven
]
