-- The definitions on small cases.
use Rattle.std.proofs.Common.{◌≡◌, ◌≢◌, ◌∙◌, ℕ, List, [], ◌∷◌, ◌++◌, arith, true, false, Option, Some, None, refl, sym, ap, inl, inr}
use Rattle.std.specs.Prelude.{codes}
use Rattle.std.specs.Fmt.{digits}
use Rattle.std.specs.Str.{chars}
use Rattle.bk_desk.specs.declared.desk_name.DeskName.TheVariants as desk_name
use Rattle.bk_desk.specs.Disk.{DiskState, CrashState}
use Rattle.jr_burst.specs.SavedFiles.{recovered_files}
use Rattle.bk_script.specs.Command as script
use Rattle.ed_spec.specs.Book.{Book}
use Rattle.ed_spec.specs.Edit.{text_edit, bad_text}
use Rattle.ed_spec.specs.Session.{Session, Command, edit, burst, Reply, done, refused, nothing_to_undo, saved_files, Step}
use Rattle.bk_run.specs.Input.{IsInput}
use Rattle.bk_run.specs.Replies.{IsCommandOf, AreCommandsOf, replies_text, any_refused}
use Rattle.bk_run.specs.Stops.{IsCut, IsSameInAll, IsOfOneBurst}
use Rattle.bk_run.proofs.StopLemmas.{told_is_saved}

module _ (s : Session) where
  abbrev step : Reply → Step
  step reply = record { reply = reply; session = s }

  three_lines : replies_text (step done ∷ step (refused bad_text) ∷ step (saved_files 12) ∷ []) ≡ codes "ok\nrefused BadText\nburst 12\n"
  unfolding digits
  three_lines = refl

  no_undo_is_refused : any_refused (step done ∷ step nothing_to_undo ∷ []) ≡ true
  no_undo_is_refused = refl

  done_is_not_refused : any_refused (step done ∷ step (saved_files 0) ∷ []) ≡ false
  done_is_not_refused = refl

  -- two bytes of `ok` and LF are a front of it that isn't all
  ok_is_cut : IsCut (codes "ok") (step done ∷ [])
  ok_is_cut = omega arith

  -- a save that was told whole is recovered, and not the book before it
  told_and_not_saved : (start : DiskState) (first : Book) (crash : CrashState) → start.told ≡ [] → crash.told ≡ codes "burst 1\n" → recovered_files crash.image ≡ Some first → first ≢ s.saved → IsOfOneBurst start first (step (saved_files 1) ∷ []) [] crash → ⊥
  unfolding digits
  told_and_not_saved start first crash none told recovers other is =
      let saved : recovered_files crash.image ≡ Some s.saved = told_is_saved start first (step (saved_files 1) ∷ []) [] crash is (told ∙ ap (λ (l : List ℕ). l ++ codes "burst 1\n") (sym none)) in
      let same : Some first ≡ Some s.saved = sym recovers ∙ saved in
      other (cc)

  -- what each save leaves as it was is the same in all books saved, and what a save changes isn't
  no_save_changes_it : (name : List ℕ) → IsSameInAll s.saved (step done ∷ step (saved_files 1) ∷ []) name
  no_save_changes_it name = (refl, (refl, tt))

  a_save_changes_it : (first : Book) (name : List ℕ) → s.saved name ≢ first name → IsSameInAll first (step done ∷ step (saved_files 1) ∷ []) name → ⊥
  a_save_changes_it first name other is = other is.0

  -- a file that no book saved has isn't there after a crash
  made_by_no_save : (start : DiskState) (crash : CrashState) (name bytes : List ℕ) → s.saved name ≡ None → crash.image (desk_name.Book name) ≡ Some bytes → IsOfOneBurst start s.saved (step (saved_files 1) ∷ []) [] crash → ⊥
  made_by_no_save start crash name bytes none there is =
      let bad : None ≡ Some bytes = sym none ∙ sym (is.others name (refl, tt)) ∙ there in
      cc

-- `text /1/1 0 2 "a"` and `burst`
two_are_asked : AreCommandsOf (script.edit_text record { numbers = 1 ∷ 1 ∷ []; carets = 0 } 0 2 (codes "a") ∷ script.burst ∷ []) (edit (text_edit (1 ∷ 1 ∷ []) 0 2 (97 ∷ [])) ∷ burst ∷ [])
unfolding chars
two_are_asked = ((refl, refl), (refl, refl))

-- with `^` behind its place an edit asks nothing of the session
no_caret : (command : Command) → IsCommandOf (script.edit_text record { numbers = 1 ∷ 1 ∷ []; carets = 1 } 0 2 (codes "a")) command → ⊥
no_caret command is =
    let bad : ◌≡◌ {A = ℕ} 1 0 = is.0 in
    absurd (cc)

-- `tree` asks nothing of the session
nothing_is_asked : (command : Command) → IsCommandOf script.tree command → ⊥
nothing_is_asked command is = is

-- a source of which a part was left was not read to its end
part_left : IsInput 1048577 (codes "ab") (Some (codes "b")) (codes "a") → ⊥
part_left is = elim is.whole as (λ _. ⊥) [
  | inl none ↦
      let same : ◌≡◌ {A = Option (List ℕ)} (Some (codes "b")) (Some []) = is.after_is ∙ ap (λ (l : List ℕ). Some l) none in
      absurd (cc)
  | inr most ↦ omega (arith, most)
]
