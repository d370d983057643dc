-- What the definition of a crash says of output that was told whole.
use Rattle.std.proofs.Common.{◌≡◌, ◌∙◌, ℕ, List, [], ◌∷◌, ◌++◌, Some, length, take, refl, sym, ap, arith, ⊎_elim, length-append}
use Rattle.std.proofs.lemmas.List.{append-nil}
use Rattle.bk_desk.specs.Disk.{DiskState, CrashState}
use Rattle.jr_burst.specs.SavedFiles.{recovered_files}
use Rattle.ed_spec.specs.Book.{Book}
use Rattle.ed_spec.specs.Session.{Step}
use Rattle.bk_run.specs.Replies.{reply_text, replies_text}
use Rattle.bk_run.specs.Stops.{saved_after, saved_next, IsCut, IsOfOneBurst}
use Rattle.bk_run.proofs.TellingLemmas.{replies_text-append}

none_left : (front : List ℕ) (rest : List Step) → IsCut front rest → length front ≡ length (replies_text rest) → rest ≡ []
none_left front [] cut same = refl
none_left front (step ∷ rest) cut same =
    let never : ⊥ = omega (arith, cut, same, length-append (reply_text step.reply) (replies_text rest)) in
    absurd never

pub told_is_saved : (start : DiskState) (first : Book) (steps : List Step) (more : List ℕ) (crash : CrashState) → IsOfOneBurst start first steps more crash → crash.told ≡ start.told ++ replies_text steps → recovered_files crash.image ≡ Some (saved_after first steps)
told_is_saved start first steps more crash is told =
    ⊎_elim (λ (e : recovered_files crash.image ≡ Some (saved_after first is.whole)). e ∙ all_whole) (λ (e : recovered_files crash.image ≡ Some (saved_next (saved_after first is.whole) is.rest)). e ∙ ap (λ (l : List Step). Some (saved_next (saved_after first is.whole) l)) none ∙ all_whole) is.recovers
  where
    none : is.rest ≡ []
    none =
        none_left (take is.count (replies_text is.rest ++ more)) is.rest is.cut
        (omega (arith, ap length (sym is.told ∙ told), length-append start.told (replies_text is.whole ++ take is.count (replies_text is.rest ++ more)), length-append start.told (replies_text steps), length-append (replies_text is.whole) (take is.count (replies_text is.rest ++ more)), ap length (ap replies_text is.parts ∙ replies_text-append is.whole is.rest), length-append (replies_text is.whole) (replies_text is.rest)))

    all_whole : Some (saved_after first is.whole) ≡ Some (saved_after first steps)
    all_whole = ap (λ (l : List Step). Some (saved_after first l)) (sym (append-nil is.whole) ∙ ap (λ (l : List Step). is.whole ++ l) (sym none) ∙ sym is.parts)
