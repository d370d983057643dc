-- The output of a run with commands, on right and on wrong cases.
use Rattle.std.proofs.Common.{◌≡◌, ◌≢◌, Option, ℕ, List, [], ◌∷◌, ◌++◌, refl, ap, arith, codes, true, false, Some, None, inl, inr}
use Rattle.std.proofs.lemmas.Fmt.{decimal_digit}
use Rattle.std.specs.Str.{is_utf8, chars}
use Rattle.std.proofs.Math.Utf8.{encode}
use Rattle.ed_spec.specs.Book.{Book}
use Rattle.ed_spec.specs.Edit.{bad_range}
use Rattle.ed_spec.specs.Session.{Session, done, refused}
use Rattle.bk_desk.specs.declared.desk_name.DeskName.TheVariants as desk
use Rattle.bk_desk.specs.Disk.{DiskImage, DiskState, CrashState, IsCrashImage}
use Rattle.bk_script.specs.Script.{IsScript, ScriptFault, bad_line, IsFaultOf}
use Rattle.bk_script.specs.Reading.{command_at, line_of, lines_of, lines_read, parts_of, script_read, word_at}
use Rattle.bk_script.proofs.Theorems.{script_takes, no_fault}
use Rattle.jr_burst.specs.SavedFiles.{open_text}
use Rattle.bk_spec.specs.Fault as fault
use Rattle.bk_spec.specs.FirstFault as first
use Rattle.book_cli.specs.Output.{usage_line, journal_line, script_fault_line, status_after, closed, BookOutput, ScriptOutput, damaged, IsOutput, is_exit_status}
use Rattle.book_cli.specs.Leaves.{RecoveredBook, is_still, recovers_book, MayCrashIn, early, still, recovering, saving}
use Rattle.book_cli.specs.Ends.{AnswersWith, whole, cut}
use Rattle.book_cli.proofs.OutputLemmas.{none_some}

-- without words the usage line, and no other
usage : (bytes : List ℕ) (files : DiskImage) → IsOutput [] bytes files 2 usage_line
usage bytes files = (refl, refl)

no_other : (bytes : List ℕ) (files : DiskImage) → IsOutput [] bytes files 3 usage_line → ⊥
no_other bytes files output = let bad : ◌≡◌ {A = ℕ} 3 2 = output.0 in absurd (cc)

-- the line of a fault of a script
script_line : script_fault_line (bad_line 2) ≡ codes "fault script line 2\n"
script_line = ap (λ (digits : List ℕ). codes "fault script line " ++ digits ++ codes "\n") (decimal_digit 2 (omega arith))

-- 1 where a command was refused
accepted : (s : Session) → status_after (record { reply = done; session = s } ∷ []) ≡ 0
accepted s = refl

refused_one : (s : Session) → status_after (record { reply = done; session = s } ∷ record { reply = refused bad_range; session = s } ∷ []) ≡ 1
refused_one s = refl

-- a root that isn't there
absent : (book : Book) → book (codes "a.xml") ≡ None → BookOutput (codes "a.xml") [] book 3 (codes "fault Missing a.xml\n")
absent book none = ([], codes "fault Missing a.xml\n", closed (fault.missing (codes "a.xml")) (first.absent none refl) refl refl refl, refl)

-- an open gate with no journal beside it
abbrev gate_alone : DiskImage
gate_alone desk.Gate = Some open_text
gate_alone _ = None

no_commands : IsScript [] []
unfolding script_read lines_read lines_of parts_of line_of is_utf8 chars encode command_at word_at
no_commands = script_takes [] [] refl

no_journal : (root : List ℕ) → ScriptOutput root [] gate_alone 8 journal_line
no_journal root = damaged [] no_commands refl refl refl

-- 6 and 7 come with no whole output
of_an_output : is_exit_status 8 ≡ true
of_an_output = refl

of_none : is_exit_status 6 ≡ false
of_none = refl

-- a text that was told whole, and in part
told_whole : AnswersWith 0 (codes "ok\n") [] (codes "ok\n") 0
told_whole = whole refl refl

told_in_part : AnswersWith 0 (codes "ok\n") [] (codes "o") 6
told_in_part = cut (inl refl) 1 refl

-- with its status it is whole
not_in_part : AnswersWith 0 (codes "ok\n") [] (codes "o") 0 → ⊥
not_in_part (whole is told) = absurd (cc)
not_in_part (cut (inl is) count told) = absurd (cc)
not_in_part (cut (inr is) count told) = absurd (cc)

-- with 4 no book was recovered, with 3 one was
four_is_still : is_still 4 ≡ true
four_is_still = refl

three_is_not : is_still 3 ≡ false
three_is_not = refl

three_recovers : recovers_book 3 ≡ true
three_recovers = refl

-- where the words have no reading, a crash leaves what one at the start could
no_reading : (bytes : List ℕ) (start : DiskState) (crash : CrashState) → MayCrashIn None bytes start crash → IsCrashImage start crash.image
no_reading bytes start crash (early is) = is.image
no_reading bytes start crash (still status text gives is at) = at.image
no_reading bytes start crash (recovering of at) = absurd (none_some (List ℕ) of.name None refl of.named)
no_reading bytes start crash (saving of steps last status run at) = absurd (none_some (List ℕ) of.name None refl of.named)

-- where words, script and files recover no book, a crash leaves no file touched, pending ones apart: a script without a
-- reading, say, which is judged before any file is
touches_none : (root : Option (List ℕ)) (bytes : List ℕ) (start : DiskState) (crash : CrashState) → (RecoveredBook root bytes start.files → ⊥) → MayCrashIn root bytes start crash → IsCrashImage start crash.image
touches_none root bytes start crash never (early is) = is.image
touches_none root bytes start crash never (still status text gives is at) = at.image
touches_none root bytes start crash never (recovering of at) = absurd (never of)
touches_none root bytes start crash never (saving of steps last status run at) = absurd (never of)

no_script : (bytes : List ℕ) (fault : ScriptFault) → IsFaultOf bytes fault → (files : DiskImage) (root : Option (List ℕ)) → RecoveredBook root bytes files → ⊥
no_script bytes fault has files root of = no_fault bytes of.commands fault of.reads has

-- so a run that touches a file before its script is read is none
touches_early : (root : Option (List ℕ)) (bytes name : List ℕ) (fault : ScriptFault) (start : DiskState) (crash : CrashState) → IsFaultOf bytes fault
    → start.pending (desk.Book name) ≡ false → crash.image (desk.Book name) ≢ start.files (desk.Book name) → MayCrashIn root bytes start crash → ⊥
touches_early root bytes name fault start crash has settled touched at =
    touched (touches_none root bytes start crash (no_script bytes fault has start.files root) at (desk.Book name) settled)
