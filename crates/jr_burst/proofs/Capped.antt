-- What is read with a cap says what stands there.
use Rattle.std.proofs.Common.{◌≡◌, ℕ, List, length, Bool, true, false, leb, Option, Some, None, refl, sym, arith}
use Rattle.std.specs.Prelude.{nat_eq}
use Rattle.std.specs.Cmp.Lexicographic.{pointwise, unequal}
use Rattle.std.proofs.lemmas.Bool.{leb-false}
use Rattle.bk_desk.specs.Disk.{got_of}
use Rattle.jr_form.specs.Journal.{most_journal_bytes}
use Rattle.jr_form.specs.Reading.{reading}
use Rattle.jr_burst.specs.SavedFiles.{open_text, is_open_gate, items_in}
use Rattle.jr_burst.specs.Recover.{got_is_open, items_got}

pub gate_read : (file : Option (List ℕ)) → got_is_open (got_of file 5) ≡ is_open_gate file
gate_read None = refl
gate_read (Some bytes) = by (leb (length bytes) 5) refl
  where
    by : (b : Bool) → leb (length bytes) 5 ≡ b → got_is_open (got_of (Some bytes) 5) ≡ pointwise nat_eq bytes open_text
    by true is = rw is refl
    by false is = rw is (sym (unequal nat_eq bytes open_text (λ (e : length bytes ≡ 4). absurd (omega (arith, leb-false _ _ is, e)))))

too_long : (bytes : List ℕ) → leb (length bytes) most_journal_bytes ≡ false → reading bytes ≡ None
unfolding reading
too_long bytes is = rw is refl

pub items_read : (file : Option (List ℕ)) → items_got (got_of file most_journal_bytes) ≡ items_in file
items_read None = refl
items_read (Some bytes) = by (leb (length bytes) most_journal_bytes) refl
  where
    by : (b : Bool) → leb (length bytes) most_journal_bytes ≡ b → items_got (got_of (Some bytes) most_journal_bytes) ≡ reading bytes
    by true is = rw is refl
    by false is = rw is (sym (too_long bytes is))
