-- What one byte more adds to lines and columns.
use Rattle.std.proofs.Common.{◌≡◌, ℕ, ◌+◌, Bool, true, false, not, ◌&&◌, ◌||◌, ◌==◌, List, [], ◌∷◌, ◌++◌, cond, reverse, count_by, refl, sym, ap, ◌∙◌, append_assoc, zero-add, subst, arith}
use Rattle.std.specs.List.{take_while}
use Rattle.std.proofs.lemmas.List.{reverse-append}
use Rattle.std.proofs.lemmas.List.Sums.{take_while-cons, sum_by-append}
use Rattle.xt_spec.specs.LineEnds.{lines_read, lines_read_behind}
use Rattle.book_where.specs.Position.{is_line_end, last_line, begins_character, ends_line, fills_column, Reached}

abbrev is_other : ℕ → Bool
is_other b = not (is_line_end b)

count-snoc : (p : ℕ → Bool) (xs : List ℕ) (b : ℕ) → count_by p (xs ++ b ∷ []) ≡ count_by p xs + cond (p b) 1 0
count-snoc p xs b = sum_by-append (λ x. cond (p x) 1 0) xs (b ∷ []) ∙ ap (λ n. count_by p xs + n) (zero-add (cond (p b) 1 0))

last-line-end : (lines : List ℕ) → last_line (lines ++ 0xA ∷ []) ≡ []
last-line-end lines = ap (λ r. reverse (take_while is_other r)) (reverse-append lines (0xA ∷ [])) ∙ ap reverse (take_while-cons is_other 0xA (reverse lines))

last-line-more : (lines : List ℕ) (b : ℕ) → is_line_end b ≡ false → last_line (lines ++ b ∷ []) ≡ last_line lines ++ b ∷ []
last-line-more lines b e =
    ap (λ r. reverse (take_while is_other r)) (reverse-append lines (b ∷ []))
    ∙ ap reverse (take_while-cons is_other b (reverse lines))
    ∙ ap (λ v. reverse (cond (not v) (b ∷ take_while is_other (reverse lines)) [])) e
    ∙ reverse-append (b ∷ []) (take_while is_other (reverse lines))

-- what stands behind a CR or not before a byte, as the tests of the byte say
behind-byte : (cr : Bool) (b : ℕ) (rest : List ℕ) (is_cr is_lf : Bool) → (b == 0xD) ≡ is_cr → (b == 0xA) ≡ is_lf
    → lines_read_behind cr (b ∷ rest)
    ≡ cond is_cr (0xA ∷ lines_read_behind true rest) (cond is_lf (cond cr (lines_read_behind false rest) (0xA ∷ lines_read_behind false rest)) (b ∷ lines_read_behind false rest))
behind-byte cr b rest is_cr is_lf e f = rw (e, f) refl

-- behind a line end more
with-line-end : (text rest lines : List ℕ) (cr : Bool) (line : ℕ) → lines_read text ≡ lines ++ 0xA ∷ lines_read_behind cr rest
    → line ≡ 1 + count_by is_line_end lines → Reached text rest cr (line + 1) 1
with-line-end text rest lines cr line are is = record {
  lines = lines ++ 0xA ∷ [];
  are = are ∙ sym (append_assoc lines (0xA ∷ []) (lines_read_behind cr rest));
  line_is = (let e : count_by is_line_end (lines ++ 0xA ∷ []) ≡ count_by is_line_end lines + 1 = count-snoc is_line_end lines 0xA in omega arith);
  column_is = sym (ap (λ l. 1 + count_by begins_character l) (last-line-end lines));
}

-- behind another byte more
with-byte : (text rest lines : List ℕ) (b line column : ℕ) → lines_read text ≡ lines ++ b ∷ lines_read_behind false rest
    → is_line_end b ≡ false → line ≡ 1 + count_by is_line_end lines → column ≡ 1 + count_by begins_character (last_line lines)
    → Reached text rest false line (column + cond (begins_character b) 1 0)
with-byte text rest lines b line column are other line_is column_is = record {
  lines = lines ++ b ∷ [];
  are = are ∙ sym (append_assoc lines (b ∷ []) (lines_read_behind false rest));
  line_is = (let e : count_by is_line_end (lines ++ b ∷ []) ≡ count_by is_line_end lines + cond (is_line_end b) 1 0 = count-snoc is_line_end lines b in
      let f : cond {A = ℕ} (is_line_end b) 1 0 ≡ 0 = ap (λ v. cond {A = ℕ} v 1 0) other in omega arith);
  column_is = (let e : count_by begins_character (last_line (lines ++ b ∷ [])) ≡ count_by begins_character (last_line lines) + cond (begins_character b) 1 0
      = ap (count_by begins_character) (last-line-more lines b other) ∙ count-snoc begins_character (last_line lines) b in omega arith);
}

-- .. by the tests of the byte
reached-end-by : (text rest : List ℕ) (b line column : ℕ) (cr is_cr is_lf : Bool) → (b == 0xD) ≡ is_cr → (b == 0xA) ≡ is_lf
    → (is_cr || (is_lf && not cr)) ≡ true → Reached text (b ∷ rest) cr line column → Reached text rest is_cr (line + 1) 1
reached-end-by text rest b line column cr true is_lf e f ends r =
    with-line-end text rest r.lines true line (r.are ∙ ap (λ l. r.lines ++ l) (behind-byte cr b rest true is_lf e f)) r.line_is
reached-end-by text rest b line column false false true e f ends r =
    with-line-end text rest r.lines false line (r.are ∙ ap (λ l. r.lines ++ l) (behind-byte false b rest false true e f)) r.line_is
reached-end-by text rest b line column true false true e f ends r = cc
reached-end-by text rest b line column cr false false e f ends r = cc

pub reached-end : (text rest : List ℕ) (b line column : ℕ) (cr : Bool) → ends_line cr b ≡ true → Reached text (b ∷ rest) cr line column
    → Reached text rest (b == 0xD) (line + 1) 1
reached-end text rest b line column cr = reached-end-by text rest b line column cr (b == 0xD) (b == 0xA) refl refl

reached-other-by : (text rest : List ℕ) (b line column : ℕ) (cr is_cr is_lf fills : Bool) → (b == 0xD) ≡ is_cr → (b == 0xA) ≡ is_lf
    → (is_cr || (is_lf && not cr)) ≡ false → (not is_lf && begins_character b) ≡ fills → Reached text (b ∷ rest) cr line column
    → Reached text rest is_cr line (column + cond fills 1 0)
reached-other-by text rest b line column cr true is_lf fills e f ends g r = cc
reached-other-by text rest b line column false false true fills e f ends g r = cc
reached-other-by text rest b line column true false true true e f ends g r = cc
reached-other-by text rest b line column true false true false e f ends g r = record {
  lines = r.lines;
  are = r.are ∙ ap (λ l. r.lines ++ l) (behind-byte true b rest false true e f);
  line_is = r.line_is;
  column_is = (let e : column ≡ 1 + count_by begins_character (last_line r.lines) = r.column_is in omega arith);
}
reached-other-by text rest b line column cr false false fills e f ends g r =
    let P : ℕ → Type 0 = λ n. Reached text rest false line (column + n) in
    subst P (ap (λ v. cond v 1 0) g)
    (with-byte text rest r.lines b line column (r.are ∙ ap (λ l. r.lines ++ l) (behind-byte cr b rest false false e f)) f r.line_is r.column_is)

pub reached-more : (text rest : List ℕ) (b line column : ℕ) (cr : Bool) → ends_line cr b ≡ false → fills_column b ≡ true
    → Reached text (b ∷ rest) cr line column → Reached text rest (b == 0xD) line (column + 1)
reached-more text rest b line column cr ends fills = reached-other-by text rest b line column cr (b == 0xD) (b == 0xA) true refl refl ends fills

pub reached-same : (text rest : List ℕ) (b line column : ℕ) (cr : Bool) → ends_line cr b ≡ false → fills_column b ≡ false
    → Reached text (b ∷ rest) cr line column → Reached text rest (b == 0xD) line column
reached-same text rest b line column cr ends fills r =
    let P : ℕ → Type 0 = λ n. Reached text rest (b == 0xD) line n in
    let e : column + 0 ≡ column = omega arith in
    subst P e (reached-other-by text rest b line column cr (b == 0xD) (b == 0xA) false refl refl ends fills r)
