-- The URI of a file of a base is a valid, canonical URL.
use Rattle.std.proofs.Common.{◌≡◌, ◌≢◌, ℕ, ◌+◌, ◌<◌, true, false, not, ◌||◌, ◌==◌, List, [], ◌∷◌, ◌++◌, length, take, Some, None, Ok, All, sym, refl, ap, ◌∙◌, subst, inl, ⊎_elim, append_assoc, arith, length-append, drop_at, take_at, lit<}
use Rattle.std.specs.Prelude.{codes, bytes_eq, slice_index}
use Rattle.std.specs.List.{list_all, onto_first, join_with_byte}
use Rattle.std.proofs.lemmas.Bool.{cond-true, cond-false, cases_Bool, cases_eq, ne_eqb, eq-eqb, and_parts, true≢false}
use Rattle.std.proofs.lemmas.Bool.Decides.{nat_tests}
use Rattle.std.proofs.lemmas.List.Elements.{All-nil, All-cons, All-head, All-tail, All-weaker, All-get_or, All-take}
use Rattle.std.proofs.lemmas.List.Splits.{join_with_byte-slice_split}
use Rattle.percent_encoding.specs.Percent.{IsKept, percent_encode}
use Rattle.percent_encoding.proofs.AsciiSetLemmas.{kept_from_outside, outside_from_kept}
use Rattle.percent_encoding.proofs.PercentLemmas.{IsByte, percent_encode-append, percent_encode_kept, All-percent_encode, round_trip}
use Rattle.url.specs.declared.sets.TheConstants.{PATH}
use Rattle.url.specs.declared.scheme.SchemeType.{SchemeType}
use Rattle.url.specs.declared.scheme.SchemeType.TheVariants.{File, SpecialNotFile, NotSpecial}
use Rattle.url.specs.Scheme.{is_special, is_slash}
use Rattle.url.specs.Path.{segment_len, is_windows_drive_letter, IsSegment, IsSegmentList}
use Rattle.url.specs.Parts.{Parts, kind_of, has_authority, serialize, IsValid}
use Rattle.url.specs.Canonical.{IsCanonical, IsCanonicalAs, first_segment}
use Rattle.url.proofs.InputLemmas.{IsNot, rsplit_once_at, list_any_none}
use Rattle.url.proofs.ValidLemmas.{hierarchical, special_has_authority, base_from_authority}
use Rattle.url.proofs.Theorems.{parse_url-serialize}
use Rattle.url.specs.Parser.{parse_url}
use Rattle.url.specs.Input.{rsplit_once}
use Rattle.std.specs.Prelude.{unwrap_or, nat_eq}
use Rattle.std.specs.List.{starts_with}
use Rattle.std.proofs.Math.Numerals.{one-add}
use Rattle.bk_name.specs.Uri.{ReadsBack}
use Rattle.bk_name.specs.Base.{uri_text, has_tail, name_spelled, name_in}
use Rattle.bk_name.proofs.FileNameLemmas.{name_bytes, file_name_parts}
use Rattle.bk_name.proofs.EscapeLemmas.{percent_encode-escaped_name}
use Rattle.bk_name.proofs.UriLemmas.{uri_from_canonical, serialize-more, same_bytes}
use Rattle.url.proofs.SetLemmas.{encoded_is_kept, kept_differs}
use Rattle.url.proofs.PathLemmas.{IsNoSlash, encoded_no_slash, dots_from_encoded, push_valid, without_last_valid}
use Rattle.url.proofs.LayoutLemmas.{IsValidHead_same}
use Rattle.bk_name.specs.FileName.{is_file_name, is_segment, segments_of}
use Rattle.bk_name.specs.declared.file_uri.TheConstants.{NAME_ESCAPES}

abbrev pub escaped : List ℕ → List ℕ
escaped name = percent_encode NAME_ESCAPES name

-- ---- segments

-- a byte, and no slash
pub record IsSegmentByte (b : ℕ) : Type 0 where
  pub byte : IsByte b
  pub other : IsNot 47 b

-- no slash, and neither `.` nor `..`
pub record IsFileSegment (s : List ℕ) : Type 0 where
  pub bytes : All IsSegmentByte s
  pub one_dot : s ≢ codes "."
  pub two_dots : s ≢ codes ".."

pub segment_escaped : (kind : SchemeType) (s : List ℕ) → IsFileSegment s → IsSegment kind (escaped s)
segment_escaped kind s segment = record {
  escaped = encoded_is_kept NAME_ESCAPES PATH refl refl s;
  whole = encoded_no_slash kind NAME_ESCAPES s
      (All-weaker IsSegmentByte (λ b. IsKept NAME_ESCAPES b → IsNoSlash kind b)
      (λ b h kept. rw (ne_eqb b 47 h.other, ne_eqb b 92 (kept_differs NAME_ESCAPES 92 refl b kept)) refl) s segment.bytes);
  resolved = ⊎_elim (λ none. none)
      (λ dots. ⊎_elim (λ kept. absurd (true≢false (outside_from_kept NAME_ESCAPES 37 kept))) (⊎_elim (λ one. absurd (segment.one_dot one)) (λ two. absurd (segment.two_dots two))) dots.1)
      (dots_from_encoded NAME_ESCAPES s (kept_from_outside NAME_ESCAPES 46 (lit< tt) refl) (All-weaker IsSegmentByte IsByte (λ b h. h.byte) s segment.bytes));
}

pub escaped-slash : (s rest : List ℕ) → escaped (s ++ 47 ∷ rest) ≡ escaped s ++ 47 ∷ escaped rest
escaped-slash s rest =
    percent_encode-append NAME_ESCAPES s (47 ∷ rest)
    ∙ ap (λ l. escaped s ++ l) (percent_encode_kept NAME_ESCAPES 47 rest (kept_from_outside NAME_ESCAPES 47 (lit< tt) refl))

-- the segments of a name, escaped, one after the other
segments_valid : (kind : SchemeType) (path s : List ℕ) (others : List (List ℕ)) → IsSegmentList kind path → IsFileSegment s → All IsFileSegment others → IsSegmentList kind (path ++ 47 ∷ escaped (join_with_byte 47 (s ∷ others)))
segments_valid kind path s [] list here after = push_valid kind path (escaped s) list (segment_escaped kind s here)
segments_valid kind path s (t ∷ others) list here after =
    let next = segments_valid kind (path ++ 47 ∷ escaped s) t others (push_valid kind path (escaped s) list (segment_escaped kind s here))
    (All-head IsFileSegment t others after) (All-tail IsFileSegment t others after) in
    subst (IsSegmentList kind)
    (append_assoc path (47 ∷ escaped s) _ ∙ ap (λ l. path ++ 47 ∷ l) (sym (escaped-slash s (join_with_byte 47 (t ∷ others)))))
    next

-- ---- the parts of a name

onto_first_all : (x : ℕ) (parts : List (List ℕ)) → IsSegmentByte x → All (All IsSegmentByte) parts → All (All IsSegmentByte) (onto_first x parts)
onto_first_all x [] here parts = All-cons (All IsSegmentByte) (x ∷ []) [] (All-cons IsSegmentByte x [] here (All-nil IsSegmentByte)) (All-nil (All IsSegmentByte))
onto_first_all x (p ∷ parts) here each =
    All-cons (All IsSegmentByte) (x ∷ p) parts (All-cons IsSegmentByte x p here (All-head (All IsSegmentByte) p parts each)) (All-tail (All IsSegmentByte) p parts each)

parts_bytes : (xs : List ℕ) → All IsByte xs → All (All IsSegmentByte) (segments_of xs)
parts_bytes [] bytes = All-cons (All IsSegmentByte) [] [] (All-nil IsSegmentByte) (All-nil (All IsSegmentByte))
parts_bytes (x ∷ xs) bytes =
    let others = parts_bytes xs (All-tail IsByte x xs bytes) in
    ⊎_elim
    (λ slash. subst (All (All IsSegmentByte)) (sym (cond-true _ _ _ (eq-eqb x 47 slash))) (All-cons (All IsSegmentByte) [] (segments_of xs) (All-nil IsSegmentByte) others))
    (λ other. subst (All (All IsSegmentByte)) (sym (cond-false _ _ _ (ne_eqb x 47 other))) (onto_first_all x (segments_of xs) (record { byte = All-head IsByte x xs bytes; other = other }) others))
    (cases_eq x 47)

file_segment : (s : List ℕ) → All IsSegmentByte s → is_segment s ≡ true → IsFileSegment s
file_segment s bytes passes = record {
  bytes = bytes;
  one_dot = λ same. true≢false (sym passes ∙ ap is_segment same);
  two_dots = λ same. true≢false (sym passes ∙ ap is_segment same);
}

file_segments : (parts : List (List ℕ)) → All (All IsSegmentByte) parts → list_all is_segment parts ≡ true → All IsFileSegment parts
file_segments [] bytes passes = All-nil IsFileSegment
file_segments (s ∷ parts) bytes passes =
    let both = and_parts (is_segment s) (list_all is_segment parts) passes in
    All-cons IsFileSegment s parts (file_segment s (All-head (All IsSegmentByte) s parts bytes) both.0)
    (file_segments parts (All-tail (All IsSegmentByte) s parts bytes) both.1)

-- ---- the path of a file

parts_valid : (kind : SchemeType) (path : List ℕ) (parts : List (List ℕ)) → IsSegmentList kind path → 0 < length parts → All IsFileSegment parts → IsSegmentList kind (path ++ 47 ∷ escaped (join_with_byte 47 parts))
parts_valid kind path [] list some each = absurd (omega arith)
parts_valid kind path (s ∷ parts) list some each =
    segments_valid kind path s parts list (All-head IsFileSegment s parts each) (All-tail IsFileSegment s parts each)

some_part : (x : ℕ) (parts : List (List ℕ)) → 0 < length (onto_first x parts)
some_part x [] = lit< tt
some_part x (p ∷ parts) = omega arith

some_parts : (xs : List ℕ) → 0 < length (segments_of xs)
some_parts [] = lit< tt
some_parts (x ∷ xs) =
    ⊎_elim
    (λ slash. subst (λ l. 0 < length l) (sym (cond-true _ _ _ (eq-eqb x 47 slash))) (omega arith))
    (λ other. subst (λ l. 0 < length l) (sym (cond-false _ _ _ (ne_eqb x 47 other))) (some_part x (segments_of xs)))
    (cases_eq x 47)

-- what a name is to the proofs here
pub record IsFileName (name : List ℕ) : Type 0 where
  pub bytes : All IsByte name
  pub is : is_file_name name ≡ true

pub file_name : (name : List ℕ) → is_file_name name ≡ true → IsFileName name
file_name name is = record { bytes = name_bytes name is; is = is }

-- the path of the file below a directory
pub file_path_valid : (kind : SchemeType) (path name : List ℕ) → IsSegmentList kind path → IsFileName name → IsSegmentList kind (path ++ 47 ∷ escaped name)
file_path_valid kind path name list file =
    subst (λ n. IsSegmentList kind (path ++ 47 ∷ escaped n)) (join_with_byte-slice_split 47 name)
    (parts_valid kind path (segments_of name) list (some_parts name) (file_segments (segments_of name) (parts_bytes name file.bytes) (file_name_parts name file.is).segments))

-- ---- the URL of a file

-- a directory as its base: a canonical special URL whose path ends in a slash, with no query and no fragment
pub record IsDirectory (base : Parts) : Type 0 where
  pub valid : IsValid base
  pub canonical : IsCanonical base
  pub special : is_special (kind_of base) ≡ true
  pub parent : List ℕ
  pub slash : base.path ≡ parent ++ 47 ∷ []
  pub query : base.query ≡ None
  pub fragment : base.fragment ≡ None

abbrev pub file_url : Parts → List ℕ → Parts
file_url base name = record base { path = base.path ++ escaped name }

-- the first segment before a slash does not depend on what follows the slash
front_segment : (r x y : List ℕ) → take (segment_len File (r ++ 47 ∷ x)) (r ++ 47 ∷ x) ≡ take (segment_len File (r ++ 47 ∷ y)) (r ++ 47 ∷ y)
front_segment [] x y = refl
front_segment (a ∷ r) x y =
    let cut = λ (l : List ℕ). take (segment_len File l) l in
    ⊎_elim
    (λ passes.
    let more = λ (l : List ℕ). ap (λ n. take n (a ∷ l)) (cond-true _ (1 + segment_len File l) 0 passes ∙ one-add (segment_len File l)) in
    more (r ++ 47 ∷ x) ∙ ap (λ l. a ∷ l) (front_segment r x y) ∙ sym (more (r ++ 47 ∷ y)))
    (λ stops.
    let none = λ (l : List ℕ). ap (λ n. take n (a ∷ l)) (cond-false _ (1 + segment_len File l) 0 stops) in
    none (r ++ 47 ∷ x) ∙ sym (none (r ++ 47 ∷ y)))
    (cases_Bool (not (is_slash File a)))

-- a drive letter is written with a colon
abbrev WritesDrive : List ℕ → Type 0
WritesDrive s = is_windows_drive_letter s ≡ true → slice_index s 1 ≡ 58

no_bar : (name : List ℕ) → All (IsNot 124) (escaped name)
no_bar name = All-percent_encode (IsNot 124) NAME_ESCAPES name (kept_differs NAME_ESCAPES 124 refl) (λ b escape same. grind arith)

writes_drive : (s : List ℕ) → All (IsNot 124) s → WritesDrive s
unfolding is_windows_drive_letter
writes_drive s none = λ drive.
    let long : 1 < length s = grind (arith, nat_tests) in
    let other = All-get_or (IsNot 124) s 1 0 long none in
    grind (arith, nat_tests)

file_drive : (parent name : List ℕ) → WritesDrive (first_segment File (parent ++ 47 ∷ [])) → WritesDrive (first_segment File ((parent ++ 47 ∷ []) ++ escaped name))
file_drive [] name old = writes_drive _ (All-take (IsNot 124) (segment_len File (escaped name)) (escaped name) (no_bar name))
file_drive (a ∷ r) name old =
    subst WritesDrive
    (front_segment r [] (escaped name) ∙ ap (λ l. take (segment_len File l) l) (sym (append_assoc r (47 ∷ []) (escaped name))))
    old

canonical_as : (kind : SchemeType) (base : Parts) (name parent : List ℕ) → is_special kind ≡ true → base.path ≡ parent ++ 47 ∷ [] → IsCanonicalAs kind base → IsCanonicalAs kind (file_url base name)
canonical_as File base name parent special slash canonical = record {
  host = canonical.host;
  drive = subst (λ p. WritesDrive (first_segment File (p ++ escaped name))) (sym slash)
      (file_drive parent name (subst (λ p. WritesDrive (first_segment File p)) slash canonical.drive));
}
canonical_as SpecialNotFile base name parent special slash canonical = tt
canonical_as NotSpecial base name parent special slash canonical = absurd (true≢false (sym special))

module _ (base : Parts) (name : List ℕ) (dir : IsDirectory base) (file : IsFileName name) where
  authority : has_authority base ≡ true
  authority = special_has_authority base dir.valid.head dir.special

  path_list : IsSegmentList (kind_of base) base.path
  path_list = (hierarchical base dir.valid.path (base_from_authority base authority)).0

  parent_list : IsSegmentList (kind_of base) dir.parent
  parent_list =
      let cut = ap (λ r. unwrap_or r.0 []) (ap (rsplit_once 47) dir.slash ∙ rsplit_once_at 47 dir.parent [] (All-nil (IsNot 47))) in
      subst (IsSegmentList (kind_of base)) cut (without_last_valid (kind_of base) base.path path_list)

  longer_path : base.path ++ escaped name ≡ dir.parent ++ 47 ∷ escaped name
  longer_path = ap (λ p. p ++ escaped name) dir.slash ∙ append_assoc dir.parent (47 ∷ []) (escaped name)

  pub file_url-valid : IsValid (file_url base name)
  file_url-valid = record {
    head = IsValidHead_same base (file_url base name) refl dir.valid.head;
    path = inl (
      subst (IsSegmentList (kind_of base)) (sym longer_path) (file_path_valid (kind_of base) dir.parent name parent_list file),
      λ _. rw longer_path (omega (arith, length-append dir.parent (47 ∷ escaped name))),
    );
    query = dir.valid.query;
    fragment = dir.valid.fragment;
  }

  pub file_url-canonical : IsCanonical (file_url base name)
  file_url-canonical = canonical_as (kind_of base) base name dir.parent dir.special dir.slash dir.canonical

  -- its text is the text of the base, and behind it the escaped name
  pub serialize-file_url : serialize (file_url base name) ≡ uri_text (serialize base) name
  serialize-file_url =
      serialize-more base (escaped name) authority dir.query dir.fragment ∙ ap (λ e. serialize base ++ e) (percent_encode-escaped_name name)

  -- `url` reads that text as this URL
  pub parse_url-uri_text : parse_url None (uri_text (serialize base) name) ≡ Ok (file_url base name)
  parse_url-uri_text =
      ap (parse_url None) (sym serialize-file_url) ∙ parse_url-serialize (file_url base name) None file_url-valid file_url-canonical

  pub ReadsBack-uri_text : ReadsBack (uri_text (serialize base) name)
  ReadsBack-uri_text = subst ReadsBack serialize-file_url (uri_from_canonical (file_url base name) file_url-valid file_url-canonical)

-- ---- the name of a URI

no_tail : (name : List ℕ) → has_tail (escaped name) ≡ false
no_tail name =
    let P = λ (b : ℕ). (b == 63 || b == 35) ≡ false in
    list_any_none (λ b. b == 63 || b == 35) (escaped name)
    (All-percent_encode P NAME_ESCAPES name
    (λ b kept. rw (ne_eqb b 63 (kept_differs NAME_ESCAPES 63 refl b kept), ne_eqb b 35 (kept_differs NAME_ESCAPES 35 refl b kept)) refl)
    (λ b escape. grind (arith, nat_tests)))

name_spelled-escaped : (name : List ℕ) → IsFileName name → name_spelled (escaped name) ≡ Some name
name_spelled-escaped name file =
    let decoded = round_trip NAME_ESCAPES name refl file.bytes in
    rw (no_tail name, decoded, file.is) refl

starts_with_front : (base rest : List ℕ) → starts_with nat_eq (base ++ rest) base ≡ true
starts_with_front base rest = ap (bytes_eq base) (take_at base rest (length base) refl) ∙ same_bytes base

name_in-escaped : (base name : List ℕ) → IsFileName name → name_in base (base ++ escaped name) ≡ Some name
unfolding name_in
name_in-escaped base name file =
    cond-true _ _ _ (starts_with_front base (escaped name)) ∙ ap name_spelled (drop_at base (escaped name) (length base) refl) ∙ name_spelled-escaped name file

-- the URI of a file names that file
pub name_in-uri_text : (base name : List ℕ) → IsFileName name → name_in base (uri_text base name) ≡ Some name
name_in-uri_text base name file =
    ap (λ e. name_in base (base ++ e)) (sym (percent_encode-escaped_name name)) ∙ name_in-escaped base name file

-- what the parser gives for that text is this URL
pub file_url_is : (base : Parts) (name text : List ℕ) (url : Parts) → IsDirectory base → IsFileName name → text ≡ uri_text (serialize base) name → parse_url None text ≡ Ok url → url ≡ file_url base name
file_url_is base name text url dir file spelled parsed =
    let own = ap (parse_url None) spelled ∙ parse_url-uri_text base name dir file in
    let same : parse_url None text ≡ Ok (file_url base name) = own in
    cc
