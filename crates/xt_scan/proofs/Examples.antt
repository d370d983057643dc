-- What forms compute, at right and at wrong texts; and that a sequence which is not deterministic is seen to be none.
use Rattle.std.proofs.Common.{◌≡◌, ℕ, List, [], ◌∷◌, true, false, Some, None, refl, codes}
use Rattle.xt_scan.specs.Look.{apart, anything}
use Rattle.xt_scan.specs.Step.{many_read}
use Rattle.xt_scan.specs.Form.{Form, word, blank, space, keyword, quoted_ascii, ◌>>>◌, ◌&◌, maybe, many, either_of}
use Rattle.xt_scan.specs.Front.{whole}

-- S and a word
abbrev spaced : Form (Unit {0})
spaced = space >>> word (codes "a")

reads_a_word_behind_space : spaced.read (codes " \t ab") ≡ Some (tt, codes "b")
reads_a_word_behind_space = refl

reads_no_word_without_space : spaced.read (codes "ab") ≡ None
reads_no_word_without_space = refl

reads_any_number : (many spaced).read (codes " a ab") ≡ Some (tt ∷ tt ∷ [], codes "b")
unfolding many_read
reads_any_number = refl

reads_none_of_them : (many spaced).read (codes "b") ≡ Some ([], codes "b")
unfolding many_read
reads_none_of_them = refl

abbrev sizes : Form (List ℕ)
sizes = keyword (codes "ID" ∷ codes "IDREF" ∷ [])

-- the longer of two words that begin alike
reads_the_longer_keyword : sizes.read (codes "IDREF>") ≡ Some (codes "IDREF", codes ">")
reads_the_longer_keyword = refl

reads_no_longer_word : sizes.read (codes "IDREFS") ≡ None
reads_no_longer_word = refl

abbrev value : Form (List ℕ)
value = quoted_ascii (λ t. true)

reads_in_quotes : (value & blank).read (codes "'a\"' b") ≡ Some ((codes "a\"", tt), codes "b")
reads_in_quotes = refl

reads_no_open_quote : value.read (codes "'a") ≡ None
reads_no_open_quote = refl

reads_one_or_the_other : (either_of (word (codes "a")) (word (codes "b"))).read (codes "ba") ≡ Some (tt, codes "a")
reads_one_or_the_other = refl

reads_it_or_nothing : (maybe value).read (codes "b") ≡ Some (None, codes "b")
reads_it_or_nothing = refl

is_no_whole : whole (spaced.read (codes " ab")) ≡ None
is_no_whole = refl

is_whole : whole (spaced.read (codes " a")) ≡ Some tt
is_whole = refl

-- white space behind a list whose items begin with white space: which one it belongs to is not told by a look
ambiguous : apart ((blank >>> word (codes ">")).front anything) (many spaced).bars ≡ true
ambiguous = refl

overlapping : apart (blank.front anything) (many spaced).bars ≡ false
overlapping = refl
