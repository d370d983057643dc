-- The definitions computed, each on a right and on a wrong case.
use Rattle.std.proofs.Common.{◌≡◌, true, false, [], ◌∷◌, Some, None, refl}
use Rattle.std.specs.Prelude.{codes}
use Rattle.std.specs.Str.{is_utf8, chars}
use Rattle.std.proofs.Math.Utf8.{encode}
use Rattle.percent_encoding.proofs.OnLiterals.{percent_encoding_on_literals}
use Rattle.url.proofs.OnLiterals.{url_on_literals}
use Rattle.bk_name.specs.FileName.{is_file_name_char, is_segment, is_file_name}
use Rattle.bk_name.specs.Uri.{reads_back, joined, without_fragment}
use Rattle.bk_name.specs.Base.{is_base, escaped_name, uri_text, name_in}
use Rattle.bk_name.specs.Relative.{relative_of}

-- ---- names

-- the middle dot, and the cedilla beside it
middle_dot : is_file_name_char 0xB7 ≡ true
middle_dot = refl

no_cedilla : is_file_name_char 0xB8 ≡ false
no_cedilla = refl

no_colon : is_file_name_char 0x3A ≡ false
no_colon = refl

three_dots : is_segment (codes "...") ≡ true
unfolding chars
three_dots = refl

no_two_dots : is_segment (codes "..") ≡ false
no_two_dots = refl

no_control_file : is_segment (codes ".burst-gate") ≡ false
no_control_file = refl

name_in_a_folder : is_file_name (codes "d/e f.xml") ≡ true
unfolding is_file_name is_utf8 chars encode
name_in_a_folder = refl

no_empty_name : is_file_name (codes "") ≡ false
unfolding is_file_name is_utf8 chars encode
no_empty_name = refl

no_empty_segment : is_file_name (codes "d//e") ≡ false
unfolding is_file_name is_utf8 chars encode
no_empty_segment = refl

no_half_character : is_file_name (0xC3 ∷ []) ≡ false
unfolding is_file_name is_utf8 chars encode
no_half_character = refl

-- ---- bases and URIs of files

pub book_folder : is_base (codes "file:///book/") ≡ true
unfolding is_base url_on_literals percent_encoding_on_literals
book_folder = refl

no_folder : is_base (codes "file:///book") ≡ false
unfolding is_base url_on_literals percent_encoding_on_literals
no_folder = refl

pub escapes : uri_text (codes "file:///book/") (codes "a b") ≡ codes "file:///book/a%20b"
unfolding escaped_name percent_encoding_on_literals
escapes = refl

named : name_in (codes "file:///book/") (codes "file:///book/a%62") ≡ Some (codes "ab")
unfolding name_in is_file_name is_utf8 chars encode percent_encoding_on_literals
named = refl

no_name_with_query : name_in (codes "file:///book/") (codes "file:///book/ab?") ≡ None
unfolding name_in is_file_name is_utf8 chars encode percent_encoding_on_literals
no_name_with_query = refl

outside : name_in (codes "file:///book/") (codes "file:///ab") ≡ None
unfolding name_in is_file_name is_utf8 chars encode percent_encoding_on_literals
outside = refl

-- ---- references

reads_back_as_itself : reads_back (codes "file:///a") ≡ true
unfolding url_on_literals percent_encoding_on_literals
reads_back_as_itself = refl

reads_back_as_another : reads_back (codes "file:a") ≡ false
unfolding url_on_literals percent_encoding_on_literals
reads_back_as_another = refl

up : joined (codes "file:///d/e") (codes "../a") ≡ Some (codes "file:///a")
unfolding joined url_on_literals percent_encoding_on_literals
up = refl

pub no_port : joined (codes "file:///d/e") (codes "http://h:99999/") ≡ None
unfolding joined url_on_literals percent_encoding_on_literals
no_port = refl

beside : relative_of (codes "file:///d/e") (codes "file:///d/f") ≡ codes "f"
unfolding relative_of joined url_on_literals percent_encoding_on_literals
beside = refl

-- an empty text is not taken, though it leads there
itself : relative_of (codes "file:///d/e") (codes "file:///d/e") ≡ codes "file:///d/e"
unfolding relative_of joined url_on_literals percent_encoding_on_literals
itself = refl

no_fragment : without_fragment (codes "file:///a?q#f") ≡ codes "file:///a?q"
unfolding without_fragment url_on_literals percent_encoding_on_literals
no_fragment = refl

-- a URI that has none stays
no_fragment_to_drop : without_fragment (codes "file:///a?q") ≡ codes "file:///a?q"
unfolding without_fragment url_on_literals percent_encoding_on_literals
no_fragment_to_drop = refl

-- what is joined has the fragment of the reference
pub joined_with_fragment : joined (codes "file:///d/e") (codes "f#g") ≡ Some (codes "file:///d/f#g")
unfolding joined url_on_literals percent_encoding_on_literals
joined_with_fragment = refl

pub fragment_of_joined : without_fragment (codes "file:///d/f#g") ≡ codes "file:///d/f"
unfolding without_fragment url_on_literals percent_encoding_on_literals
fragment_of_joined = refl
