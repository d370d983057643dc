-- The definitions of this crate, computed on right and on wrong cases.
use Rattle.std.proofs.Common.{◌≡◌, [], ◌∷◌, refl, codes, true, false, Some, None}
use Rattle.std.specs.Str.{is_utf8, chars}
use Rattle.std.proofs.Math.Utf8.{encode}
use Rattle.bk_name.specs.FileName.{is_file_name}
use Rattle.book_cli.specs.Words.{is_root, root_of}
use Rattle.book_cli.specs.RealFiles.{above, IsFrontOf}

-- no words and two words have no reading, whatever they are
no_words : root_of [] ≡ None
no_words = refl

two_words : root_of (codes "a.xml" ∷ codes "b.xml" ∷ []) ≡ None
two_words = refl

-- an option and a path have none
option : is_root (codes "--help") ≡ false
option = refl

path : is_root (codes "a/b.xml") ≡ false
path = refl

one_word : is_root (codes "book.xml") ≡ true
unfolding is_file_name is_utf8 chars encode
one_word = refl

parent_folder : is_root (codes "..") ≡ false
unfolding is_file_name is_utf8 chars encode
parent_folder = refl

control_file : is_root (codes ".burst-gate") ≡ false
unfolding is_file_name is_utf8 chars encode
control_file = refl

-- of a file that was replaced each folder above it is synced; of one with no folder the current one alone
folders : above (codes "a/b/c") ≡ codes "a" ∷ codes "a/b" ∷ codes "." ∷ []
folders = refl

no_folder : above (codes "c") ≡ codes "." ∷ []
no_folder = refl

-- the first bytes of a reader, and no others
front : IsFrontOf (Some (codes "abc")) 2 (codes "ab")
front = refl

no_front : IsFrontOf (Some (codes "abc")) 2 (codes "b") → ⊥
no_front is = absurd (cc)
