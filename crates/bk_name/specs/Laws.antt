-- Laws of names and URIs, as the crates above cite them.
use Rattle.std.specs.Prelude.{◌≡◌, true, List, ℕ, Some}
use Rattle.bk_name.specs.FileName.{is_file_name}
use Rattle.bk_name.specs.Uri.{ReadsBack, IsUri, joined}
use Rattle.bk_name.specs.Base.{IsBase, uri_text, name_in}
use Rattle.bk_name.specs.Relative.{relative_of}

-- the text is a URI that names this file
pub record IsUriOfFile (base name text : List ℕ) : Type 0 where
  pub uri : IsUri text
  pub reads_back : ReadsBack text
  pub names : name_in base text ≡ Some name

-- the URI of each file of a base is a URI, reads back as itself, and names that file
abbrev pub FileUrisName : Type 0
FileUrisName = (base name : List ℕ) → IsBase base → is_file_name name ≡ true → IsUriOfFile base name (uri_text base name)

-- two files of a base have two URIs
abbrev pub FileUrisDiffer : Type 0
FileUrisDiffer = (base m n : List ℕ) → is_file_name m ≡ true → is_file_name n ≡ true → uri_text base m ≡ uri_text base n → m ≡ n

-- only a file name is named
abbrev pub NamedIsName : Type 0
NamedIsName = (base uri name : List ℕ) → name_in base uri ≡ Some name → is_file_name name ≡ true

-- a URI reads back as itself
abbrev pub UrisReadBack : Type 0
UrisReadBack = (text : List ℕ) → IsUri text → ReadsBack text

-- a URI as a reference gives itself at each base
abbrev pub UrisJoinToThemselves : Type 0
UrisJoinToThemselves = (p b : List ℕ) → IsUri p → IsUri b → joined p b ≡ Some b

-- the reference from one URI to another leads there
abbrev pub RelativesLead : Type 0
RelativesLead = (p b : List ℕ) → IsUri p → IsUri b → joined p (relative_of p b) ≡ Some b
