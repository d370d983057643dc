-- The first fault of a document's bytes, with its place and the rule that is broken there; of this project.
--
--   begun     what begins the rest of a text: the rule is told by what stands at the place
--   found_of  the place and the rule of a fault of reading
--   IsFound   a document is read, or has this first fault
use Rattle.std.specs.Prelude.{◌≡◌, ℕ, ◌==◌, List, [], ◌∷◌, drop, if◌then◌else◌, Option, Some, None}
use Rattle.xt_spec.specs.Tree.{Items}
use Rattle.xt_spec.specs.Reading.{document, IsReading}
use Rattle.xt_spec.specs.FirstFault.{ReadingFault, not_utf8, encoding, not_well_formed, too_deep, IsFirstFault}
use Rattle.book_where.specs.declared.fault.Rule.{Rule}
use Rattle.book_where.specs.declared.fault.Rule.TheVariants as rule
use Rattle.book_where.specs.declared.fault.Found.{Found}

-- .. behind a `<`
abbrev pub begun_by_angle : List ℕ → Rule
begun_by_angle [] = rule.Markup
begun_by_angle (b ∷ rest) = if b == 0x2F then rule.EndTag else rule.Markup

abbrev pub begun : List ℕ → Rule
begun [] = rule.End
begun (b ∷ rest) =
    if b == 0x3C then begun_by_angle rest
    else (if b == 0x26 then rule.Reference else (if b == 0x5D then rule.Bracket else rule.Characters))

abbrev pub found_of : List ℕ → ReadingFault → Found
found_of bytes (not_utf8 at) = record { at = Some at; rule = rule.NotUtf8 }
found_of bytes encoding = record { at = Some 0; rule = rule.Encoding }
found_of bytes (not_well_formed at) = record { at = Some at; rule = begun (drop at bytes) }
found_of bytes too_deep = record { at = None; rule = rule.TooDeep }

-- the first fault of the document has this place and rule
pub record IsFirst (bytes : List ℕ) (found : Found) : Type 0 where
  pub fault : ReadingFault
  pub first : IsFirstFault document bytes fault
  pub is : found_of bytes fault ≡ found

abbrev pub IsFound : List ℕ → Option Found → Type 0
IsFound bytes None = (items : Items) × IsReading document bytes items
IsFound bytes (Some found) = IsFirst bytes found
