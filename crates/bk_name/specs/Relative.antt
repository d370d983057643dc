-- References from one URI to another, of this project's own. A text is the list of its bytes.
-- `relative_text` is what `url`'s `make_relative` gives; the URL Standard has no such text.
--
--   relative_of   `url`'s relative text where it isn't empty and leads to the target, else the target
use Rattle.std.specs.Prelude.{ℕ, Bool, not, ◌&&◌, ◌==◌, nat_eq, List, [], length, bytes_eq, Option, Some, None, if◌then◌else◌}
use Rattle.std.specs.Option.{option_eq}
use Rattle.url.specs.Parts.{Parts, cannot_be_a_base, host_or_empty}
use Rattle.url.specs.Host.{host_text}
use Rattle.url.specs.Relative.{relative_text}
use Rattle.bk_name.specs.Uri.{url_of, joined}

-- a relative text can lead from p to b: p has a path of segments, and scheme, host and port are the same
abbrev pub can_relate : Parts → Parts → Bool
can_relate p b = not (cannot_be_a_base p) && bytes_eq p.scheme b.scheme && bytes_eq (host_text (host_or_empty p)) (host_text (host_or_empty b))
    && option_eq nat_eq p.port b.port

-- `url`'s relative text; empty where it has none
abbrev pub relative_between : Option Parts → Option Parts → List ℕ
relative_between (Some p) (Some b) = if can_relate p b then relative_text p b else []
relative_between (Some p) None = []
relative_between None b = []

-- `url`'s relative text from the URL of one text to that of another; empty where it has none
abbrev pub text_between : List ℕ → List ℕ → List ℕ
text_between p b = relative_between (url_of p) (url_of b)

-- the reference gives b at p
abbrev pub leads_to : List ℕ → List ℕ → List ℕ → Bool
leads_to p reference b = option_eq bytes_eq (joined p reference) (Some b)

-- the text, where it isn't empty and leads from p to b, else b
abbrev pub if_leads : List ℕ → List ℕ → List ℕ → List ℕ
if_leads p text b = if not (length text == 0) && leads_to p text b then text else b

-- a reference from p to b
unfoldable pub relative_of : List ℕ → List ℕ → List ℕ
relative_of p b = if_leads p (text_between p b) b
