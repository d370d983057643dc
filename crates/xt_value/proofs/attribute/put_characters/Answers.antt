use Rattle.std.proofs.Common.{◌∙◌, ◌++◌, List, ℕ, ap, map, string_bytes}
use Rattle.xt_spec.specs.LineEnds.{lines_read}
use Rattle.xt_spec.specs.Value.{spaced}
use Rattle.xt_value.specs.Parts.{is_ampersand}
use Rattle.xt_value.proofs.Searches.{cut_unique}
use Rattle.xt_value.proofs.attribute.put_characters.Goals as goal

pub returns-clause-value : goal.returns-clause-value
returns-clause-value c front behind lacks stops is =
    let cut = c.split_characters.ensures.value in
    let same = cut_unique is_ampersand c.split_characters.result.0.now front c.split_characters.result.1.now behind cut.lacks lacks cut.stops stops (cut.joined ∙ is) in
    (same.1, c.in_ok-put_spaced.ensures.value ∙ ap (λ (l : List ℕ). string_bytes c.args.out.now ++ map spaced (lines_read l)) same.0)
