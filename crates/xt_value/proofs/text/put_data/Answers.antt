use Rattle.std.proofs.Common.{◌∙◌, ◌++◌, List, ℕ, ap, string_bytes}
use Rattle.xt_spec.specs.Text.{characters_in}
use Rattle.xt_value.specs.Parts.{is_mark}
use Rattle.xt_value.proofs.Searches.{cut_unique}
use Rattle.xt_value.proofs.text.put_data.Goals as goal

pub returns-clause-value : goal.returns-clause-value
returns-clause-value c front behind lacks stops is =
    let cut = c.split_data.ensures.value in
    let same = cut_unique is_mark c.split_data.result.0.now front c.split_data.result.1.now behind cut.lacks lacks cut.stops stops (cut.joined ∙ is) in
    (same.1, c.in_ok-put_characters.ensures.value ∙ ap (λ (l : List ℕ). string_bytes c.args.out.now ++ characters_in c.args.inner l) same.0)
