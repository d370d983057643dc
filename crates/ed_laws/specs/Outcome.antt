-- What comes of an edit; of this project.
--
--   Outcome     it is refused, or gives other items
--   HasOutcome  over these items the edit has this outcome
use Rattle.xt_spec.specs.Tree.{Items}
use Rattle.ed_spec.specs.Edit.{Edit, Refusal, Refuses, Accepts}

pub data Outcome : Type 0 where
  refused : Refusal → Outcome
  gives : Items → Outcome

abbrev pub HasOutcome : Items → Edit → Outcome → Type 0
HasOutcome items edit (refused refusal) = Refuses items edit refusal
HasOutcome items edit (gives others) = Accepts items edit others
