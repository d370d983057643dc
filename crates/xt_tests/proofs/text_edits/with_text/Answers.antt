use Rattle.xt_tests.proofs.text_edits.with_text.Goals as goal

pub text_patch-requires-clause-present : goal.text_patch-requires-clause-present
text_patch-requires-clause-present c = (c.is_text_at.ensures.value c.args.file.now).0 c.if-is_text_at.true
