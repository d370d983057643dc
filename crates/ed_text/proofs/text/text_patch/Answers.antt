use Rattle.std.proofs.Common.{◌∙◌, ap}
use Rattle.std.specs.Str.{chars}
use Rattle.xt_spec.specs.Tree.{source_text}
use Rattle.ed_spec.specs.TextEdit.{text_items}
use Rattle.xt_tree.specs.Meaning.{items_in}
use Rattle.ed_text.proofs.ReadingLemmas.{is_there, patch_facts, facts_read, facts_content, has_new_value}
use Rattle.ed_text.proofs.TextFileLemmas.{facts_read_as_text}
use Rattle.ed_text.proofs.text.text_patch.Goals as goal

pub unwrap-span-requires : goal.unwrap-span-requires
unwrap-span-requires c = is_there (items_in c.args.file.now c.args.items.now) c.args.path.now c.span_at.result c.requires.present (c.span_at.ensures.none c.args.file.now)

pub returns-clause-reads : goal.returns-clause-reads
returns-clause-reads c =
    facts_read c.args.file.now _ c.args.path.now (chars c.args.value.now) c.args.plain c.unwrap-span.result.from c.unwrap-span.result.to c.in_ok-new.new.items
    (patch_facts c.args.file.now (items_in c.args.file.now c.args.items.now) c.args.path.now (chars c.args.value.now) c.args.plain c.span_at.result c.unwrap-span.result c.in_ok-new.new.items
    c.requires.present (c.span_at.ensures.place c.args.file.now c.requires.place) c.unwrap-span.ensures c.in_ok-new.ensures.value)

pub returns-clause-reads_as_text : goal.returns-clause-reads_as_text
returns-clause-reads_as_text c =
    facts_read_as_text c.args.file.now (items_in c.args.file.now c.args.items.now) c.args.path.now c.args.value.now c.args.plain c.unwrap-span.result.from c.unwrap-span.result.to c.in_ok-new.new.items
    (patch_facts c.args.file.now (items_in c.args.file.now c.args.items.now) c.args.path.now (chars c.args.value.now) c.args.plain c.span_at.result c.unwrap-span.result c.in_ok-new.new.items
    c.requires.present (c.span_at.ensures.place c.args.file.now c.requires.place) c.unwrap-span.ensures c.in_ok-new.ensures.value) c.utf8.value

pub returns-clause-keeps : goal.returns-clause-keeps
returns-clause-keeps c =
    facts_content c.args.file.now (items_in c.args.file.now c.args.items.now) c.args.path.now c.args.value.now c.args.plain c.unwrap-span.result.from c.unwrap-span.result.to c.in_ok-new.new.items
    (patch_facts c.args.file.now (items_in c.args.file.now c.args.items.now) c.args.path.now (chars c.args.value.now) c.args.plain c.span_at.result c.unwrap-span.result c.in_ok-new.new.items
    c.requires.present (c.span_at.ensures.place c.args.file.now c.requires.place) c.unwrap-span.ensures c.in_ok-new.ensures.value) c.utf8.value

pub returns-clause-reads_back : goal.returns-clause-reads_back
returns-clause-reads_back c = λ escaped are some.
    has_new_value (items_in c.args.file.now c.args.items.now) c.args.path.now c.args.value.now c.in_ok-new.new.items c.requires.present c.utf8.value some
    (c.in_ok-new.ensures.value ∙ ap (λ p. source_text (text_items p (chars c.args.value.now))) escaped) are
