use Rattle.std.proofs.Common.{◌∙◌}
use Rattle.std.specs.Prelude.{string_bytes}
use Rattle.bk_name.specs.Relative.{text_between}
use Rattle.bk_name.proofs.TextLemmas.{joined-uri}
use Rattle.bk_name.proofs.RelativeLemmas.{between-some, between-none}
use Rattle.bk_name.proofs.relative_reference.relative_text.Goals as goal

pub returns-in-Some-clause-value : goal.returns-in-Some-clause-value
returns-in-Some-clause-value c =
    let is = rw c.in-Some.is at c.in_ok-text.ensures in
    let p = c.url.ensures.keeps in
    let b = c.url-2.ensures.keeps in
    between-some c.url.result.now c.url-2.result.now p.valid p.canonical b.valid b.canonical (string_bytes c.in-Some.text) is
    ∙ (λ i. text_between (c.url.ensures.value i) (c.url-2.ensures.value i))

pub returns-in-Some-clause-target : goal.returns-in-Some-clause-target
returns-in-Some-clause-target c =
    joined-uri c.args.p.now c.args.b.now
    (record { url = c.url.result.now; is = c.url.ensures.keeps; spelled = c.url.ensures.value })
    (record { url = c.url-2.result.now; is = c.url-2.ensures.keeps; spelled = c.url-2.ensures.value })

pub returns-in-None-clause-value : goal.returns-in-None-clause-value
returns-in-None-clause-value c =
    let is = rw c.in-None.is at c.in_ok-text.ensures in
    let p = c.url.ensures.keeps in
    let b = c.url-2.ensures.keeps in
    c.new.ensures.bytes ∙ between-none c.url.result.now c.url-2.result.now p.valid p.canonical b.valid b.canonical is
    ∙ (λ i. text_between (c.url.ensures.value i) (c.url-2.ensures.value i))

pub returns-in-None-clause-target : goal.returns-in-None-clause-target
returns-in-None-clause-target c =
    joined-uri c.args.p.now c.args.b.now
    (record { url = c.url.result.now; is = c.url.ensures.keeps; spelled = c.url.ensures.value })
    (record { url = c.url-2.result.now; is = c.url-2.ensures.keeps; spelled = c.url-2.ensures.value })
