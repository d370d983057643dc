use Rattle.std.proofs.Common.{◌≡◌, ◌-◌, List, ℕ, arith, drop, take, min, length, ◌∙◌, ap}
use Rattle.std.proofs.lemmas.List.{take_all, length-drop}
use Rattle.bk_desk.proofs.Sources.{reads_front}
use Rattle.bk_desk.proofs.mem_source.MemSourceSource.read.Goals as goal

pub returns-clause-value : goal.returns-clause-value
returns-clause-value c =
    let s = c.args.self.now in
    let bytes = c.deref.result.now in
    let rest : take (length bytes - s.at) (drop s.at bytes) ≡ drop s.at s.bytes.items = take_all (length bytes - s.at) (drop s.at bytes) (omega (arith, length-drop s.at bytes)) ∙ ap (drop s.at) c.deref.ensures.value in
    reads_front s.bytes.items c.args.buffer.now s.at s.piece c.min-count.result _ s.gives_some
    (c.min-count.ensures ∙ ap (λ n. min n (length c.args.buffer.now)) (c.min.ensures ∙ ap (λ (l : List ℕ). min (length l) s.piece) rest))
    (c.copy_from_slice.ensures.after ∙ ap (take c.min-count.result) rest)
