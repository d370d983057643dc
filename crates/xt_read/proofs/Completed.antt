-- What is read of a body can be completed: by the end-tags of the open elements, and by `<a/>` where a document has no
-- element yet.
use Rattle.std.proofs.Common.{◌≡◌, List, ℕ, [], ◌∷◌, ◌++◌, true, ◌&&◌, refl, inl, lit<, Option, Some, None, codes, bytes_eq}
use Rattle.xt_lex.proofs.Theorems.{plain_is_ncname}
use Rattle.xt_lex.specs.Place.{Follows}
use Rattle.xt_spec.specs.Tag.{Tag, IsTag}
use Rattle.xt_spec.specs.Token.{empty_tag, end_tag}
use Rattle.xt_spec.specs.Tree.{Items, Item, nil, element_item, items_of, source_text}
use Rattle.xt_spec.specs.Reading.{are_distinct, is_before_root, Stage, before_doctype, before_root, behind_root}
use Rattle.xt_read.specs.Run.{Body, empty_tok, end_tok, OpenElement, State, begin, with_text, has_room, Reads, IsBody, IsWhole, Passes, here}
use Rattle.xt_read.proofs.Runs.{passes_reads}
use Rattle.xt_read.proofs.Complete.{at, reads_step, when_true, both_true, room, same_bytes, follows_end_tag}
use Rattle.xt_read.proofs.Sound.{AreNamed, passes_named, read_is_body}
use Rattle.xt_read.proofs.Continued.{passes_before}

abbrev end_tag_of : List ℕ → List ℕ
end_tag_of name = codes "</" ++ name ++ [] ++ codes ">"

-- what a document needs at its top
abbrev root_for : Option Stage → List ℕ
root_for None = []
root_for (Some before_doctype) = codes "<a/>"
root_for (Some before_root) = codes "<a/>"
root_for (Some behind_root) = []

-- what completes a body
abbrev completion : List OpenElement → Option Stage → List ℕ
completion [] stage = root_for stage
completion (e ∷ es) stage = end_tag_of e.name ++ completion es stage

follows_completion : (opened : List OpenElement) (stage : Option Stage) → Follows (completion opened stage)
follows_completion [] None = tt
follows_completion [] (Some before_doctype) = inl refl
follows_completion [] (Some before_root) = inl refl
follows_completion [] (Some behind_root) = tt
follows_completion (e ∷ es) stage = follows_end_tag e.name (end_tag_of e.name) (completion es stage) ([], refl, refl)

-- the text is read from the state to the end of a body
record IsCompleted (s : State) (text : List ℕ) : Type 0 where
  last : State
  reads : Reads s text last
  whole : IsWhole last

abbrev root_tag : Tag
root_tag = record { name = codes "a"; attributes = []; blank = [] }

root_is_tag : IsTag root_tag
root_is_tag = record { name = inl (plain_is_ncname (codes "a") refl); attributes = tt; blank = refl }

abbrev with_root : List Item → Option (List ℕ) → State
with_root items text = at [] (Some behind_root) (with_text items text ++ element_item (codes "<a/>") nil None ∷ []) None

root_read : (items : List Item) (text : Option (List ℕ)) (stage : Stage) → is_before_root stage ≡ true → IsCompleted (at [] (Some stage) items text) (codes "<a/>")
root_read items text stage first = record {
  last = with_root items text;
  reads = reads_step (at [] (Some stage) items text) (with_root items text) (with_root items text) (empty_tok (codes "<a/>") []) empty_tag [] (root_tag, root_is_tag, refl) (λ k. cc)
      (refl, codes "a", record { tag = root_tag; parts = root_is_tag; spelled = refl; is_name = refl; are_names = refl })
      (when_true (has_room (at [] (Some stage) items text) && are_distinct []) _ _ (both_true (has_room (at [] (Some stage) items text)) (are_distinct []) (room [] (Some stage) items text (lit< tt) (λ top. first)) refl))
      (here (with_root items text) []);
  whole = record { closed = refl; ended = refl };
}

nothing_read : (s : State) → IsWhole s → IsCompleted s []
nothing_read s whole = record { last = s; reads = here s []; whole = whole }

completes : (opened : List OpenElement) (items : List Item) (text : Option (List ℕ)) (stage : Option Stage) → AreNamed opened → IsCompleted (at opened stage items text) (completion opened stage)
completes [] items text None named = nothing_read (at [] None items text) (record { closed = refl; ended = refl })
completes [] items text (Some before_doctype) named = root_read items text before_doctype refl
completes [] items text (Some before_root) named = root_read items text before_root refl
completes [] items text (Some behind_root) named = nothing_read (at [] (Some behind_root) items text) (record { closed = refl; ended = refl })
completes (e ∷ es) items text stage named =
    let kids = items_of (with_text items text) in
    let tag = end_tag_of e.name in
    let behind = e.before ++ element_item e.open_tag kids (Some tag) ∷ [] in
    let rest = completes es behind None stage named.1 in
    record {
      last = rest.last;
      reads = reads_step (at (e ∷ es) stage items text) (at es stage behind None) rest.last (end_tok tag e.name) end_tag (completion es stage) (e.name, named.0, ([], refl, refl)) (λ k. cc)
          (refl, named.0, ([], refl, refl)) (when_true (bytes_eq e.name e.name) _ _ (same_bytes e.name)) rest.reads;
      whole = rest.whole;
    }

-- Each front of a body that is read is the front of a whole one.
pub front_goes_on : (body : Body) (front rest : List ℕ) (s : State) → Passes (begin body) (front ++ rest) s rest → (more : List ℕ) × (items : Items) × IsBody body items × (source_text items ≡ front ++ more)
front_goes_on body front rest s passes =
    let more = completion s.opened s.stage in
    let on = passes_before (begin body) s front rest more passes (λ none. follows_completion s.opened s.stage) in
    let completed = completes s.opened s.items s.text s.stage (passes_named body (front ++ rest) rest s passes) in
    let items = items_of (with_text completed.last.items completed.last.text) in
    let is = read_is_body body (front ++ more) items (record {
      last = completed.last;
      reads = passes_reads (begin body) s completed.last (front ++ more) more on completed.reads;
      whole = completed.whole;
      are = refl;
    }) in
    (more, items, is.0, is.1)
