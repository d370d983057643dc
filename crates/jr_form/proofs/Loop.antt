-- Reading items one after the other, as a loop does.
use Rattle.std.proofs.Common.{◌≡◌, ℕ, suc, ◌-◌, ◌+◌, ◌≤◌, ◌<◌, List, [], ◌∷◌, ◌++◌, true, false, Option, Some, None, refl, sym, ap, ◌∙◌, append_assoc, arith}
use Rattle.std.proofs.Common.{length, get_or, zero}
use Rattle.std.proofs.lemmas.List.{append-nil}
use Rattle.jr_form.specs.declared.item.Item.{Item}
use Rattle.jr_form.specs.Journal.{last_name, comes_after}
use Rattle.jr_form.specs.declared.reading.Stop.{Stop}
use Rattle.jr_form.specs.declared.reading.Stop.TheVariants.{NoReading, NoMemory}
use Rattle.jr_form.specs.Reading.{◌>>=◌, Stops, item_at, items_at}

-- what was read before, and what is still read
abbrev pub with_front : List Item → Option (List Item × List ℕ) → Option (List Item × List ℕ)
with_front front read = read >>= λ x. Some (front ++ x.0, x.1)

regroup : (front : List Item) (item : Item) (read : Option (List Item × List ℕ)) → with_front front (read >>= λ x. Some (item ∷ x.0, x.1)) ≡ with_front (front ++ item ∷ []) read
regroup front item (Some x) = ap (λ (items : List Item). Some (items, x.1)) (simp append_assoc)
regroup front item None = refl

pub last_name-push : (front : List Item) (item : Item) → last_name (front ++ item ∷ []) ≡ Some item.name
last_name-push [] item = refl
last_name-push (first ∷ []) item = refl
last_name-push (first ∷ next ∷ front) item = last_name-push (next ∷ front) item

pub goes_on : (front : List Item) (count i : ℕ) (bytes : List ℕ) (item : Item) (after : List ℕ) (total : Option (List Item × List ℕ)) → i < count → item_at bytes ≡ Some (item, after) → comes_after (last_name front) item.name ≡ true
    → with_front front (items_at (count - i) (last_name front) bytes) ≡ total → with_front (front ++ item ∷ []) (items_at (count - (i + 1)) (last_name (front ++ item ∷ [])) after) ≡ total
unfolding items_at
goes_on front count i bytes item after total lt h below so_far =
    let k : count - i ≡ suc (count - (i + 1)) = omega arith in
    let one : with_front front (items_at (count - i) (last_name front) bytes) ≡ with_front (front ++ item ∷ []) (items_at (count - (i + 1)) (Some item.name) after) = rw (k, h, below) (regroup front item (items_at (count - (i + 1)) (Some item.name) after)) in
    rw (last_name-push front item) (sym one ∙ so_far)

pub ends : (front : List Item) (count i : ℕ) (bytes : List ℕ) (total : Option (List Item × List ℕ)) → i < count → item_at bytes ≡ None
    → with_front front (items_at (count - i) (last_name front) bytes) ≡ total → total ≡ None
unfolding items_at
ends front count i bytes total lt h so_far =
    let k : count - i ≡ suc (count - (i + 1)) = omega arith in
    let one : with_front front (items_at (count - i) (last_name front) bytes) ≡ None = rw (k, h) refl in
    sym so_far ∙ one

pub ends_behind : (front : List Item) (count i : ℕ) (bytes : List ℕ) (item : Item) (after : List ℕ) (total : Option (List Item × List ℕ)) → i < count → item_at bytes ≡ Some (item, after) → comes_after (last_name front) item.name ≡ false
    → with_front front (items_at (count - i) (last_name front) bytes) ≡ total → total ≡ None
unfolding items_at
ends_behind front count i bytes item after total lt h below so_far =
    let k : count - i ≡ suc (count - (i + 1)) = omega arith in
    let one : with_front front (items_at (count - i) (last_name front) bytes) ≡ None = rw (k, h, below) refl in
    sym so_far ∙ one

pub is_done : (front : List Item) (count i : ℕ) (bytes : List ℕ) (total : Option (List Item × List ℕ)) → count ≤ i → with_front front (items_at (count - i) (last_name front) bytes) ≡ total → total ≡ Some (front, bytes)
unfolding items_at
is_done front count i bytes total le so_far =
    let k : count - i ≡ 0 = omega arith in
    let one : with_front front (items_at (count - i) (last_name front) bytes) ≡ Some (front, bytes) = rw k (ap (λ (items : List Item). Some (items, bytes)) (append-nil front)) in
    sym so_far ∙ one

pub last_name-at : (items : List Item) (item : Item) (i : ℕ) → i + 1 ≡ length items → item ≡ get_or items i item → last_name items ≡ Some item.name
last_name-at [] item i len is = absurd (omega arith)
last_name-at (first ∷ []) item zero len is = ap (λ (x : Item). Some x.name) (sym is)
last_name-at (first ∷ []) item (suc i) len is = absurd (omega arith)
last_name-at (first ∷ next ∷ items) item zero len is = absurd (omega arith)
last_name-at (first ∷ next ∷ items) item (suc i) len is = last_name-at (next ∷ items) item i (omega arith) is

pub stops : (stop : Stop) (front : List Item) (count i : ℕ) (bytes : List ℕ) (total : Option (List Item × List ℕ)) → i < count → Stops stop (item_at bytes)
    → with_front front (items_at (count - i) (last_name front) bytes) ≡ total → Stops stop total
stops NoReading front count i bytes total lt h so_far = ends front count i bytes total lt h so_far
stops NoMemory front count i bytes total lt h so_far = tt
