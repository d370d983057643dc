-- Forms: what a text spells, and the function that reads it from the front of a text.
--
--   Form    of a value: the texts that spell it, how it is read, and what may not stand behind it
--   word, blank, space, piece, quoted    what forms are made of
--   step    what is no sequence, by a reader of its own
--   ◌>>>◌, ◌<<<◌, ◌&◌   one behind another: the value of the second, of the first, of both
--   either_of, maybe, many, given        one or the other; it or nothing; any number; another value for it
use Rattle.std.specs.Prelude.{◌≡◌, ℕ, ◌-◌, length, take, Bool, true, false, not, ◌&&◌, ◌||◌, ◌==◌, IsTrue, List, [], ◌∷◌, ◌++◌, Option, Some, None, ◌⊎◌, bytes_eq, IsUtf8, if◌then◌else◌}
use Rattle.xt_spec.specs.Char.{is_space, is_within}
use Rattle.xt_spec.specs.Tag.{IsBlank, IsSpace}
use Rattle.xt_spec.specs.Declaration.{IsQuoted}
use Rattle.xt_scan.specs.Look.{Span, from_to, Look, either, either_if, nothing, anything, solid_in, spaced_any, spaced_by}
use Rattle.xt_scan.specs.Step.{◌>>=◌, take_while, drop_while, after_all, maybe_read, or_read, many_read}

pub record Form (A : Type 0) : Type 1 where
  pub Spells : A → List ℕ → Type 0
  pub read : List ℕ → Option (A × List ℕ)
  -- spells the empty text
  pub null : Bool
  -- how a text begins that stands in front of such a one
  pub front : Look → Look
  -- what may not stand behind
  pub bars : Look

abbrev pub first_of_word : List ℕ → List Span
first_of_word [] = []
first_of_word (c ∷ cs) = from_to c c ∷ []

-- these bytes
abbrev pub word : List ℕ → Form (Unit {0})
word w = record {
  Spells = λ v t. t ≡ w;
  read = λ s. after_all w s >>= λ r. Some (tt, r);
  null = false;
  front = λ l. solid_in (first_of_word w);
  bars = nothing;
}

-- optional white space
abbrev pub blank : Form (Unit {0})
blank = record {
  Spells = λ v t. IsBlank t;
  read = λ s. Some (tt, drop_while is_space s);
  null = true;
  front = spaced_by;
  bars = spaced_any;
}

abbrev pub read_space : List ℕ → Option (Unit {0} × List ℕ)
read_space [] = None
read_space (b ∷ bs) = if is_space b then Some (tt, drop_while is_space bs) else None

-- white space
abbrev pub space : Form (Unit {0})
space = record {
  Spells = λ v t. IsSpace t;
  read = read_space;
  null = false;
  front = spaced_by;
  bars = spaced_any;
}

-- the longest front of such bytes, where it passes the test. A class holds the bytes
abbrev pub piece : (ℕ → Bool) → List Span → (List ℕ → Bool) → (List ℕ → Type 0) → Form (List ℕ)
piece p c test Is = record {
  Spells = λ v t. (t ≡ v) × Is v;
  read = λ s. if test (take_while p s) then Some (take_while p s, drop_while p s) else None;
  null = false;
  front = λ l. solid_in c;
  bars = solid_in c;
}

-- one of these words of letters, and no letter behind it
abbrev pub is_letter : ℕ → Bool
is_letter b = is_within 0x41 0x5A b || is_within 0x61 0x7A b

abbrev pub letters : List Span
letters = from_to 0x41 0x5A ∷ from_to 0x61 0x7A ∷ []

abbrev pub is_among : List (List ℕ) → List ℕ → Bool
is_among [] t = false
is_among (w ∷ []) t = bytes_eq t w
is_among (w ∷ x ∷ ws) t = bytes_eq t w || is_among (x ∷ ws) t

abbrev pub keyword : List (List ℕ) → Form (List ℕ)
keyword words = piece is_letter letters (is_among words) (λ t. IsTrue (is_among words t))

abbrev pub read_to_quote : ℕ → List ℕ → Option (List ℕ × List ℕ)
read_to_quote q s = after_all (q ∷ []) (drop_while (λ b. not (b == q)) s) >>= λ r. Some (take_while (λ b. not (b == q)) s, r)

abbrev pub read_quoted : List ℕ → Option (List ℕ × List ℕ)
read_quoted [] = None
read_quoted (b ∷ bs) = if b == 0x22 || b == 0x27 then read_to_quote b bs else None

abbrev pub tested : {A : Type 0} → (A → Bool) → Option (A × List ℕ) → Option (A × List ℕ)
tested test None = None
tested test (Some x) = if test x.0 then Some x else None

-- in quotes that don't stand in it
abbrev pub quoted : (List ℕ → Bool) → (List ℕ → Type 0) → Form (List ℕ)
quoted test Is = record {
  Spells = λ v t. Is v × IsQuoted v t;
  read = λ s. tested test (read_quoted s);
  null = false;
  front = λ l. solid_in (from_to 0x22 0x22 ∷ from_to 0x27 0x27 ∷ []);
  bars = nothing;
}

-- text in quotes
abbrev pub any_quoted : Form (List ℕ)
any_quoted = record {
  Spells = λ v t. IsUtf8 v × IsQuoted v t;
  read = read_quoted;
  null = false;
  front = λ l. solid_in (from_to 0x22 0x22 ∷ from_to 0x27 0x27 ∷ []);
  bars = nothing;
}

-- text that passes the test
abbrev pub quoted_text : (List ℕ → Bool) → Form (List ℕ)
quoted_text test = quoted test (λ t. IsUtf8 t × IsTrue (test t))

-- what passes the test, in quotes
abbrev pub quoted_ascii : (List ℕ → Bool) → Form (List ℕ)
quoted_ascii test = quoted test (λ t. IsTrue (test t))

-- what another reader reads: some bytes, the first of such a class, and whatever may stand behind
abbrev pub step : (List ℕ → Type 0) → (List ℕ → Option (List ℕ)) → List Span → Form (Unit {0})
step Is after c = record {
  Spells = λ v t. Is t;
  read = λ s. after s >>= λ r. Some (tt, r);
  null = false;
  front = λ l. solid_in c;
  bars = nothing;
}

-- one behind the other
abbrev pub both : {A B C : Type 0} → (A → B → C) → Form A → Form B → Form C
both {A} {B} {C} g a b = record {
  Spells = λ v t. (x : A) × (y : B) × (t1 : List ℕ) × (t2 : List ℕ) × a.Spells x t1 × b.Spells y t2 × (g x y ≡ v) × (t ≡ t1 ++ t2);
  read = λ s. a.read s >>= λ x. b.read x.1 >>= λ y. Some (g x.0 y.0, y.1);
  null = a.null && b.null;
  front = λ l. either_if b.null (either_if a.null (a.front (b.front l)) (b.front l)) (a.front l);
  bars = either_if b.null b.bars a.bars;
}

infixr 20 ◌>>>◌
abbrev pub ◌>>>◌ : {A B : Type 0} → Form A → Form B → Form B
a >>> b = both (λ x y. y) a b

infixl 30 ◌<<<◌
abbrev pub ◌<<<◌ : {A B : Type 0} → Form A → Form B → Form A
a <<< b = both (λ x y. x) a b

infixr 20 ◌&◌
abbrev pub ◌&◌ : {A B : Type 0} → Form A → Form B → Form (A × B)
a & b = both (λ x y. (x, y)) a b

-- another value for it
abbrev pub given : {A B : Type 0} → (A → B) → Form A → Form B
given {A} {B} g a = record {
  Spells = λ v t. (x : A) × a.Spells x t × (g x ≡ v);
  read = λ s. a.read s >>= λ x. Some (g x.0, x.1);
  null = a.null;
  front = a.front;
  bars = a.bars;
}

-- .. whose value passes the test
abbrev pub such : {A : Type 0} → (A → Bool) → Form A → Form A
such {A} test a = record {
  Spells = λ v t. a.Spells v t × IsTrue (test v);
  read = λ s. tested test (a.read s);
  null = a.null;
  front = a.front;
  bars = a.bars;
}

-- the front of a text in front of its rest
abbrev pub front_of : List ℕ → List ℕ → List ℕ
front_of s r = take (length s - length r) s

-- .. as it is spelled
abbrev pub spelled : {A : Type 0} → Form A → Form (List ℕ)
spelled {A} a = record {
  Spells = λ v t. (v ≡ t) × ((x : A) × a.Spells x t);
  read = λ s. a.read s >>= λ x. Some (front_of s x.1, x.1);
  null = a.null;
  front = a.front;
  bars = a.bars;
}

-- one or the other
abbrev pub either_of : {A : Type 0} → Form A → Form A → Form A
either_of {A} a b = record {
  Spells = λ v t. a.Spells v t ⊎ b.Spells v t;
  read = λ s. or_read (a.read s) (b.read s);
  null = b.null;
  front = λ l. either (a.front l) (b.front l);
  bars = either_if b.null (either a.bars b.bars) (a.front anything);
}

abbrev pub MaybeSpells : {A : Type 0} → (A → List ℕ → Type 0) → Option A → List ℕ → Type 0
MaybeSpells S None t = t ≡ []
MaybeSpells S (Some v) t = S v t

-- it or nothing
abbrev pub maybe : {A : Type 0} → Form A → Form (Option A)
maybe a = record {
  Spells = MaybeSpells a.Spells;
  read = λ s. maybe_read s (a.read s);
  null = true;
  front = a.front;
  bars = either a.bars (a.front anything);
}

abbrev pub ManySpell : {A : Type 0} → (A → List ℕ → Type 0) → List A → List ℕ → Type 0
ManySpell S [] t = t ≡ []
ManySpell S (v ∷ vs) t = (t1 : List ℕ) × (t2 : List ℕ) × S v t1 × ManySpell S vs t2 × (t ≡ t1 ++ t2)

-- any number
abbrev pub many : {A : Type 0} → Form A → Form (List A)
many a = record {
  Spells = ManySpell a.Spells;
  read = λ s. Some (many_read a.read s);
  null = true;
  front = λ l. a.front anything;
  bars = either a.bars (a.front anything);
}
