-- What changes do to the shelves of a board. It applies to any shelves: how one is read is a parameter.
use Rattle.std.specs.Prelude.{◌≡◌, ℕ, zero, suc, ℤ, List, [], ◌∷◌, map, Result, Ok, Err, if◌then◌else◌}
use Rattle.std.specs.Ordering.{int_eq}
use Rattle.std.specs.List.{flat_map}
use Rattle.channel_store.specs.declared.change.What.{What}
use Rattle.channel_store.specs.declared.copy.ChangeMsg.{ChangeMsg}
use Rattle.watch_views.specs.Held.{Held}

-- how a shelf is read: its channel, what its view keeps, the step of the view, and its lines
pub record Reading (B : Type 0) : Type 0 where
  pub channel : B → ℤ
  pub held : B → Held
  pub step : B → Held → What → Held
  pub shown : B → Held → List ℕ

-- shelves that are read this way
abbrev pub reading : {B : Type 0} → (B → ℤ) → (B → Held) → (B → Held → What → Held) → (B → Held → List ℕ) → Reading B
reading channel held step shown = record { channel = channel; held = held; step = step; shown = shown }

-- shelves each of which is changed this way
abbrev pub each : {B : Type 0} → List B → (B → B) → List B
each xs f = map f xs

module _ {B : Type 0} (r : Reading B) where
  -- the second is the first, but keeps this
  pub record Keeps (k : Held) (a b : B) : Type 0 where
    pub channel_same : r.channel b ≡ r.channel a
    pub held_is : r.held b ≡ k
    pub step_same : (h : Held) (w : What) → r.step b h w ≡ r.step a h w
    pub shown_same : (h : Held) → r.shown b h ≡ r.shown a h

  -- what a shelf keeps after a change: its own step, if the change is of its channel
  abbrev pub held_after : ChangeMsg → B → Held
  held_after c a = if int_eq (r.channel a) c.channel then r.step a (r.held a) c.what else r.held a

  abbrev pub IsFed : ChangeMsg → B → B → Type 0
  IsFed c a b = Keeps (held_after c a) a b

  -- shelves that were fed, one by one
  abbrev pub AllFed : ChangeMsg → List B → List B → Type 0
  AllFed c [] [] = Unit {0}
  AllFed c (a ∷ xs) (b ∷ ys) = IsFed c a b × AllFed c xs ys
  AllFed c xs ys = ⊥

  -- shelves that keep what they kept
  abbrev pub AllKept : List B → List B → Type 0
  AllKept [] [] = Unit {0}
  AllKept (a ∷ xs) (b ∷ ys) = Keeps (r.held a) a b × AllKept xs ys
  AllKept xs ys = ⊥

  -- the first `count` are fed; the next one, which is of the channel, and those after it keep what they kept
  abbrev pub AreFed : ℕ → ChangeMsg → List B → List B → Type 0
  AreFed zero c (a ∷ xs) (b ∷ ys) = (r.channel a ≡ c.channel) × (Keeps (r.held a) a b × AllKept xs ys)
  AreFed (suc count) c (a ∷ xs) (b ∷ ys) = IsFed c a b × AreFed count c xs ys
  AreFed count c xs ys = ⊥

  -- what feeding leaves: all are fed, or those before one for which memory ran out
  abbrev pub Feeds : {E : Type 0} → ChangeMsg → List B → List B → Result (Unit {0}) E → Type 0
  Feeds c xs ys (Ok x) = AllFed c xs ys
  Feeds c xs ys (Err e) = (count : ℕ) × AreFed count c xs ys

  -- the same for one shelf
  abbrev pub FeedsOne : {E : Type 0} → ChangeMsg → B → B → Result (Unit {0}) E → Type 0
  FeedsOne c a b (Ok x) = IsFed c a b
  FeedsOne c a b (Err e) = (r.channel a ≡ c.channel) × Keeps (r.held a) a b

  abbrev pub lines_at : B → List ℕ
  lines_at a = r.shown a (r.held a)

  -- the lines of shelves, in their order
  abbrev pub lines_of : List B → List ℕ
  lines_of xs = flat_map lines_at xs
