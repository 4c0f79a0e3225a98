-- The lines of views that were fed changes. It applies to any views: how one is read is a parameter.
use Rattle.std.specs.Prelude.{◌≡◌, ℕ, ℤ, List, [], ◌∷◌, fold, map, if◌then◌else◌}
use Rattle.std.specs.List.{flat_map}
use Rattle.std.specs.Ordering.{int_eq}
use Rattle.channel_store.specs.declared.change.What.{What}
use Rattle.channel_store.specs.declared.copy.ChangeMsg.{ChangeMsg}
use Rattle.watch_views.specs.Boards.{Reading}
use Rattle.watch_views.specs.Held.{Held}

-- how a view is read: what it keeps, its step, and its lines
pub record Viewing (V : Type 0) : Type 0 where
  pub held : V → Held
  pub step : V → Held → What → Held
  pub shown : V → Held → List ℕ

-- views that are read this way
abbrev pub viewing : {V : Type 0} → (V → Held) → (V → Held → What → Held) → (V → Held → List ℕ) → Viewing V
viewing held step shown = record { held = held; step = step; shown = shown }

module _ {V : Type 0} (r : Viewing V) where
  -- what a view of this channel keeps after a change: its own step, if the change is of the channel
  abbrev pub steps : ℤ → V → Held → ChangeMsg → Held
  steps channel v h c = if int_eq channel c.channel then r.step v h c.what else h

  abbrev pub kept : ℤ → List ChangeMsg → V → Held
  kept channel fed v = fold (steps channel v) (r.held v) fed

  abbrev pub view_lines : ℤ → List ChangeMsg → V → List ℕ
  view_lines channel fed v = r.shown v (kept channel fed v)

  -- the lines of all views, in their order
  abbrev pub lines_after : List V → ℤ → List ChangeMsg → List ℕ
  lines_after views channel fed = flat_map (view_lines channel fed) views

-- a view as it is read: the channel that it watches, what it keeps, its step, and its lines
pub record Seen : Type 0 where
  pub channel : ℤ
  pub held : Held
  pub step : Held → What → Held
  pub shown : Held → List ℕ

abbrev pub seen : {B : Type 0} → Reading B → B → Seen
seen r b = record { channel = r.channel b; held = r.held b; step = r.step b; shown = r.shown b }

-- the views of shelves that are read this way
abbrev pub seen_on : {B : Type 0} → Reading B → List B → List Seen
seen_on r bs = map (seen r) bs

-- how views that are seen are read
abbrev pub seeing : Viewing Seen
seeing = viewing (λ v. v.held) (λ v. v.step) (λ v. v.shown)

-- the second is the first on this channel, after it was fed these changes
pub record WasFed (channel : ℤ) (fed : List ChangeMsg) (a b : Seen) : Type 0 where
  pub channel_is : b.channel ≡ channel
  pub held_is : b.held ≡ kept seeing channel fed a
  pub step_same : (h : Held) (w : What) → b.step h w ≡ a.step h w
  pub shown_same : (h : Held) → b.shown h ≡ a.shown h

-- the same for views, one by one
abbrev pub WereFed : ℤ → List ChangeMsg → List Seen → List Seen → Type 0
WereFed channel fed [] [] = Unit {0}
WereFed channel fed (a ∷ xs) (b ∷ ys) = WasFed channel fed a b × WereFed channel fed xs ys
WereFed channel fed xs ys = ⊥

-- these are the lines of views
abbrev pub Show : (ℤ → List ChangeMsg → List ℕ) → List Seen → Type 0
Show shown views = (channel : ℤ) (fed : List ChangeMsg) → shown channel fed ≡ lines_after seeing views channel fed
