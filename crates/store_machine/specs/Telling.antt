-- What the code knows about the channels that are followed, and about the changes that it takes for them.
use Rattle.std.specs.Prelude.{ℕ, zero, suc, min, ◌≡◌, ◌+◌, ◌==◌, ◌&&◌, nat_le, int_lt, Bool, true, false, List, [], ◌∷◌, ◌++◌, Option, Some, None, if◌then◌else◌, length, find, fold, replicate}
use Rattle.std.specs.List.{list_any}
use Rattle.std.specs.Option.{option_to_list}
use Rattle.std.specs.Ordering.{int_eq}
use Rattle.etp_values.specs.Weight.{weigh}
use Rattle.channel_points.specs.Splits.{RisesBy}
use Rattle.channel_store.specs.declared.change.ChannelChange.{ChannelChange}
use Rattle.channel_store.specs.declared.subscription.Sub.{Sub}
use Rattle.channel_store.specs.Channels.{Channel}
use Rattle.channel_store.specs.Marks.{marked}
use Rattle.channel_store.specs.Store.{changes_at}
use Rattle.channel_store.specs.Told.{change_bytes}
use Rattle.store_machine.specs.declared.news.Followed.{Followed}
use Rattle.store_machine.specs.News.{fits_behind, is_due, joined, taken}

-- ---- the channels that are followed

-- a channel that is followed is changed at a place at or past its first one
abbrev pub is_followed : List Followed → ChannelChange → Bool
is_followed fs c = list_any (λ (f : Followed). int_eq f.channel c.channel && nat_le f.from c.place) fs

-- channels in the order of their ids, followed wherever these subscriptions have them due
pub record Follows (subs : List Sub) (fs : List Followed) : Type 0 where
  pub rise : RisesBy (λ (f g : Followed). int_lt f.channel g.channel ≡ true) fs
  pub same : (c : ChannelChange) → is_followed fs c ≡ is_due subs c

-- this many of these channels are below a subscription's
abbrev pub below : List Followed → Sub → ℕ
below [] s = 0
below (f ∷ fs) s = if int_lt f.channel s.channel then suc (below fs s) else 0

-- the place from which a channel is followed, if it is the subscription's
abbrev pub same_from : Option Followed → Sub → Option ℕ
same_from None s = None
same_from (Some f) s = if int_eq f.channel s.channel then Some f.from else None

-- a subscription's channel, followed from a place on
abbrev pub from_place : Sub → ℕ → Followed
from_place s place = record { channel = s.channel; from = place }

-- the channels with that of a further subscription
abbrev pub followed_with : List Followed → Sub → List Followed
followed_with [] s = from_place s s.from ∷ []
followed_with (f ∷ fs) s =
    if int_lt f.channel s.channel then f ∷ followed_with fs s
    else (if int_eq f.channel s.channel then from_place s (min f.from s.from) ∷ fs else from_place s s.from ∷ f ∷ fs)

-- the channels of subscriptions
abbrev pub followed_by : List Sub → List Followed
followed_by subs = fold followed_with [] subs

-- ---- what is due

-- the change of a channel at a place, if it is followed there
abbrev pub due_here : List Channel → Followed → ℕ → Option ChannelChange
due_here cs f place = if nat_le f.from place then find (λ (x : ChannelChange). x.place == place) (changes_at cs f.channel) else None

-- the due changes of the entry at a place, by the changes that the channels keep
abbrev pub due_at : List Channel → List Followed → ℕ → List ChannelChange
due_at cs [] place = []
due_at cs (f ∷ fs) place = option_to_list (due_here cs f place) ++ due_at cs fs place

-- the due changes of this many entries, entry by entry; the first is at `place`
abbrev pub dues_at : List Channel → List Followed → ℕ → ℕ → List (List ChannelChange)
dues_at cs fs place zero = []
dues_at cs fs place (suc count) = due_at cs fs place ∷ dues_at cs fs (place + 1) count

-- ---- marks of entries

-- the marks that were set, and those of the entries with due changes, channel by channel; the first is that of the entry at `place`
abbrev pub marked_by : List Channel → List Followed → ℕ → List Bool → List Bool
marked_by cs [] place marks = marks
marked_by cs (f ∷ fs) place marks = marked_by cs fs place (marked f.from place (changes_at cs f.channel) marks)

-- the marks of this many entries, none of which was set before
abbrev pub marks_at : List Channel → List Followed → ℕ → ℕ → List Bool
marks_at cs fs place count = marked_by cs fs place (replicate count false)

-- how many marks are set
abbrev pub set_marks : List Bool → ℕ
set_marks [] = 0
set_marks (b ∷ bs) = if b then suc (set_marks bs) else set_marks bs

-- ---- what is taken

-- an entry's due changes were taken after others, if they fit
abbrev pub Takes : Bool → List ChannelChange → List ChannelChange → List ChannelChange → Type 0
Takes true due old new = (fits_behind (length old) (weigh change_bytes old) due ≡ true) × (new ≡ old ++ due)
Takes false due old new = (fits_behind (length old) (weigh change_bytes old) due ≡ false) × (new ≡ old)

-- the changes that were taken up to a place, and those that are taken from there on, are all that are taken of `ds`, whose first entry is
-- at `first`
pub record TakesOn (ds : List (List ChannelChange)) (first place : ℕ) (xs : List ChannelChange) (rest : List (List ChannelChange)) : Type 0 where
  pub upto : place + length (taken (length xs) (weigh change_bytes xs) rest) ≡ first + length (taken 0 0 ds)
  pub changes : xs ++ joined (taken (length xs) (weigh change_bytes xs) rest) ≡ joined (taken 0 0 ds)
