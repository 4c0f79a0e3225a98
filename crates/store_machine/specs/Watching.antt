-- What the code knows about the counts that it carries on from poll to poll.
use Rattle.std.specs.Prelude.{ℕ, zero, suc, pos, ◌≡◌, ◌≤◌, ◌+◌, ◌-◌, List, [], ◌∷◌, Option, Some, None, filter, length, slice_get}
use Rattle.std.specs.List.{flat_map, range_with_len}
use Rattle.channel_store.specs.declared.change.ChannelChange.{ChannelChange}
use Rattle.channel_store.specs.Channels.{Channel}
use Rattle.store_machine.specs.declared.journal.Entry.{Entry}
use Rattle.store_machine.specs.declared.news.Followed.{Followed}
use Rattle.store_machine.specs.declared.news.Window.{Window}
use Rattle.store_machine.specs.declared.watch.Watch.{Watch}
use Rattle.store_machine.specs.Channels.{change_by}
use Rattle.store_machine.specs.News.{lag}
use Rattle.store_machine.specs.Telling.{dues_at, is_followed, marks_at}

-- the due changes of the entry at a place, if there is one, where there are `n` channels
abbrev pub due_of : ℕ → List Followed → ℕ → Option Entry → List ChannelChange
due_of n fs place None = []
due_of n fs place (Some e) = filter (is_followed fs) (flat_map (λ k. change_by place (pos k) e) (range_with_len 0 n))

-- the due changes of this many entries of a history, entry by entry; the first is at `place`
abbrev pub dues_over : ℕ → List Followed → List Entry → ℕ → ℕ → List (List ChannelChange)
dues_over n fs history place zero = []
dues_over n fs history place (suc count) = due_of n fs place (slice_get history place) ∷ dues_over n fs history (place + 1) count

-- a watch has counted entries of a history
pub record IsCounted (history : List Entry) (w : Watch) : Type 0 where
  pub begun : w.from ≤ w.mark
  pub within : w.mark ≤ length history
  pub lag : w.lag ≡ lag (dues_over w.channels w.followed.items history w.from (w.mark - w.from))

-- what a watch says of channels, if it is for the same ones
abbrev pub Knows : List Channel → ℕ → List Followed → Watch → Type 0
Knows cs n fs w = w.channels ≡ n → w.followed.items ≡ fs → w.lag ≡ lag (dues_at cs fs w.from (w.mark - w.from))

-- it is for the same ones, and `from` lies in what it counted
pub record Suits (n : ℕ) (fs : List Followed) (from mark : ℕ) (w : Watch) : Type 0 where
  pub channels : w.channels ≡ n
  pub followed : w.followed.items ≡ fs
  pub begun : w.from ≤ from
  pub inside : from ≤ w.mark
  pub within : w.mark ≤ mark

-- a watch that was just counted, of a journal of the length `mark`
pub record IsFresh (cs : List Channel) (n : ℕ) (fs : List Followed) (mark : ℕ) (w : Watch) : Type 0 where
  pub channels : w.channels ≡ n
  pub followed : w.followed.items ≡ fs
  pub begun : w.from ≤ mark
  pub mark_is : w.mark ≡ mark
  pub lag : w.lag ≡ lag (dues_at cs fs w.from (mark - w.from))

-- a window has the marks of its entries
pub record Looks (cs : List Channel) (fs : List Followed) (w : Window) : Type 0 where
  pub ordered : w.first ≤ w.end
  pub marks : w.marks.items ≡ marks_at cs fs w.first (w.end - w.first)
