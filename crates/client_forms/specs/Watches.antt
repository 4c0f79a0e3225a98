-- What the code of `watch` knows about where it is.
use Rattle.std.specs.Prelude.{◌≡◌, ℕ, ℤ, List, length}
use Rattle.channel_store.specs.declared.copy.ChangeMsg.{ChangeMsg}
use Rattle.etp_values.specs.declared.uri.StoreUri.{StoreUri}
use Rattle.client_forms.specs.Ctl.{Job, Watching, Stage, Opening, Asked, Watched}
use Rattle.client_forms.specs.Shown.{Seen, Show, WereFed}
use Rattle.client_forms.specs.declared.watching.WatchStage.{WatchStage}
use Rattle.client_forms.specs.declared.watching.WatchStage.TheVariants as at

-- it watches a channel: these views were fed this many of its changes, and show these lines
pub record IsFed (shown : ℤ → List ChangeMsg → List ℕ) (channel : ℤ) (fed : List ChangeMsg) (count : ℕ) (seen : List Seen) : Type 0 where
  pub first : List Seen
  pub shows : Show shown first
  pub fed_so : WereFed channel fed first seen
  pub count_is : length fed ≡ count

-- the same at a stage
pub record IsWatching (shown : ℤ → List ChangeMsg → List ℕ) (count : ℕ) (seen : List Seen) (stage : Stage) : Type 0 where
  pub channel : ℤ
  pub fed : List ChangeMsg
  pub stage_is : stage ≡ Watched channel fed
  pub is_fed : IsFed shown channel fed count seen

-- a command to watch this many changes, by what it waits for and how many were fed
abbrev pub StandsAt : WatchStage → ℕ → List Seen → (ℤ → List ChangeMsg → List ℕ) → Stage → Type 0
StandsAt at.Opening count seen shown stage = Show shown seen × (count ≡ 0) × (stage ≡ Opening)
StandsAt at.Asked count seen shown stage = Show shown seen × (count ≡ 0) × (stage ≡ Asked)
StandsAt at.Watched count seen shown stage = IsWatching shown count seen stage

abbrev pub IsWatch : StoreUri → ℕ → WatchStage → ℕ → List Seen → (ℤ → List ChangeMsg → List ℕ) → Job → Stage → Type 0
IsWatch u most now count seen shown job stage = (job ≡ Watching u most) × StandsAt now count seen shown stage
