-- The places of the journal at which a channel is changed, as marks.
use Rattle.std.specs.Prelude.{ℕ, ◌+◌, ◌==◌, ◌&&◌, ◌||◌, nat_le, is_some, find, Bool, List, [], ◌∷◌}
use Rattle.channel_store.specs.declared.change.ChannelChange.{ChannelChange}

-- marks of the places from `first` on: those that were set, and those of the places from `from` on at which there is a change
abbrev pub marked : ℕ → ℕ → List ChannelChange → List Bool → List Bool
marked from first changes [] = []
marked from first changes (b ∷ bs) = (b || (nat_le from first && is_some (find (λ (x : ChannelChange). x.place == first) changes))) ∷ marked from (first + 1) changes bs
