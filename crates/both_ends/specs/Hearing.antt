-- What is heard of a channel in the notices that a session sends, and what its client returns.
use Rattle.std.specs.Prelude.{◌≡◌, ℕ, ℤ, false, List, [], ◌++◌, fold, map}
use Rattle.std.specs.List.{AllByRecursion, flat_map}
use Rattle.channel_store.specs.declared.change.ChannelChange.{ChannelChange}
use Rattle.client_core.specs.Laws.{told_of}
use Rattle.client_core.specs.declared.got.Got.TheVariants as got
use Rattle.session_core.specs.Granting.{HasNews}
use Rattle.session_core.specs.Sending.{is_spent, numbered}
use Rattle.session_core.specs.Streams.{Heard, hear}
use Rattle.session_core.specs.declared.state.Request.{Request}
use Rattle.both_ends.specs.News.{msg_of, news_parts}

-- what is heard of each channel in notices, if a session has the ids to send them, is what a client returns that returns these changes
abbrev pub NewsAreHeard : Type 0
NewsAreHeard = (r : Request) (limit number blobs id : ℕ) (changes : List ChannelChange)
    → is_spent id (news_parts limit number blobs changes) ≡ false → AllByRecursion (λ (c : ChannelChange). HasNews c.what) changes
    → (channel : ℤ) (k : Heard) → k.part ≡ []
    → fold (hear channel) k (numbered r id (news_parts limit number blobs changes)) ≡ record k { told = k.told ++ flat_map (told_of channel) (map got.Change (map msg_of changes)) }
