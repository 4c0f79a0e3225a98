-- Lists of calls: what came in, what was handed out, what is left.
use Rattle.std.specs.Prelude.{ℕ, ℤ, ◌≡◌, ◌≤◌, ◌+◌, false, List, [], ◌∷◌, ◌++◌, length, take, drop}
use Rattle.std.specs.List.{flat_map}
use Rattle.channel_store.specs.declared.change.ChannelChange.{ChannelChange}
use Rattle.channel_store.specs.declared.subscription.Sub.{Sub}
use Rattle.subscribe_core.specs.Views.{told}
use Rattle.subscribe_core.specs.Subscriptions.{Subbed, has_sub, with_sub, without, cleared, filled}

-- a call that changes something
pub data Call : Type 0 where
  Add : (sub : Sub) → Call
  Remove : (channel : ℤ) → Call
  RemoveAll : Call
  Fill : (upto : ℕ) (changes : List ChannelChange) → Call
  Next : Call

-- what a call leaves
abbrev pub after : Call → Subbed → Subbed
after (Add sub) v = with_sub sub v
after (Remove channel) v = without channel v
after RemoveAll v = cleared v
after (Fill upto changes) v = filled upto changes v
after Next v = record v { pending = drop 1 v.pending }

-- what calls leave
abbrev pub after_all : List Call → Subbed → Subbed
after_all [] v = v
after_all (c ∷ cs) v = after_all cs (after c v)

-- what a call hands out
abbrev pub handed_by : Call → Subbed → List ChannelChange
handed_by (Add sub) v = []
handed_by (Remove channel) v = []
handed_by RemoveAll v = []
handed_by (Fill upto changes) v = []
handed_by Next v = take 1 v.pending

-- what calls hand out, in order
abbrev pub handed : List Call → Subbed → List ChannelChange
handed [] v = []
handed (c ∷ cs) v = handed_by c v ++ handed cs (after c v)

-- what the changes of a call are sent as, each to the subscription that its channel has at that moment
abbrev pub views_by : Call → Subbed → List ChannelChange
views_by (Add sub) v = []
views_by (Remove channel) v = []
views_by RemoveAll v = []
views_by (Fill upto changes) v = flat_map (told v.subs) changes
views_by Next v = []

-- what the changes of calls are sent as, in order
abbrev pub views_in : List Call → Subbed → List ChannelChange
views_in [] v = []
views_in (c ∷ cs) v = views_by c v ++ views_in cs (after c v)

-- what was handed out, followed by what is pending, is what was pending, followed by what the changes that came in are sent as
abbrev pub HandedIsTold : Type 0
HandedIsTold = (cs : List Call) (v : Subbed) → handed cs v ++ (after_all cs v).pending ≡ v.pending ++ views_in cs v

-- the changes of a call fit the room
abbrev pub Fits : Call → Subbed → Type 0
Fits (Add sub) v = Unit {0}
Fits (Remove channel) v = Unit {0}
Fits RemoveAll v = Unit {0}
Fits (Fill upto changes) v = length v.pending + length changes ≤ 256
Fits Next v = Unit {0}

-- the changes of each call fit
abbrev pub AllFit : List Call → Subbed → Type 0
AllFit [] v = Unit {0}
AllFit (c ∷ cs) v = Fits c v × AllFit cs (after c v)

-- at most 256 changes are pending
abbrev pub FewPending : Type 0
FewPending = (cs : List Call) (v : Subbed) → AllFit cs v → length v.pending ≤ 256 → length (after_all cs v).pending ≤ 256

-- there are at most 256 subscriptions
abbrev pub FewSubs : Type 0
FewSubs = (cs : List Call) (v : Subbed) → length v.subs ≤ 256 → length (after_all cs v).subs ≤ 256

-- no two subscriptions are of one channel
abbrev pub AreApart : List Sub → Type 0
AreApart [] = Unit {0}
AreApart (s ∷ ss) = (has_sub s.channel ss ≡ false) × AreApart ss

-- there is at most one subscription of a channel
abbrev pub OneEach : Type 0
OneEach = (cs : List Call) (v : Subbed) → AreApart v.subs → AreApart (after_all cs v).subs
