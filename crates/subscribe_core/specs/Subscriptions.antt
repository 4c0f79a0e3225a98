-- The subscriptions of a session, and what each call leaves of them.
use Rattle.std.specs.Prelude.{ℕ, ℤ, Bool, ◌||◌, not, nat_le, List, [], ◌∷◌, ◌++◌, length, filter, Option, Some, None, is_some, if◌then◌else◌}
use Rattle.std.specs.List.{flat_map}
use Rattle.std.specs.Ordering.{int_eq}
use Rattle.channel_store.specs.declared.change.ChannelChange.{ChannelChange}
use Rattle.channel_store.specs.declared.subscription.Sub.{Sub}
use Rattle.subscribe_core.specs.Views.{sub_of, told}

-- the subscriptions in the order in which they were added, the place of the journal up to which changes were asked for, and the changes
-- that are still to be sent, as they are sent
pub record Subbed : Type 0 where
  pub subs : List Sub
  pub cursor : ℕ
  pub pending : List ChannelChange

-- no subscription, and nothing to send
abbrev pub nothing : Subbed
nothing = record { subs = []; cursor = 0; pending = [] }

-- a channel has a subscription
abbrev pub has_sub : ℤ → List Sub → Bool
has_sub channel subs = is_some (sub_of channel subs)

-- the subscriptions of the other channels
abbrev pub others : ℤ → List Sub → List Sub
others channel subs = filter (λ s. not (int_eq s.channel channel)) subs

-- the cursor, while there is a subscription
abbrev pub cursor_with : List Sub → ℕ → Option ℕ
cursor_with [] cursor = None
cursor_with (s ∷ ss) cursor = Some cursor

-- the place from which the store is to be asked for changes
abbrev pub asked_from : Subbed → Option ℕ
asked_from v = cursor_with v.subs v.cursor

-- the cursor after one more subscription: the first begins at its own place
abbrev pub cursor_after : List Sub → Sub → ℕ → ℕ
cursor_after [] s cursor = s.from
cursor_after (x ∷ xs) s cursor = cursor

-- one more subscription, unless its channel has one or there are 256
abbrev pub with_sub : Sub → Subbed → Subbed
with_sub s v = if has_sub s.channel v.subs || nat_le 256 (length v.subs) then v
    else record v { subs = v.subs ++ s ∷ []; cursor = cursor_after v.subs s v.cursor }

-- without the subscription of a channel
abbrev pub without : ℤ → Subbed → Subbed
without channel v = record v { subs = others channel v.subs }

-- without any subscription
abbrev pub cleared : Subbed → Subbed
cleared v = record v { subs = [] }

-- after changes came in, up to a place
abbrev pub filled : ℕ → List ChannelChange → Subbed → Subbed
filled upto changes v = record v { cursor = upto; pending = v.pending ++ flat_map (told v.subs) changes }
