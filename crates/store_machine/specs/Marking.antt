-- What the code knows about which entries altered which keys.
use Rattle.std.specs.Prelude.{ℕ, ◌≡◌, ◌≤◌, ◌&&◌, Bool, true, false, List, [], ◌∷◌, Option, None, drop, length}
use Rattle.std.specs.List.{All, flat_map, list_any}
use Rattle.entry_index.specs.Index.{places_of}
use Rattle.entry_index.specs.Where.{first_where, places_where}
use Rattle.tx_stage.specs.declared.key.Key.{Key}
use Rattle.tx_stage.specs.declared.key.Key.TheVariants.{Space, Object, Array}
use Rattle.tx_stage.specs.declared.op.OpWhat.{OpWhat}
use Rattle.tx_stage.specs.declared.op.OpWhat.TheVariants.{SetObject, SetArray, Patch, Gone}
use Rattle.tx_stage.specs.Keys.{same_key}
use Rattle.tx_stage.specs.Ops.{suits}
use Rattle.store_machine.specs.declared.alterations.Alterations.{Alterations}
use Rattle.store_machine.specs.declared.call.SpacePut.{SpacePut}
use Rattle.store_machine.specs.declared.journal.Entry.{Entry}
use Rattle.store_machine.specs.Clash.{least}
use Rattle.store_machine.specs.History.{Change, SetSpace, DropSpace, Operate, entry_changes}
use Rattle.store_machine.specs.Watching.{IsCounted}

-- ---- the keys that a change alters itself, and what it removes with everything in it

abbrev pub key_if : Bool → Key → List Key
key_if true key = key ∷ []
key_if false key = []

abbrev pub own_keys : Change → List Key
own_keys (SetSpace path custom at) = Space path ∷ []
own_keys (DropSpace path) = Space path ∷ []
own_keys (Operate o) = key_if (suits o.key o.what) o.key

abbrev pub is_removal : OpWhat → Bool
is_removal (SetObject r) = false
is_removal (SetArray r) = false
is_removal (Patch ss cs vs) = false
is_removal Gone = true

abbrev pub whole_keys : Change → List Key
whole_keys (SetSpace path custom at) = []
whole_keys (DropSpace path) = Space path ∷ []
whole_keys (Operate o) = key_if (is_removal o.what && suits o.key o.what) o.key

-- the key of a dataspace that is put
abbrev pub put_key : SpacePut → Key
put_key p = Space p.path

-- the owners of a key
abbrev pub containers : Key → List Key
containers (Space p) = []
containers (Object u) = Space u.space ∷ []
containers (Array k) = Object k.uri ∷ Space k.uri.space ∷ []

-- ---- entries

-- an entry alters a key itself, or removes it with everything in it
abbrev pub entry_owns : Key → Entry → Bool
entry_owns key e = list_any (same_key key) (flat_map own_keys (entry_changes e))

abbrev pub entry_removes : Key → Entry → Bool
entry_removes key e = list_any (same_key key) (flat_map whole_keys (entry_changes e))

-- these changes alter these keys themselves, and remove these with everything in them
pub record Alters (changes : List Change) (own whole : List Key) : Type 0 where
  pub own_is : own ≡ flat_map own_keys changes
  pub whole_is : whole ≡ flat_map whole_keys changes

-- the first place whose entry removed the owner of a key, as it is looked up
abbrev pub owner_clash : Key → ℕ → List Entry → Option ℕ
owner_clash (Space p) from history = None
owner_clash (Object u) from history = first_where (entry_removes (Space u.space)) from (drop from history)
owner_clash (Array k) from history = least (first_where (entry_removes (Object k.uri)) from (drop from history)) (first_where (entry_removes (Space k.uri.space)) from (drop from history))

-- an index has the places of the entries that altered each key itself, and of those that removed it with everything in it; the watches have
-- counted entries
pub record Marks (a : Alterations) (history : List Entry) : Type 0 where
  pub own : (key : Key) → places_of same_key a.own key ≡ places_where (entry_owns key) 0 history
  pub whole : (key : Key) → places_of same_key a.whole key ≡ places_where (entry_removes key) 0 history
  pub own_past : a.own.past ≤ length history
  pub whole_past : a.whole.past ≤ length history
  pub watched : All (IsCounted history) a.watches.items
