-- The keys that operations alter, as a transaction finds them: by hashes, which other keys may share.
use Rattle.std.specs.Prelude.{ℕ, ◌≡◌, Bool, false, ◌||◌, List, [], Option, Some, None, fold, nat_eq}
use Rattle.std.specs.Hash.FoldHasher as folding
use Rattle.std.specs.List.{list_any}
use Rattle.std.specs.Option.{option_map}
use Rattle.indexmap.specs.IndexSet.{insert_key}
use Rattle.etp_values.specs.contracts.uri.StoreUriHash.TheImpl.{ghosts as hashed_uri}
use Rattle.etp_values.specs.declared.uri.StoreUri.{StoreUri}
use Rattle.tx_stage.specs.contracts.key.KeyHash.TheImpl.{ghosts as hashed_key}
use Rattle.tx_stage.specs.declared.key.Key.{Key}
use Rattle.tx_stage.specs.declared.key.Key.TheVariants.{Space, Object, Array}
use Rattle.tx_stage.specs.declared.op.Op.{Op}
use Rattle.tx_stage.specs.declared.op.OpWhat.{OpWhat}
use Rattle.tx_stage.specs.declared.op.OpWhat.TheVariants.{SetObject, SetArray, Patch, Gone}
use Rattle.tx_stage.specs.Ops.{op_alters}

-- the hashes of the operations' own keys, and of the objects that they remove
pub record Altered : Type 0 where
  pub own : List ℕ
  pub gone : List ℕ

abbrev pub nothing : Altered
nothing = record { own = []; gone = [] }

-- the hash of what a value feeds to a hasher
unfoldable pub hashed : List (List ℕ) → ℕ
hashed input = folding.finish (fold folding.write folding.initial input)

abbrev pub key_hash : Key → ℕ
key_hash key = hashed (hashed_key.hash_input key)

abbrev pub object_hash : StoreUri → ℕ
object_hash uri = hashed (hashed_uri.hash_input uri)

-- a key is an array of an object with one of these hashes
abbrev pub is_array_of_any : List ℕ → Key → Bool
is_array_of_any gone (Space p) = false
is_array_of_any gone (Object u) = false
is_array_of_any gone (Array k) = list_any (nat_eq (object_hash k.uri)) gone

-- an operation may alter a key: it is one's own, or is taken along with an object that one removes
abbrev pub may_alter : Altered → Key → Bool
may_alter a key = list_any (nat_eq (key_hash key)) a.own || is_array_of_any a.gone key

-- the object that an operation removes
abbrev pub removed_at : Key → Option StoreUri
removed_at (Space p) = None
removed_at (Object u) = Some u
removed_at (Array k) = None

abbrev pub removed : Key → OpWhat → Option StoreUri
removed own (SetObject r) = None
removed own (SetArray r) = None
removed own (Patch ss cs vs) = None
removed own Gone = removed_at own

-- the hash of one more removed object, if there is one
abbrev pub with_gone : List ℕ → Option ℕ → List ℕ
with_gone gone None = gone
with_gone gone (Some n) = insert_key nat_eq gone n

-- the hashes of one more operation's own key, and of the object that it removes
abbrev pub with_hashes : Altered → ℕ → Option ℕ → Altered
with_hashes a own gone = record { own = insert_key nat_eq a.own own; gone = with_gone a.gone gone }

abbrev pub with_op : Altered → Op → Altered
with_op a o = with_hashes a (key_hash o.key) (option_map object_hash (removed o.key o.what))

-- each key that an operation alters is found
abbrev pub FindsAltered : Altered → List Op → Type 0
FindsAltered a ops = (key : Key) → may_alter a key ≡ false → list_any (λ (o : Op). op_alters o key) ops ≡ false
