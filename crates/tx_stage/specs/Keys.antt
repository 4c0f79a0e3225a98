-- Keys: which are the same, and what each belongs to.
use Rattle.std.specs.Prelude.{ℕ, Bool, false, List}
use Rattle.std.specs.Str.{bytes_eq}
use Rattle.etp_values.specs.SameUri.{same_uri}
use Rattle.array_store.specs.Table as table
use Rattle.array_store.specs.Table.{is_of_object}
use Rattle.tx_stage.specs.declared.key.Key.{Key}
use Rattle.tx_stage.specs.declared.key.Key.TheVariants.{Space, Object, Array}

-- two keys name one thing
abbrev pub same_key : Key → Key → Bool
same_key (Space p) (Space q) = bytes_eq p q
same_key (Space p) (Object v) = false
same_key (Space p) (Array l) = false
same_key (Object u) (Space q) = false
same_key (Object u) (Object v) = same_uri u v
same_key (Object u) (Array l) = false
same_key (Array k) (Space q) = false
same_key (Array k) (Object v) = false
same_key (Array k) (Array l) = table.same_key k l

-- the path of the dataspace that a key is or belongs to
abbrev pub space_of : Key → List ℕ
space_of (Space p) = p
space_of (Object u) = u.space
space_of (Array k) = k.uri.space

-- what has to exist if a key is set: for an object its dataspace, for an array its object
abbrev pub owner : Key → Key
owner (Space p) = Space p
owner (Object u) = Space u.space
owner (Array k) = Object k.uri

-- the second key is an array of the object that the first one is
abbrev pub is_array_of : Key → Key → Bool
is_array_of (Space p) key = false
is_array_of (Object u) (Space q) = false
is_array_of (Object u) (Object v) = false
is_array_of (Object u) (Array k) = is_of_object u k
is_array_of (Array k) key = false
