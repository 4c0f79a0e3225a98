-- What a contract sees of an `ArrayStore`, and what its calls leave at each key.
use Rattle.std.specs.Prelude.{ℕ, ◌≡◌, ℤ, Bool, ◌&&◌, List, Option, Some, None, if◌then◌else◌, filter, length}
use Rattle.std.specs.Map.{lookup}
use Rattle.std.specs.Option.{option_map}
use Rattle.std.specs.Str.{bytes_eq}
use Rattle.etp_values.specs.declared.data.AnyArray.{AnyArray}
use Rattle.etp_values.specs.declared.uri.StoreUri.{StoreUri}
use Rattle.array_store.specs.declared.error.ArrayError.{ArrayError}
use Rattle.etp_values.specs.SameUri.{same_uri}
use Rattle.array_store.specs.declared.key.ArrayKey.{ArrayKey}
use Rattle.array_store.specs.declared.record.ArrayRecord.{ArrayRecord}
use Rattle.array_store.specs.Shape.{sizes}
use Rattle.array_store.specs.Arrays.{is_bytes, patch_of}
use Rattle.array_store.specs.Refusals.{record_refusal, write_refusal}

-- the arrays by their keys, and how many more fit without allocating
pub record Arrays : Type 0 where
  pub arrays : List (ArrayKey × ArrayRecord)
  pub spare : ℕ

-- two keys name one array: the same object, and the same path
abbrev pub same_key : ArrayKey → ArrayKey → Bool
same_key a b = same_uri a.uri b.uri && bytes_eq a.path b.path

-- the array of a key among these
abbrev pub array_among : List (ArrayKey × ArrayRecord) → ArrayKey → Option ArrayRecord
array_among arrays key = lookup (same_key key) arrays

-- the array of a key
abbrev pub array_in : Arrays → ArrayKey → Option ArrayRecord
array_in t key = array_among t.arrays key

-- the array that a put leaves: it was created when the previous one was, or now if there was none
abbrev pub put_array : Option ArrayRecord → ArrayRecord → ArrayRecord
put_array None r = record r { created = r.written }
put_array (Some before) r = record r { created = before.created }

-- the array that a patch leaves
abbrev pub patch_array : ArrayRecord → List ℤ → List ℤ → AnyArray → ArrayRecord
patch_array r ss cs values = record r { values = patch_of (sizes r.dims) (sizes ss) (sizes cs) r.values values }

-- the same array, last written at this time
abbrev pub rewritten : ArrayRecord → ℤ → ArrayRecord
rewritten r at = record r { written = at }

-- the second record, or the first if that is refused
abbrev pub unless_refused : Option ArrayError → ArrayRecord → ArrayRecord → ArrayRecord
unless_refused None old new = new
unless_refused (Some e) old new = old

-- an array with values in a region, written at this time; if they do not fit, as it was
abbrev pub patched_at : ℤ → List ℤ → List ℤ → AnyArray → ArrayRecord → ArrayRecord
patched_at at ss cs vs r = unless_refused (write_refusal r ss cs vs) r (rewritten (patch_array r ss cs vs) at)

-- the same without allocating: an array of bytes stays as it was
abbrev pub patched_in_place : ℤ → List ℤ → List ℤ → AnyArray → ArrayRecord → ArrayRecord
patched_in_place at ss cs vs r = if is_bytes r.values then r else patched_at at ss cs vs r

-- one key has this array, and the others have what they had
abbrev pub SetsAmong : List (ArrayKey × ArrayRecord) → List (ArrayKey × ArrayRecord) → ArrayKey → ArrayRecord → Type 0
SetsAmong old new key r = (q : ArrayKey) → array_among new q ≡ (if same_key q key then Some r else array_among old q)

-- the same for a store
abbrev pub Sets : Arrays → Arrays → ArrayKey → ArrayRecord → Type 0
Sets old new key r = SetsAmong old.arrays new.arrays key r

-- one key's array, if there is one, is patched in place, and the others are what they were
abbrev pub PatchesAmong : List (ArrayKey × ArrayRecord) → List (ArrayKey × ArrayRecord) → ArrayKey → ℤ → List ℤ → List ℤ → AnyArray → Type 0
PatchesAmong old new key at ss cs vs = (q : ArrayKey)
    → array_among new q ≡ (if same_key q key then option_map (patched_in_place at ss cs vs) (array_among old q) else array_among old q)

-- the key of an array of this object
abbrev pub is_of_object : StoreUri → ArrayKey → Bool
is_of_object uri key = same_uri uri key.uri

-- the key of an array in this dataspace
abbrev pub is_in_space : List ℕ → ArrayKey → Bool
is_in_space path key = bytes_eq path key.uri.space

-- the keys that are removed have no array, and the others have what they had
abbrev pub DropsAmong : List (ArrayKey × ArrayRecord) → List (ArrayKey × ArrayRecord) → (ArrayKey → Bool) → Type 0
DropsAmong old new goes = (q : ArrayKey) → array_among new q ≡ (if goes q then None else array_among old q)

-- the same for a store
abbrev pub Drops : Arrays → Arrays → (ArrayKey → Bool) → Type 0
Drops old new goes = DropsAmong old.arrays new.arrays goes

-- how many arrays have such keys
abbrev pub how_many : (ArrayKey → Bool) → Arrays → ℕ
how_many goes t = length (filter (λ e. goes e.0) t.arrays)

-- every array is one that a put accepts
abbrev pub AllSound : List (ArrayKey × ArrayRecord) → Type 0
AllSound arrays = (key : ArrayKey) (r : ArrayRecord) → lookup (same_key key) arrays ≡ Some r → record_refusal r ≡ None
