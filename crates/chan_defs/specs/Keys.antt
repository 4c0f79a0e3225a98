-- The values at the keys of a TOML table, if they are well formed.
use Rattle.std.specs.Prelude.{ℕ, ℤ, pos, negsuc, List, [], ◌∷◌, length, Bool, ◌&&◌, nat_le, codes, Option, Some, None, option_and_then, option_map, if◌then◌else◌}
use Rattle.std.specs.Map.{lookup}
use Rattle.std.specs.Str.{bytes_eq}
use Rattle.toml.specs.Data.{Data, Members, Items, no_items, item, get_member, as_str, as_integer, as_array, as_table}
use Rattle.uuid.specs.Text.{parsed}
use Rattle.etp_values.specs.Uri.{is_type_filter}
use Rattle.server_config.specs.declared.config.ValueKind.{ValueKind}
use Rattle.server_config.specs.declared.config.ValueKind.TheVariants.{Boolean, Int, Long, Float, Double, String, Bytes}

-- a value that passes a test
abbrev pub passing : {A : Type 0} → (A → Bool) → Option A → Option A
passing test o = option_and_then (λ x. if test x then Some x else None) o

-- the text at a key
abbrev pub text_at : List ℕ → Members → Option (List ℕ)
text_at key t = option_and_then as_str (get_member key t)

-- an identifier, in any of its text forms
abbrev pub instance_of : Members → Option (List ℕ)
instance_of t = option_and_then parsed (text_at (codes "instance") t)

-- a name has 1 to 256 bytes
abbrev pub is_name : List ℕ → Bool
is_name s = nat_le 1 (length s) && nat_le (length s) 256

-- the name of a table
abbrev pub name_of : Members → Option (List ℕ)
name_of t = passing is_name (text_at (codes "name") t)

-- a number from low to high
abbrev pub within : ℕ → ℕ → ℤ → Option ℕ
within low high (pos n) = if nat_le low n && nat_le n high then Some n else None
within low high (negsuc n) = None

-- a number, or the greatest one if there is none
abbrev pub number_or : ℕ → ℕ → Option Data → Option ℕ
number_or low high None = Some high
number_or low high (Some d) = option_and_then (within low high) (as_integer d)

-- the number at a key
abbrev pub number_at : List ℕ → ℕ → ℕ → Members → Option ℕ
number_at key low high t = number_or low high (get_member key t)

-- the types in a list that holds nothing else
abbrev pub filters_of : Items → Option (List (List ℕ))
filters_of no_items = Some []
filters_of (item d ds) = option_and_then (λ s. option_map (λ ss. s ∷ ss) (filters_of ds)) (passing is_type_filter (as_str d))

-- the types, and none if there is no list
abbrev pub types_or : Option Data → Option (Option (List (List ℕ)))
types_or None = Some None
types_or (Some d) = option_map (λ ss. Some ss) (option_and_then filters_of (as_array d))

-- the types of a table
abbrev pub types_of : Members → Option (Option (List (List ℕ)))
types_of t = types_or (get_member (codes "types") t)

-- the tables in a list that holds nothing else
abbrev pub tables_in : Items → Option (List Members)
tables_in no_items = Some []
tables_in (item d ds) = option_and_then (λ t. option_map (λ ts. t ∷ ts) (tables_in ds)) (as_table d)

-- the channels' tables, and no table if there is no list
abbrev pub tables_or : Option Data → Option (List Members)
tables_or None = Some []
tables_or (Some d) = option_and_then tables_in (as_array d)

-- the channels' tables of a table
abbrev pub tables_of : Members → Option (List Members)
tables_of t = tables_or (get_member (codes "channel") t)

-- the kinds of values by their names
abbrev pub kinds : List (List ℕ × ValueKind)
kinds = (codes "boolean", Boolean) ∷ (codes "int", Int) ∷ (codes "long", Long) ∷ (codes "float", Float) ∷ (codes "double", Double) ∷ (codes "string", String)
    ∷ (codes "bytes", Bytes) ∷ []

-- the kind of a name
abbrev pub kind_of : List ℕ → Option ValueKind
kind_of s = lookup (bytes_eq s) kinds

-- a unit of measure has at most 64 bytes
abbrev pub is_unit : List ℕ → Bool
is_unit s = nat_le (length s) 64

-- the unit, and the empty one if there is none
abbrev pub unit_or : Option Data → Option (List ℕ)
unit_or None = Some []
unit_or (Some d) = passing is_unit (as_str d)

-- the unit of a table
abbrev pub unit_of : Members → Option (List ℕ)
unit_of t = unit_or (get_member (codes "uom") t)
