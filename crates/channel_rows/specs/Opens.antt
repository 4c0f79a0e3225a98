-- Which channels a session has open.
use Rattle.std.specs.Prelude.{ℕ, zero, suc, ℤ, Bool, true, false, List, [], ◌∷◌, Option, Some, None, get_or, slice_set}
use Rattle.std.specs.List.{list_all}
use Rattle.channel_rows.specs.Ids.{place_of}

-- the flag at an index
abbrev pub flag_at : List Bool → Option ℕ → Bool
flag_at flags None = false
flag_at flags (Some n) = get_or flags n false

-- a flag for each channel, at the index that is its id, up to the last that was opened
abbrev pub is_open : List Bool → ℤ → Bool
is_open flags channel = flag_at flags (place_of channel)

-- the flags with the one at an index set; those that are missing before it are not set
abbrev pub with_flag : List Bool → ℕ → List Bool
with_flag [] zero = true ∷ []
with_flag [] (suc n) = false ∷ with_flag [] n
with_flag (b ∷ bs) zero = true ∷ bs
with_flag (b ∷ bs) (suc n) = b ∷ with_flag bs n

-- the same if there is an index
abbrev pub with_flag_at : List Bool → Option ℕ → List Bool
with_flag_at flags None = flags
with_flag_at flags (Some n) = with_flag flags n

-- after a channel was opened; a number that is no channel's changes nothing
abbrev pub opened : List Bool → ℤ → List Bool
opened flags channel = with_flag_at flags (place_of channel)

-- the flags without the one at an index
abbrev pub without_flag_at : List Bool → Option ℕ → List Bool
without_flag_at flags None = flags
without_flag_at flags (Some n) = slice_set flags n false

-- after a channel was closed
abbrev pub closed : List Bool → ℤ → List Bool
closed flags channel = without_flag_at flags (place_of channel)

-- all of these channels are open
abbrev pub are_open : List Bool → List ℤ → Bool
are_open flags channels = list_all (is_open flags) channels
