-- The existing dataspaces, in byte order of their paths.
use Rattle.std.specs.Prelude.{ℕ, ℤ, Bool, true, List, [], ◌∷◌, Option, Some, None, fold, int_lt}
use Rattle.std.specs.List.{flat_map}
use Rattle.std.specs.BTreeSet.{insert_key}
use Rattle.std.specs.Ordering.{nat_cmp}
use Rattle.std.specs.Cmp.Lexicographic.{slice_cmp}
use Rattle.object_store.specs.declared.records.SpaceRecord.{SpaceRecord}
use Rattle.tx_stage.specs.declared.key.Key.TheVariants.{Space}
use Rattle.tx_stage.specs.declared.value.Value.{Value}
use Rattle.tx_stage.specs.declared.value.Value.TheVariants as valued
use Rattle.store_machine.specs.History.{Change, SetSpace, DropSpace, Operate, value}

-- the paths with one that a change puts, in its place and not twice
abbrev pub with_path : List (List ℕ) → Change → List (List ℕ)
with_path paths (SetSpace path custom at) = insert_key (slice_cmp nat_cmp) paths path
with_path paths (DropSpace path) = paths
with_path paths (Operate o) = paths

-- the default path and all that were ever put, in order
abbrev pub paths : List Change → List (List ℕ)
paths changes = fold with_path ([] ∷ []) changes

-- the dataspace that a value is, or none
abbrev pub dataspace_in : Option Value → List SpaceRecord
dataspace_in None = []
dataspace_in (Some (valued.Space r)) = r ∷ []
dataspace_in (Some (valued.Object r)) = []
dataspace_in (Some (valued.Array r)) = []

-- the dataspaces that exist after these changes
abbrev pub dataspaces : List Change → List SpaceRecord
dataspaces changes = flat_map (λ path. dataspace_in (value (Space path) changes)) (paths changes)

-- whether a dataspace was written after a moment, if one is given
abbrev pub is_newer : Option ℤ → SpaceRecord → Bool
is_newer None r = true
is_newer (Some moment) r = int_lt moment r.written
