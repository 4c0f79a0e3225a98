-- The elements of arrays of every kind.
use Rattle.std.specs.Prelude.{ℕ, ◌*◌, ◌==◌, nat_lt, Bool, List, length}
use Rattle.etp_values.specs.Weight.{weigh, bytes_weight}
use Rattle.etp_values.specs.declared.data.AnyArray.{AnyArray}
use Rattle.etp_values.specs.declared.data.AnyArray.TheVariants.{ArrayOfBoolean, ArrayOfInt, ArrayOfLong, ArrayOfFloat, ArrayOfDouble, ArrayOfString, Bytes}
use Rattle.array_store.specs.Region.{sliced, patched}

-- how many elements there are
abbrev pub elements : AnyArray → ℕ
elements (ArrayOfBoolean l) = length l
elements (ArrayOfInt l) = length l
elements (ArrayOfLong l) = length l
elements (ArrayOfFloat l) = length l
elements (ArrayOfDouble l) = length l
elements (ArrayOfString l) = length l
elements (Bytes b) = length b

-- their size: 1 for a boolean or byte, 4 for an int or float, 8 for a long or double, 8 plus its length for a text
abbrev pub size_of : AnyArray → ℕ
size_of (ArrayOfBoolean l) = length l
size_of (ArrayOfInt l) = 4 * length l
size_of (ArrayOfLong l) = 8 * length l
size_of (ArrayOfFloat l) = 4 * length l
size_of (ArrayOfDouble l) = 8 * length l
size_of (ArrayOfString l) = weigh bytes_weight l
size_of (Bytes b) = length b

-- the index of the kind among the kinds
abbrev pub kind : AnyArray → ℕ
kind (ArrayOfBoolean l) = 0
kind (ArrayOfInt l) = 1
kind (ArrayOfLong l) = 2
kind (ArrayOfFloat l) = 3
kind (ArrayOfDouble l) = 4
kind (ArrayOfString l) = 5
kind (Bytes b) = 6

-- two arrays have elements of one kind
abbrev pub is_same_kind : AnyArray → AnyArray → Bool
is_same_kind a b = kind a == kind b

-- an array has bytes
abbrev pub is_bytes : AnyArray → Bool
is_bytes a = kind a == 6

-- an array has numbers or booleans, whose size does not depend on their values
abbrev pub has_numbers : AnyArray → Bool
has_numbers a = nat_lt (kind a) 5

-- the elements of a region, in an array of these dimensions
abbrev pub slice_of : List ℕ → List ℕ → List ℕ → AnyArray → AnyArray
slice_of ds ss cs (ArrayOfBoolean l) = ArrayOfBoolean (sliced ds ss cs l)
slice_of ds ss cs (ArrayOfInt l) = ArrayOfInt (sliced ds ss cs l)
slice_of ds ss cs (ArrayOfLong l) = ArrayOfLong (sliced ds ss cs l)
slice_of ds ss cs (ArrayOfFloat l) = ArrayOfFloat (sliced ds ss cs l)
slice_of ds ss cs (ArrayOfDouble l) = ArrayOfDouble (sliced ds ss cs l)
slice_of ds ss cs (ArrayOfString l) = ArrayOfString (sliced ds ss cs l)
slice_of ds ss cs (Bytes b) = Bytes (sliced ds ss cs b)

-- the elements with the values of the second array in a region; an array of another kind changes nothing
abbrev pub patch_of : List ℕ → List ℕ → List ℕ → AnyArray → AnyArray → AnyArray
patch_of ds ss cs (ArrayOfBoolean l) (ArrayOfBoolean m) = ArrayOfBoolean (patched ds ss cs l m)
patch_of ds ss cs (ArrayOfInt l) (ArrayOfInt m) = ArrayOfInt (patched ds ss cs l m)
patch_of ds ss cs (ArrayOfLong l) (ArrayOfLong m) = ArrayOfLong (patched ds ss cs l m)
patch_of ds ss cs (ArrayOfFloat l) (ArrayOfFloat m) = ArrayOfFloat (patched ds ss cs l m)
patch_of ds ss cs (ArrayOfDouble l) (ArrayOfDouble m) = ArrayOfDouble (patched ds ss cs l m)
patch_of ds ss cs (ArrayOfString l) (ArrayOfString m) = ArrayOfString (patched ds ss cs l m)
patch_of ds ss cs (Bytes b) (Bytes m) = Bytes (patched ds ss cs b m)
patch_of ds ss cs a b = a
