-- Why an array, a region or values are refused, in the order of the tests.
use Rattle.std.specs.Prelude.{ℕ, ◌≡◌, ◌==◌, ℤ, Bool, true, not, ◌&&◌, nat_lt, nat_le, if◌then◌else◌, List, length, Option, Some, None, Result, Ok, Err, MatchResult}
use Rattle.std.specs.List.{list_any}
use Rattle.std.specs.Option.{unwrap_or}
use Rattle.etp_values.specs.Weight.{bytes_weight, capped, weigh}
use Rattle.etp_values.specs.declared.data.AnyArray.{AnyArray}
use Rattle.etp_values.specs.declared.data.AnyArray.TheVariants.{ArrayOfString}
use Rattle.array_store.specs.declared.error.ArrayError.{ArrayError}
use Rattle.array_store.specs.declared.error.ArrayError.TheVariants.{Rank, Outside, Kind, Count, TooLarge, NoMemory}
use Rattle.array_store.specs.declared.record.ArrayRecord.{ArrayRecord}
use Rattle.array_store.specs.Shape.{sizes, volume, is_negative}
use Rattle.array_store.specs.Region.{is_region}
use Rattle.array_store.specs.Arrays.{elements, size_of, is_same_kind, is_bytes, patch_of}

-- an array has 1 to 8 dimensions
abbrev pub is_rank : ℕ → Bool
is_rank n = nat_le 1 n && nat_le n 8

-- that many elements, of which an array has at most 4,194,304
abbrev pub bounded : ℕ → Result ℕ ArrayError
bounded n = if nat_lt 4194304 n then Err TooLarge else Ok n

-- the volume, which must be the number of elements if that is given
abbrev pub counted : Option ℕ → ℕ → Result ℕ ArrayError
counted None n = bounded n
counted (Some count) n = if count == n then bounded n else Err Count

-- how many elements an array of these dimensions has
abbrev pub dims_of : List ℤ → Option ℕ → Result ℕ ArrayError
dims_of zs count = if not (is_rank (length zs)) then Err Rank
    else if list_any is_negative zs then Err Outside
    else counted count (volume (sizes zs))

-- the size of elements is at most 33,554,432
abbrev pub weight_refusal : AnyArray → Option ArrayError
weight_refusal values = if nat_lt 33554432 (size_of values) then Some TooLarge else None

-- the same for texts
abbrev pub texts_refusal : List (List ℕ) → Option ArrayError
texts_refusal texts = weight_refusal (ArrayOfString texts)

-- why elements are refused after this test of their dimensions
abbrev pub elements_refusal : AnyArray → Result ℕ ArrayError → Option ArrayError
elements_refusal values (Ok n) = weight_refusal values
elements_refusal values (Err e) = Some e

-- why a record is not an array
abbrev pub record_refusal : ArrayRecord → Option ArrayError
record_refusal r = elements_refusal r.values (dims_of r.dims (Some (elements r.values)))

-- why starts and counts are not a region of an array of these dimensions
abbrev pub region_refusal : List ℤ → List ℤ → List ℤ → Option ArrayError
region_refusal ds ss cs = if not (length ss == length ds && length cs == length ds) then Some Rank
    else if not (is_region ds ss cs) then Some Outside
    else None

-- why values don't fit a region of an array with these elements
abbrev pub values_refusal : AnyArray → List ℤ → AnyArray → Option ArrayError
values_refusal held cs values = if not (is_same_kind held values) then Some Kind
    else if not (elements values == volume (sizes cs)) then Some Count
    else None

-- the first of two refusals
abbrev pub first_refusal : Option ArrayError → Option ArrayError → Option ArrayError
first_refusal None later = later
first_refusal (Some e) later = Some e

-- why a patch is refused: the region, then the values, then the size that the array would have
abbrev pub patch_refusal : ArrayRecord → List ℤ → List ℤ → AnyArray → Option ArrayError
patch_refusal r ss cs values = first_refusal (region_refusal r.dims ss cs) (first_refusal (values_refusal r.values cs values) (weight_refusal (patch_of (sizes r.dims) (sizes ss) (sizes cs) r.values values)))

-- why a slice of a record is refused: the record itself, otherwise the region
abbrev pub slice_refusal : ArrayRecord → List ℤ → List ℤ → Option ArrayError
slice_refusal r ss cs = first_refusal (record_refusal r) (region_refusal r.dims ss cs)

-- why a patch of a record is refused: the record itself, otherwise the patch
abbrev pub write_refusal : ArrayRecord → List ℤ → List ℤ → AnyArray → Option ArrayError
write_refusal r ss cs values = first_refusal (record_refusal r) (patch_refusal r ss cs values)

-- a call is done if it is not refused, and otherwise answers the refusal; if it is not refused it can only run out of memory
abbrev pub Refuses : {X : Type 0} → Result X ArrayError → Option ArrayError → Type 0
Refuses result refusal = MatchResult result (λ _. refusal ≡ None) (λ e. e ≡ unwrap_or refusal NoMemory)

-- the size of elements, if looking at them is not refused, and otherwise why it is
abbrev pub Counts : Result ℕ ArrayError → Option ArrayError → AnyArray → Type 0
Counts (Ok n) refusal values = (refusal ≡ None) × (n ≡ capped (size_of values))
Counts (Err e) refusal values = refusal ≡ Some e

-- an array as it is after a patch with its size, or as it was, with the reason
abbrev pub Patches : Result (AnyArray × ℕ) (AnyArray × ArrayError) → AnyArray → AnyArray → Type 0
Patches (Ok p) held wanted = (p.0 ≡ wanted) × (weight_refusal wanted ≡ None) × (p.1 ≡ capped (size_of wanted))
Patches (Err p) held wanted = (p.0 ≡ held) × (p.1 ≡ unwrap_or (weight_refusal wanted) NoMemory) × (p.1 ≡ NoMemory → is_bytes held ≡ true)

-- texts as they are after a patch with their size, or as they were, if they would be too large
abbrev pub PatchesTexts : Result (List (List ℕ) × ℕ) (List (List ℕ)) → List (List ℕ) → List (List ℕ) → Type 0
PatchesTexts (Ok p) held wanted = (p.0 ≡ wanted) × (texts_refusal wanted ≡ None) × (p.1 ≡ capped (weigh bytes_weight wanted))
PatchesTexts (Err l) held wanted = (l ≡ held) × (texts_refusal wanted ≡ Some TooLarge)
