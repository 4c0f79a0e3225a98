-- What a joiner keeps of a message that awaits data: the objects without the pieces of the current blob, these pieces separately, and the
-- index of the object that awaits each blob.
use Rattle.std.specs.Prelude.{◌≡◌, ◌<◌, ◌≤◌, ◌+◌, ℕ, zero, suc, Bool, true, false, is_none, ◌||◌, List, [], ◌∷◌, length, Option, Some, None, if◌then◌else◌}
use Rattle.std.specs.Str.{bytes_eq}
use Rattle.std.specs.List.{list_any}
use Rattle.std.specs.BTreeMap.{BTreeMap, is_at}
use Rattle.std.specs.Cmp.Lexicographic.{slice_cmp}
use Rattle.std.specs.List.Sorted.{IsStrictlySortedBy}
use Rattle.std.specs.Map.{keys_of, lookup}
use Rattle.std.specs.Ordering.{nat_cmp}
use Rattle.msg_store.specs.declared.store_messages.Chunk.{Chunk}
use Rattle.etp_frame.specs.Joining.{Objects, awaits, awaits_any, is_double, data_size, data_limit, fed, shares_blob}

-- a piece of a blob after which more come
abbrev pub piece : List ℕ → List ℕ → Chunk
piece id bytes = record { blob_id = id; payload = bytes; last = false }

-- the last piece of a blob
abbrev pub last_piece : List ℕ → List ℕ → Chunk
last_piece id bytes = record { blob_id = id; payload = bytes; last = true }

-- the objects with the pieces of the current blob
abbrev pub gathered : Option (List ℕ) → List ℕ → Objects → Objects
gathered None pieces xs = xs
gathered (Some id) pieces xs = fed xs (piece id pieces)

-- the index of the first object that awaits a blob, if the first of all has index k
abbrev pub place_from : ℕ → List ℕ → Objects → Option ℕ
place_from k id [] = None
place_from k id (x ∷ xs) = if awaits id x then Some k else place_from (suc k) id xs

-- an object other than the one at an index awaits a blob
abbrev pub any_but : ℕ → List ℕ → Objects → Bool
any_but k id [] = false
any_but zero id (x ∷ xs) = list_any (awaits id) xs
any_but (suc k) id (x ∷ xs) = awaits id x || any_but k id xs

-- no object but the one at the index that was found, if one was, awaits a blob
abbrev pub Finds : Option ℕ → List ℕ → Objects → Type 0
Finds None id xs = list_any (awaits id) xs ≡ false
Finds (Some k) id xs = (k < length xs) × (any_but k id xs ≡ false)

-- what a table of indexes by blobs has
abbrev pub place_at : List (List ℕ × ℕ) → List ℕ → Option ℕ
place_at entries id = lookup (is_at (slice_cmp nat_cmp id)) entries

abbrev pub FindsEach : List (List ℕ × ℕ) → Objects → Type 0
FindsEach entries xs = (id : List ℕ) → Finds (place_at entries id) id xs

-- the object at an index awaits a blob
abbrev pub awaits_at : ℕ → List ℕ → Objects → Bool
awaits_at k id [] = false
awaits_at zero id (x ∷ xs) = awaits id x
awaits_at (suc k) id (x ∷ xs) = awaits_at k id xs

-- the index of the one object that awaits a blob; none if none does
abbrev pub IsPlace : Option ℕ → List ℕ → Objects → Type 0
IsPlace None id xs = list_any (awaits id) xs ≡ false
IsPlace (Some k) id xs = (k < length xs) × (any_but k id xs ≡ false) × (awaits_at k id xs ≡ true)

-- how many objects await a blob
abbrev pub awaiting : Objects → ℕ
awaiting [] = 0
awaiting (x ∷ xs) = (if awaits_any x then 1 else 0) + awaiting xs

-- the object at an index has these data, and awaits nothing more
abbrev pub filled_at : ℕ → List ℕ → Objects → Objects
filled_at k bytes [] = []
filled_at zero bytes (x ∷ xs) = (x.0, record x.1 { blob_id = None; payload = bytes }) ∷ xs
filled_at (suc k) bytes (x ∷ xs) = x ∷ filled_at k bytes xs

-- the current blob is awaited; if there is none, there are no pieces
abbrev pub IsBegun : Option (List ℕ) → List ℕ → Objects → Type 0
IsBegun None pieces xs = pieces ≡ []
IsBegun (Some id) pieces xs = list_any (awaits id) xs ≡ true

pub record IsKept (places : List (List ℕ × ℕ)) (left size : ℕ) (begun : Option (List ℕ)) (pieces : List ℕ) (xs : Objects) : Type 0 where
  pub finds : FindsEach places xs
  pub single : list_any is_double xs ≡ false
  pub left_is : left ≡ awaiting xs
  pub size_is : size ≡ data_size xs + length pieces
  pub small : size ≤ data_limit
  pub is_begun : IsBegun begun pieces xs
  pub sorted : IsStrictlySortedBy (slice_cmp nat_cmp) (keys_of xs)

-- exactly the indexes of the blobs that objects await; none if two await one blob
abbrev pub PlacesOf : Option (BTreeMap (List ℕ) ℕ) → Objects → Type 0
PlacesOf None xs = shares_blob xs ≡ true
PlacesOf (Some t) xs = (shares_blob xs ≡ false) × FindsEach t.entries xs

-- a table with an index for a blob that an object awaits, if it had none
abbrev pub AddsPlace : Bool → Option (List ℕ) → ℕ → List (List ℕ × ℕ) → List (List ℕ × ℕ) → Type 0
AddsPlace new None k old with_it = (new ≡ true) × (with_it ≡ old)
AddsPlace new (Some id) k old with_it =
    (new ≡ is_none (place_at old id)) × ((q : List ℕ) → place_at with_it q ≡ (if bytes_eq id q then Some k else place_at old q))
