-- Which bytes are refused, why, and how many of them are left where the refused item begins.
use Rattle.std.specs.Prelude.{◌≡◌, ℕ, zero, suc, ◌+◌, ◌<◌, ◌≤◌, ◌++◌, ◌⊎◌, ℤ, pos, negsuc, true, false, List, [], ◌∷◌, length}
use Rattle.avro_bin.specs.declared.fault.Why.{Why}
use Rattle.avro_bin.specs.declared.fault.Why.TheVariants as why
use Rattle.avro_bin.specs.Number.{Number, NumberFails}
use Rattle.avro_bin.specs.Value.{nodes}
use Rattle.avro_bin.specs.Schema.{Schema, Schemas, SNull, SBoolean, SInt, SLong, SFloat, SDouble, SBytes, SText, SFixed, SEnum, SArray, SMap, SUnion, SFields, none, more}
use Rattle.avro_bin.specs.Ranges.{fits_32, is_utf8, places, count}
use Rattle.avro_bin.specs.Reading.{Names, has}
use Rattle.avro_bin.specs.Grammar.{BytesSpelled, TextSpelled, PlaceSpelled, Items, Block, EntrySpelled, Spells}
use Rattle.avro_bin.specs.Steps.{Push, Put, Steps}

-- a prefix of the bytes has P, and what follows it has Q
pub record Then {A : Type 0} (P Q : A → List ℕ → Type 0) (bytes : List ℕ) : Type 0 where
  pub value : A
  pub text : List ℕ
  pub rest : List ℕ
  pub parts : bytes ≡ text ++ rest
  pub spelled : P value text
  pub behind : Q value rest

-- the item at the front is refused, for the reason v
abbrev pub Refused : Why → Why → List ℕ → ℕ → Type 0
Refused v w bytes left = (w ≡ v) × (left ≡ length bytes)

-- there is no number at the front
abbrev pub BadNumber : List ℕ → Why → ℕ → Type 0
BadNumber bytes w left = NumberFails 10 bytes w × (left ≡ length bytes)

-- a length below 0, or more than there is
abbrev pub BadLength : ℤ → List ℕ → Why → Type 0
BadLength (pos size) rest w = (length rest < size) × (w ≡ why.Short)
BadLength (negsuc n) rest w = w ≡ why.Length

-- no length with that many bytes
abbrev pub BadBlob : List ℕ → Why → ℕ → Type 0
BadBlob bytes w left = BadNumber bytes w left ⊎ (Then Number (λ x rest. BadLength x rest w) bytes × (left ≡ length bytes))

-- a number that is not a place below the count
abbrev pub NoPlace : ℕ → ℤ → Type 0
NoPlace k (pos p) = k ≤ p
NoPlace k (negsuc n) = Unit {0}

-- no place below the count
abbrev pub BadPlace : ℕ → List ℕ → Why → ℕ → Type 0
BadPlace k bytes w left = BadNumber bytes w left ⊎ (Then Number (λ x rest. NoPlace (places k) x) bytes × Refused why.Branch w bytes left)

-- neither 0 nor 1
abbrev pub BadBoolean : List ℕ → Why → ℕ → Type 0
BadBoolean [] w left = Refused why.Short w [] left
BadBoolean (b ∷ rest) w left = (1 < b) × Refused why.Bool w (b ∷ rest) left

-- fewer bytes than the width
abbrev pub TooShort : ℕ → List ℕ → Why → ℕ → Type 0
TooShort size bytes w left = (length bytes < size) × Refused why.Short w bytes left

-- no length with that many bytes of UTF-8
abbrev pub BadText : List ℕ → Why → ℕ → Type 0
BadText bytes w left = BadBlob bytes w left ⊎ (Then BytesSpelled (λ b rest. is_utf8 b ≡ false) bytes × Refused why.Utf8 w bytes left)

-- a prefix is spelled and fits as a step, and what follows it has Q from then on
pub record Later {S A : Type 0} (P : A → List ℕ → Type 0) (Step : S → A → S → Type 0) (Q : S → List ℕ → Type 0) (s : S) (bytes : List ℕ) : Type 0 where
  pub item : A
  pub next : S
  pub text : List ℕ
  pub rest : List ℕ
  pub parts : bytes ≡ text ++ rest
  pub spelled : P item text
  pub step : Step s item next
  pub behind : Q next rest

module _ {S A : Type 0} (F : S → List ℕ → Why → ℕ → Type 0) (P : A → List ℕ → Type 0) (Step : S → A → S → Type 0) where
  -- an item fails, or it is spelled and a later one fails
  abbrev pub ItemsFail : ℕ → S → List ℕ → Why → ℕ → Type 0
  ItemsFail zero s bytes w left = ⊥
  ItemsFail (suc k) s bytes w left = F s bytes w left ⊎ Later P Step (λ t rest. ItemsFail k t rest w left) s bytes

  -- after a block's size: an item fails, or the items are spelled and don't fill it; outer: the bytes from the size on
  abbrev pub SizedFails : ℕ → S → List ℕ → ℤ → List ℕ → Why → ℕ → Type 0
  SizedFails k s outer (negsuc n) bytes w left = Refused why.Length w outer left
  SizedFails k s outer (pos size) bytes w left =
      ItemsFail k s bytes w left
      ⊎ (Later (λ xs b. Items P xs b × (length xs ≡ k)) (Steps Step) (λ t rest. length rest + size ≡ length bytes → ⊥) s bytes × Refused why.BlockSize w outer left)

  -- after a count: items, or the block's size and items
  abbrev pub BlockFails : S → ℤ → List ℕ → Why → ℕ → Type 0
  BlockFails s (pos k) bytes w left = ItemsFail k s bytes w left
  BlockFails s (negsuc k) bytes w left = BadNumber bytes w left ⊎ Then Number (λ size rest. SizedFails (suc k) s bytes size rest w left) bytes

  -- this number of blocks are spelled, and the count of the next fails, or what follows it
  abbrev pub BlocksFail : ℕ → S → List ℕ → Why → ℕ → Type 0
  BlocksFail zero s bytes w left = BadNumber bytes w left ⊎ Then Number (λ z rest. (z ≡ pos 0 → ⊥) × BlockFails s z rest w left) bytes
  BlocksFail (suc k) s bytes w left = Later (Block P) (Steps Step) (λ t rest. BlocksFail k t rest w left) s bytes

  -- this holds after any number of blocks
  abbrev pub SomeFails : S → List ℕ → Why → ℕ → Type 0
  SomeFails s bytes w left = (k : ℕ) × BlocksFail k s bytes w left

-- a name fails, or occurred before, or its value fails
abbrev pub EntryFails : (ℕ → List ℕ → Why → ℕ → Type 0) → Names → List ℕ → Why → ℕ → Type 0
EntryFails F s bytes w left =
    BadText bytes w left
    ⊎ Then TextSpelled (λ k rest. ((has k s.0 ≡ true) × Refused why.DoubleKey w bytes left) ⊎ ((has k s.0 ≡ false) × F s.1 rest w left)) bytes

-- no value of the schema, of at most n nodes, is at the front: some of its parts are spelled, and the next is refused
abbrev mutual
  pub Fails : Schema → ℕ → List ℕ → Why → ℕ → Type 0
  Fails s zero bytes w left = Refused why.Limit w bytes left
  Fails SLong (suc n) bytes w left = BadNumber bytes w left
  Fails SInt (suc n) bytes w left = BadNumber bytes w left ⊎ (Then Number (λ x rest. fits_32 x ≡ false) bytes × Refused why.Range w bytes left)
  Fails SNull (suc n) bytes w left = ⊥
  Fails SBoolean (suc n) bytes w left = BadBoolean bytes w left
  Fails SFloat (suc n) bytes w left = TooShort 4 bytes w left
  Fails SDouble (suc n) bytes w left = TooShort 8 bytes w left
  Fails SBytes (suc n) bytes w left = BadBlob bytes w left
  Fails SText (suc n) bytes w left = BadText bytes w left
  Fails (SFixed size) (suc n) bytes w left = TooShort size bytes w left
  Fails (SEnum k) (suc n) bytes w left = BadPlace k bytes w left
  Fails (SUnion ss) (suc n) bytes w left = BadPlace (count ss) bytes w left ⊎ Then (PlaceSpelled (count ss)) (λ p rest. BranchFails ss p n rest w left) bytes
  Fails (SFields ss) (suc n) bytes w left = FieldsFail ss n bytes w left
  Fails (SArray s) (suc n) bytes w left = SomeFails (λ r. Fails s r.1) (Spells s) Push ([], n) bytes w left
  Fails (SMap s) (suc n) bytes w left = SomeFails (EntryFails (Fails s)) (EntrySpelled (Spells s)) Put ([], n) bytes w left

  -- a field fails, or it is spelled, and a later one fails with the nodes that are left
  pub FieldsFail : Schemas → ℕ → List ℕ → Why → ℕ → Type 0
  FieldsFail none n bytes w left = ⊥
  FieldsFail (more s ss) n bytes w left =
      Fails s n bytes w left
      ⊎ Then (Spells s) (λ v rest. (m : ℕ) × (n ≡ nodes v + m) × FieldsFail ss m rest w left) bytes

  -- the value of the branch at a place fails
  pub BranchFails : Schemas → ℕ → ℕ → List ℕ → Why → ℕ → Type 0
  BranchFails none p n bytes w left = ⊥
  BranchFails (more s ss) zero n bytes w left = Fails s n bytes w left
  BranchFails (more s ss) (suc p) n bytes w left = BranchFails ss p n bytes w left
