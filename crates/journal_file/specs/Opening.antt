-- What is read of a file that is opened.
use Rattle.std.specs.Prelude.{◌≡◌, ◌≢◌, ◌⊎◌, ◌+◌, ◌<◌, ◌≤◌, ◌++◌, ◌∷◌, ℕ, List, length, take, drop, codes, ⊤}
use Rattle.std.specs.Int.{w64, to_be_bytes}
use Rattle.std.specs.declared.option.Option.{Option}
use Rattle.journal_disk.specs.Disks.{LeavesOnly}
use Rattle.journal_file.specs.Layout.{head, blocks, Bad, record_at, AreShort}
use Rattle.journal_file.specs.declared.error.JournalError.{JournalError}
use Rattle.journal_file.specs.declared.error.JournalError.TheVariants as Why

-- nothing was written: a read gives what it gave, and a crash at each moment leaves what it might have left before
pub record Rested {D : Type 0} (seen : D → Option (List ℕ)) (may_leave : D → List ℕ → Type 0) (moment : D → ℕ) (left_since : D → ℕ → List ℕ → Type 0) (old new : D) : Type 0 where
  pub same : seen new ≡ seen old
  pub crash : (c : List ℕ) → may_leave new c → may_leave old c
  pub moments : LeavesOnly moment left_since old new (may_leave old)

-- this piece stands in a file from a place on
abbrev pub StandsAt : List ℕ → ℕ → List ℕ → Type 0
StandsAt f at piece = piece ≡ take (length piece) (drop at f)

-- a length, a spelling of it and a byte stand in a file from a place on
abbrev pub IsRecord : List ℕ → ℕ → List ℕ → ℕ → Type 0
IsRecord f at s next = (more : List ℕ) × (drop at f ≡ (to_be_bytes w64 (length s) ++ s) ++ next ∷ more)

-- the blocks of these spellings stand from the first gate on, and then a gate with this byte
abbrev pub IsRead : List ℕ → List (List ℕ) → ℕ → ℕ → Type 0
IsRead f ss gate byte = (rest : List ℕ) × (drop 24 f ≡ blocks ss ++ byte ∷ rest) × (gate ≡ 24 + length (blocks ss))

-- the blocks of some spellings stand from the first gate on, and then, at this place, an open gate without a record behind it
abbrev pub IsBadGate : List ℕ → ℕ → Type 0
IsBadGate f gate = (ss : List (List ℕ)) × (rest : List ℕ) × (drop 24 f ≡ blocks ss ++ 1 ∷ rest) × AreShort ss × (record_at rest ≡ Bad) × (gate ≡ 24 + length (blocks ss))

-- why a file is refused: its first bytes, its instance, or its first open gate without an entry
abbrev pub IsRefusal : List ℕ → List ℕ → JournalError → Type 0
IsRefusal id f Why.Magic = (length f < 25) ⊎ (take 8 f ≢ codes "ETPJRN01")
IsRefusal id f Why.Instance = (25 ≤ length f) × (take 8 f ≡ codes "ETPJRN01") × (take 16 (drop 8 f) ≢ id)
IsRefusal id f (Why.Entry at) = (take 24 f ≡ head id) × IsBadGate f at
IsRefusal id f Why.TooLong = ⊥
IsRefusal id f Why.DiskFault = ⊤
IsRefusal id f Why.NoMemory = ⊤

-- why the first 25 bytes of a file are refused
abbrev pub IsHeadRefusal : List ℕ → List ℕ → JournalError → Type 0
IsHeadRefusal id bytes Why.Magic = take 8 bytes ≢ codes "ETPJRN01"
IsHeadRefusal id bytes Why.Instance = (take 8 bytes ≡ codes "ETPJRN01") × (take 16 (drop 8 bytes) ≢ id)
IsHeadRefusal id bytes (Why.Entry at) = ⊥
IsHeadRefusal id bytes Why.TooLong = ⊥
IsHeadRefusal id bytes Why.DiskFault = ⊥
IsHeadRefusal id bytes Why.NoMemory = ⊥

-- why a step fails that reads the next block
abbrev pub IsStep : List ℕ → JournalError → Type 0
IsStep f (Why.Entry at) = IsBadGate f at
IsStep f Why.DiskFault = ⊤
IsStep f Why.NoMemory = ⊤
IsStep f Why.Magic = ⊥
IsStep f Why.Instance = ⊥
IsStep f Why.TooLong = ⊥

-- a file begins as that of an instance, and then with a gate of this byte
abbrev pub IsBegun : List ℕ → List ℕ → ℕ → Type 0
IsBegun id f byte = (rest : List ℕ) × (f ≡ head id ++ byte ∷ rest) × (length id ≡ 16)

-- a fault, or memory that ran out
abbrev pub IsOutside : JournalError → Type 0
IsOutside Why.DiskFault = ⊤
IsOutside Why.NoMemory = ⊤
IsOutside Why.Magic = ⊥
IsOutside Why.Instance = ⊥
IsOutside (Why.Entry at) = ⊥
IsOutside Why.TooLong = ⊥
