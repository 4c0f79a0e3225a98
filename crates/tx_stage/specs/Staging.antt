-- What a transaction has staged, and what it refuses.
use Rattle.std.specs.Prelude.{ℕ, ◌+◌, ◌==◌, Bool, not, List, [], ◌∷◌, ◌++◌, Option, Some, None, Result, Ok, Err, if◌then◌else◌, nat_lt, nat_le, length}
use Rattle.std.specs.List.{list_any}
use Rattle.std.specs.Str.{bytes_eq}
use Rattle.etp_values.specs.Weight.{weigh}
use Rattle.tx_stage.specs.declared.error.StageError.{StageError}
use Rattle.tx_stage.specs.declared.error.StageError.TheVariants.{ReadOnly, Space, Operations, Bytes, Keys}
use Rattle.tx_stage.specs.declared.key.Key.{Key}
use Rattle.tx_stage.specs.declared.op.Op.{Op}
use Rattle.tx_stage.specs.declared.touch.Touch.{Touch}
use Rattle.tx_stage.specs.Counted.{op_bytes}
use Rattle.tx_stage.specs.Keys.{same_key, space_of}

-- what a contract sees of a transaction: its id, whether it only reads, the dataspaces that it was started for, its operations
-- in order, and what it touched
pub record Transaction : Type 0 where
  pub id : List ℕ
  pub read_only : Bool
  pub spaces : List (List ℕ)
  pub ops : List Op
  pub touched : List Touch

-- whether it may touch a dataspace: one that it was started for, or the default one if there are none
abbrev pub has_space : List (List ℕ) → List ℕ → Bool
has_space spaces path = if length spaces == 0 then length path == 0 else list_any (bytes_eq path) spaces

abbrev pub is_touched : List Touch → Key → Bool
is_touched touched key = list_any (λ (t : Touch). same_key key t.key) touched

-- why a key is not noted; at most 16,384 are
abbrev pub note_refusal : Transaction → Key → Option StageError
note_refusal x key =
    if not (has_space x.spaces (space_of key)) then Some (Space (space_of key))
    else if is_touched x.touched key then None
    else if nat_le 16384 (length x.touched) then Some Keys
    else None

-- a key is noted once, with the mark of its first touch
abbrev pub noted : ℕ → Transaction → Key → Transaction
noted mark x key =
    if is_touched x.touched key then x
    else record x { touched = x.touched ++ record { key = key; mark = mark } ∷ [] }

-- why an operation is not staged; at most 4,096 are, which count at most 64 MiB together
abbrev pub put_refusal : Transaction → Op → Option StageError
put_refusal x o =
    if x.read_only then Some ReadOnly
    else if not (has_space x.spaces (space_of o.key)) then Some (Space (space_of o.key))
    else if nat_le 4096 (length x.ops) then Some Operations
    else if nat_lt 67108864 (weigh op_bytes x.ops + op_bytes o) then Some Bytes
    else None

-- an operation staged
abbrev pub staged : Transaction → Op → Transaction
staged x o = record x { ops = x.ops ++ o ∷ [] }

-- a call that is refused for this reason, if any
abbrev pub unless : Option StageError → Result Unit StageError
unless None = Ok tt
unless (Some e) = Err e
