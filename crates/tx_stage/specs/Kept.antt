-- What a transaction keeps besides what is seen of it.
use Rattle.std.specs.Prelude.{ℕ, ◌≡◌, ◌≤◌, List, [], length, map}
use Rattle.etp_values.specs.Weight.{weigh}
use Rattle.tx_stage.specs.declared.key.Key.{Key}
use Rattle.tx_stage.specs.declared.op.Op.{Op}
use Rattle.tx_stage.specs.declared.touch.Touch.{Touch}
use Rattle.tx_stage.specs.Altered.{Altered, FindsAltered}
use Rattle.tx_stage.specs.Counted.{op_bytes}

-- a key with its mark
abbrev pub touch_of : Key × ℕ → Touch
touch_of e = record { key = e.0; mark = e.1 }

-- the touched keys with their marks, as a list of touches
abbrev pub touches : List (Key × ℕ) → List Touch
touches es = map touch_of es

-- what the operations count together, the keys that they alter to be found, and room for a list of the touched keys
pub record KeepsStage (ops : List Op) (bytes : ℕ) (altered : Altered) (touched : List (Key × ℕ)) (room : List Touch) (capacity : ℕ) : Type 0 where
  pub counted : bytes ≡ weigh op_bytes ops
  pub limit : bytes ≤ 67108864
  pub found : FindsAltered altered ops
  pub empty : room ≡ []
  pub enough : length touched ≤ capacity
