-- Laws on operations and looks.
use Rattle.std.specs.Prelude.{ℕ, ◌≡◌, List, [], ◌∷◌, ◌++◌, Option, is_some, if◌then◌else◌}
use Rattle.std.specs.List.{AllByRecursion}
use Rattle.tx_stage.specs.declared.key.Key.{Key}
use Rattle.tx_stage.specs.declared.op.Op.{Op}
use Rattle.tx_stage.specs.declared.look.Want.{Want}
use Rattle.tx_stage.specs.declared.value.Value.{Value}
use Rattle.tx_stage.specs.Ops.{op_alters, op_left}
use Rattle.tx_stage.specs.Overlay.{overlay, there, op_refusal}
use Rattle.tx_stage.specs.Looks.{key_of, looks_within}

-- something exists after operations exactly if `there` says so
abbrev pub OverlayIsThere : Type 0
OverlayIsThere = (ops : List Op) (key : Key) (base : Option Value) → is_some (overlay ops key base) ≡ there ops key (is_some base)

-- one more operation changes what exists by what it leaves, if it alters the key
abbrev pub OverlayGoesOn : Type 0
OverlayGoesOn = (ops : List Op) (o : Op) (key : Key) (base : Option Value)
    → overlay (ops ++ o ∷ []) key base ≡ (if op_alters o key then op_left o (overlay ops key base) else overlay ops key base)

-- if two states agree at every key, an operation is refused alike
abbrev pub RefusalsSeeTheState : Type 0
RefusalsSeeTheState = (state other : Key → Option Value) (o : Op)
    → ((key : Key) → state key ≡ other key) → op_refusal state o ≡ op_refusal other o

-- if two states agree at the keys that are looked at, the looks are the same
abbrev pub LooksAtOwnKeys : Type 0
LooksAtOwnKeys = (state other : Key → Option Value) (room : ℕ) (ws : List Want)
    → AllByRecursion (λ w. state (key_of w) ≡ other (key_of w)) ws → looks_within state room ws ≡ looks_within other room ws
