-- In a transaction the keys that a request looks at are noted, before what was found there is used.
use Rattle.std.specs.Prelude.{ℕ, List, [], ◌∷◌, ◌++◌, Option, Some, None, drop, fold, map, option_map, take}
use Rattle.etp_values.specs.declared.code.ErrorCode.{ErrorCode}
use Rattle.request_scope.specs.Scope.{code_of}
use Rattle.store_machine.specs.declared.call.Reply.{Reply}
use Rattle.store_machine.specs.declared.call.Reply.TheVariants as reply
use Rattle.store_machine.specs.declared.call.StoreCall.{StoreCall}
use Rattle.store_machine.specs.declared.call.StoreCall.TheVariants as call
use Rattle.tx_stage.specs.Looks.{key_of}
use Rattle.tx_stage.specs.Staging.{Transaction, note_refusal, noted}
use Rattle.tx_stage.specs.declared.error.StageError.{StageError}
use Rattle.tx_stage.specs.declared.key.Key.{Key}
use Rattle.tx_stage.specs.declared.look.Looked.{Looked}
use Rattle.tx_stage.specs.declared.look.Looked.TheVariants.{Refused}

-- the keys that a call looks at
abbrev pub keys_in : StoreCall → List Key
keys_in (call.Look wants) = map key_of wants
keys_in _ = []

-- a key is noted at a mark, unless it is refused
abbrev pub note_by : Option StageError → ℕ → Transaction → Key → Transaction
note_by None mark x key = noted mark x key
note_by (Some e) mark x key = x

abbrev pub note : ℕ → Transaction → Key → Transaction
note mark x key = note_by (note_refusal x key) mark x key

-- these keys are noted, one after the other
abbrev pub note_all : ℕ → Transaction → List Key → Transaction
note_all mark x keys = fold (note mark) x keys

-- the same in the open transaction, if there is one
abbrev pub noting : ℕ → List Key → Option Transaction → Option Transaction
noting mark keys stage = option_map (λ x. note_all mark x keys) stage

-- why a key is refused
abbrev pub key_refusal : Transaction → Key → Option ErrorCode
key_refusal x key = option_map code_of (note_refusal x key)

-- what was found under a refused key is refused too
abbrev pub found_by : Option ErrorCode → Looked → Looked
found_by None found = found
found_by (Some code) found = Refused code

-- what was found under each of these keys, as they are noted
abbrev pub found_noted : ℕ → Transaction → List Key → List Looked → List Looked
found_noted mark x [] found = []
found_noted mark x (key ∷ keys) found = map (found_by (key_refusal x key)) (take 1 found) ++ found_noted mark (note mark x key) keys (drop 1 found)

-- the same in the store's reply
abbrev pub reply_noted : ℕ → List Key → Option Transaction → Reply → Reply
reply_noted mark keys (Some x) (reply.Looked found) = reply.Looked (found_noted mark x keys found)
reply_noted mark keys stage r = r
