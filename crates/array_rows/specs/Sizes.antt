-- How much of a message an item of a reply takes.
use Rattle.std.specs.Prelude.{ℕ, ◌+◌, ◌-◌, Bool, ◌&&◌, List, length, nat_le, nat_lt, if◌then◌else◌}
use Rattle.avro_bin.specs.Plain.{plain, plain_blob}
use Rattle.avro_bin.specs.Value.{nodes}
use Rattle.etp_schema.specs.DataValue.{data_value_form}
use Rattle.etp_schema.specs.Form.{Form, named_form}
use Rattle.etp_values.specs.declared.code.ErrorCode.TheVariants.{SizeExceeded}
use Rattle.etp_values.specs.declared.data.DataValue.{DataValue}
use Rattle.keyed_requests.specs.declared.keys.Decision.{Decision}
use Rattle.keyed_requests.specs.declared.keys.Decision.TheVariants.{Granted, Refused}

-- An item under its key fits into a message of at most this many bytes, of which 4,096 are reserved for everything but the items; and the
-- items have at most 8,388,544 nodes, keys none.
abbrev pub fits : {A : Type 0} → Form A → ℕ → List ℕ → A → Bool
fits form limit key x = nat_le (length (plain_blob key) + length (plain (form.as_value x))) (limit - 4096) && nat_le (nodes (form.as_value x)) 8388544

-- an item, if it fits
unfoldable pub fitting : {A : Type 0} → Form A → ℕ → List ℕ → A → Decision A
fitting form limit key x = if fits form limit key x then Granted x else Refused SizeExceeded

-- custom data that is longer than an array's may be
abbrev pub is_custom_large : List (List ℕ × DataValue) → Bool
is_custom_large custom = nat_lt 16384 (length (plain ((named_form data_value_form).as_value custom)))
