-- The keys of a request.
use Rattle.std.specs.Prelude.{ℕ, Bool, List, Option, Some, None, nat_lt, length, if◌then◌else◌}
use Rattle.std.specs.List.{list_any}
use Rattle.etp_values.specs.declared.code.ErrorCode.{ErrorCode}
use Rattle.etp_values.specs.declared.code.ErrorCode.TheVariants.{LimitExceeded, InvalidArgument}

-- a key of more bytes than one may have
abbrev pub is_long : {A : Type 0} → List ℕ × A → Bool
is_long x = nat_lt 1024 (length x.0)

-- a request with too many keys, or with a key that is too long, is refused as a whole
abbrev pub keys_refusal : {A : Type 0} → List (List ℕ × A) → Option ErrorCode
keys_refusal items = if nat_lt 1024 (length items) then Some LimitExceeded else (if list_any is_long items then Some InvalidArgument else None)
