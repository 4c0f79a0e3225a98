-- Operations by what was seen of the keys that they need.
use Rattle.std.specs.Prelude.{Bool, true, false, not, List, [], ◌∷◌, Option, Some, None, if◌then◌else◌}
use Rattle.etp_values.specs.declared.code.ErrorCode.{ErrorCode}
use Rattle.etp_values.specs.declared.code.ErrorCode.TheVariants.{NotFound}
use Rattle.keyed_requests.specs.Sending.{first_cause}
use Rattle.tx_stage.specs.declared.key.Key.{Key}
use Rattle.tx_stage.specs.declared.look.Looked.{Looked}
use Rattle.tx_stage.specs.declared.look.Looked.TheVariants.{Missing, Refused}
use Rattle.tx_stage.specs.declared.op.Op.{Op}
use Rattle.tx_stage.specs.Staging.{Transaction}
use Rattle.request_scope.specs.Scope.{stands, stage_refusal, staging}
use Rattle.request_scope.specs.declared.within.Scope.{Scope}

-- the first refusal among what was seen
abbrev pub refused_look : List Looked → Option ErrorCode
refused_look [] = None
refused_look (Refused code ∷ ls) = Some code
refused_look (l ∷ ls) = refused_look ls

-- something exists at the first key that was looked at
abbrev pub is_first_seen : List Looked → Bool
is_first_seen [] = false
is_first_seen (Missing ∷ ls) = false
is_first_seen (l ∷ ls) = true

-- why an operation is refused, if no look was
abbrev pub needed_refusal : Option Transaction → Key → Op → Bool → Option ErrorCode
needed_refusal stage needed o found = if not (stands stage needed found) then Some NotFound else stage_refusal stage o

-- why an operation is refused: a look was, what it needs doesn't exist, or the transaction refuses it
abbrev pub found_refusal : Option Transaction → Key → Op → List Looked → Option ErrorCode
found_refusal stage needed o found = first_cause (refused_look found) (needed_refusal stage needed o (is_first_seen found))

-- the scope after the operation, if neither a look was refused nor what it needs is missing
abbrev pub putting_by : Option ErrorCode → Bool → Scope → Op → Scope
putting_by (Some code) standing s o = s
putting_by None false s o = s
putting_by None true s o = staging s o

-- the same, by what was seen, first of the key that the operation needs
abbrev pub putting : Scope → Key → Op → List Looked → Scope
putting s needed o found = putting_by (refused_look found) (stands s.stage needed (is_first_seen found)) s o
