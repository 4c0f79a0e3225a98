-- The requests of the Transaction protocol: what a session answers, and what it asks of the store.
use Rattle.std.specs.Prelude.{ℕ, ◌+◌, ◌-◌, ◌^◌, Bool, true, false, List, [], ◌∷◌, ◌++◌, Option, Some, None, codes, length, min, nat_lt, if◌then◌else◌}
use Rattle.std.specs.Fmt.{decimal}
use Rattle.std.specs.Str.{bytes_eq}
use Rattle.etp_values.specs.Id.{version5}
use Rattle.etp_values.specs.declared.code.ErrorCode.{ErrorCode}
use Rattle.etp_values.specs.declared.code.ErrorCode.TheVariants.{InvalidArgument, InvalidMessageType, InvalidState, LimitExceeded, TooManyTransactions}
use Rattle.keyed_requests.specs.Sending.{refusal_alone, reply_alone}
use Rattle.keyed_requests.specs.declared.keys.Decision.{Decision}
use Rattle.keyed_requests.specs.declared.keys.Decision.TheVariants.{Granted, Refused}
use Rattle.keyed_requests.specs.declared.sending.Outcome.{Outcome}
use Rattle.keyed_requests.specs.declared.sending.Outcome.TheVariants.{Replies, Calls}
use Rattle.keyed_requests.specs.declared.sending.Sending.{Sending}
use Rattle.msg_core.specs.declared.transaction_messages.StartTransaction.{StartTransaction}
use Rattle.msg_core.specs.declared.transaction_messages.TransactionMessage.{TransactionMessage}
use Rattle.msg_core.specs.declared.transaction_messages.TransactionMessage.TheVariants as message
use Rattle.store_machine.specs.declared.call.Reply.{Reply}
use Rattle.store_machine.specs.declared.call.Reply.TheVariants as answer
use Rattle.store_machine.specs.declared.call.StoreCall.{StoreCall}
use Rattle.store_machine.specs.declared.call.StoreCall.TheVariants as call
use Rattle.tx_stage.specs.Staging.{Transaction}
use Rattle.tx_stage.specs.declared.touch.Staged.{Staged}
use Rattle.session_rows.specs.Spaces.{space_path}
use Rattle.session_rows.specs.declared.transactions.TransactionPending.{TransactionPending}
use Rattle.session_rows.specs.declared.transactions.TransactionPending.TheVariants as pending
use Rattle.session_rows.specs.declared.transactions.Transacting.{Transacting}

abbrev pub TransactionOutcome : Type 0
TransactionOutcome = Outcome StoreCall TransactionPending TransactionMessage

-- what comes of a request, the transaction that is open then, and how many were started
abbrev pub leaves : Option Transaction → ℕ → TransactionOutcome → Transacting
leaves stage starts outcome = record { stage = stage; starts = starts; outcome = outcome }

-- a request that is refused as a whole changes nothing
abbrev pub refuses : Option Transaction → ℕ → ErrorCode → Transacting
refuses stage starts code = leaves stage starts (Replies (refusal_alone code))

-- ---- StartTransaction

-- the identifier of the transaction that the session of a number starts as its n-th
abbrev pub transaction_id : List ℕ → ℕ → ℕ → List ℕ
transaction_id instance number nth = version5 instance (codes "tx:" ++ decimal number ++ codes ":" ++ decimal nth)

-- a path before these
abbrev pub path_first : List ℕ → Decision (List (List ℕ)) → Decision (List (List ℕ))
path_first p (Refused code) = Refused code
path_first p (Granted ps) = Granted (p ∷ ps)

abbrev pub paths_after : Decision (List (List ℕ)) → Decision (List ℕ) → Decision (List (List ℕ))
paths_after rest (Refused code) = Refused code
paths_after rest (Granted p) = path_first p rest

-- the paths of the dataspaces that texts name; the first that names none refuses all
abbrev pub space_paths : List (List ℕ) → Decision (List (List ℕ))
space_paths [] = Granted []
space_paths (text ∷ texts) = paths_after (space_paths texts) (space_path text)

-- one more start; the count stops at the greatest 64-bit number
abbrev pub one_more : ℕ → ℕ
one_more starts = min (starts + 1) (2 ^ 64 - 1)

-- a transaction that has just begun
abbrev pub begun : List ℕ → Bool → List (List ℕ) → Transaction
begun id read_only spaces = record { id = id; read_only = read_only; spaces = spaces; ops = []; touched = [] }

abbrev pub start_response : List ℕ → TransactionMessage
start_response id = message.StartTransactionResponse (record { transaction_uuid = id; successful = true; failure_reason = [] })

-- a transaction for these dataspaces is open, if each text named one
abbrev pub start_with : List ℕ → ℕ → ℕ → Bool → Decision (List (List ℕ)) → Transacting
start_with instance number starts read_only (Refused code) = refuses None starts code
start_with instance number starts read_only (Granted spaces) =
    let id = transaction_id instance number (one_more starts) in
    leaves (Some (begun id read_only spaces)) (one_more starts) (Replies (reply_alone (start_response id)))

-- one transaction is open at a time, for at most 1,024 dataspaces
abbrev pub start : List ℕ → ℕ → Option Transaction → ℕ → StartTransaction → Transacting
start instance number (Some x) starts m = refuses (Some x) starts TooManyTransactions
start instance number None starts m = if nat_lt 1024 (length m.dataspace_uris) then refuses None starts LimitExceeded else start_with instance number starts m.read_only (space_paths m.dataspace_uris)

-- ---- CommitTransaction and RollbackTransaction

-- the open transaction, named by its identifier, is over, and this comes of that
abbrev pub ends : Option Transaction → ℕ → List ℕ → (Transaction → TransactionOutcome) → Transacting
ends None starts id outcome = refuses None starts InvalidState
ends (Some x) starts id outcome = if bytes_eq x.id id then leaves None starts (outcome x) else refuses (Some x) starts InvalidArgument

-- what is to be committed: the operations, and what was touched
abbrev pub to_commit : Transaction → Staged
to_commit x = record { ops = x.ops; touched = x.touched }

-- the store is asked to commit it
abbrev pub commit : List ℕ → Transaction → TransactionOutcome
commit id x = Calls (call.Commit (to_commit x)) (pending.Commit id)

abbrev pub rollback_response : List ℕ → TransactionMessage
rollback_response id = message.RollbackTransactionResponse (record { transaction_uuid = id; successful = true; failure_reason = [] })

-- it is discarded, and the store is asked nothing
abbrev pub rollback : List ℕ → Transaction → TransactionOutcome
rollback id x = Replies (reply_alone (rollback_response id))

-- ---- what comes of a message

-- of the session of a number, of the server `instance`, that has started this many transactions
abbrev pub transaction_request : List ℕ → ℕ → Option Transaction → ℕ → TransactionMessage → Transacting
transaction_request instance number stage starts (message.StartTransaction m) = start instance number stage starts m
transaction_request instance number stage starts (message.CommitTransaction m) = ends stage starts m.transaction_uuid (commit m.transaction_uuid)
transaction_request instance number stage starts (message.RollbackTransaction m) = ends stage starts m.transaction_uuid (rollback m.transaction_uuid)
transaction_request instance number stage starts (message.StartTransactionResponse m) = refuses stage starts InvalidMessageType
transaction_request instance number stage starts (message.CommitTransactionResponse m) = refuses stage starts InvalidMessageType
transaction_request instance number stage starts (message.RollbackTransactionResponse m) = refuses stage starts InvalidMessageType

-- ---- what comes of the store's answer to its call; an answer that does not belong to the call has no reply

abbrev pub commit_response : List ℕ → Bool → List ℕ → TransactionMessage
commit_response id successful reason = message.CommitTransactionResponse (record { transaction_uuid = id; successful = successful; failure_reason = reason })

-- the reply to a request of which this is kept
abbrev pub transaction_reply : TransactionPending → Reply → List (Sending TransactionMessage)
transaction_reply (pending.Commit id) answer.Committed = reply_alone (commit_response id true [])
transaction_reply (pending.Commit id) (answer.Conflict place) = reply_alone (commit_response id false (codes "conflict " ++ decimal place))
transaction_reply (pending.Commit id) answer.JournalFull = reply_alone (commit_response id false (codes "journal full"))
transaction_reply (pending.Commit id) _ = []
