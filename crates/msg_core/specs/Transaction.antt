-- The messages of the Transaction protocol (18).
-- `schema/write` writes all below the imports from `schema/messages.txt`.
use Rattle.std.proofs.Common.{ap}
use Rattle.std.specs.Prelude.{refl, List, [], ◌∷◌}
use Rattle.std.specs.List.{AllByRecursion}
use Rattle.etp_schema.specs.Form.{Form, boolean_form, id_form, text_form, list_form, fields, ◌&◌, done}
use Rattle.etp_schema.specs.Family.{Kind, Body, message, body, IsFound, IsAgain, again}
use Rattle.msg_core.specs.declared.transaction_messages.StartTransaction.{StartTransaction}
use Rattle.msg_core.specs.declared.transaction_messages.StartTransactionResponse.{StartTransactionResponse}
use Rattle.msg_core.specs.declared.transaction_messages.CommitTransaction.{CommitTransaction}
use Rattle.msg_core.specs.declared.transaction_messages.RollbackTransaction.{RollbackTransaction}
use Rattle.msg_core.specs.declared.transaction_messages.CommitTransactionResponse.{CommitTransactionResponse}
use Rattle.msg_core.specs.declared.transaction_messages.RollbackTransactionResponse.{RollbackTransactionResponse}
use Rattle.msg_core.specs.declared.transaction_messages.TransactionMessage.{TransactionMessage}
use Rattle.msg_core.specs.declared.transaction_messages.TransactionMessage.TheVariants as m

-- readOnly, message, dataspaceUris
abbrev pub start_transaction_form : Form StartTransaction
start_transaction_form =
    fields (boolean_form & text_form & (list_form text_form) & done)
    (λ x. (x.read_only, (x.message, (x.dataspace_uris, tt))))
    (λ p. record { read_only = p.0; message = p.1.0; dataspace_uris = p.1.1.0 })
    (λ x. refl) (λ p. refl)

-- transactionUuid, successful, failureReason
abbrev pub start_transaction_response_form : Form StartTransactionResponse
start_transaction_response_form =
    fields (id_form & boolean_form & text_form & done)
    (λ x. (x.transaction_uuid, (x.successful, (x.failure_reason, tt))))
    (λ p. record { transaction_uuid = p.0; successful = p.1.0; failure_reason = p.1.1.0 })
    (λ x. refl) (λ p. refl)

-- transactionUuid
abbrev pub commit_transaction_form : Form CommitTransaction
commit_transaction_form =
    fields (id_form & done)
    (λ x. (x.transaction_uuid, tt))
    (λ p. record { transaction_uuid = p.0 })
    (λ x. refl) (λ p. refl)

-- transactionUuid
abbrev pub rollback_transaction_form : Form RollbackTransaction
rollback_transaction_form =
    fields (id_form & done)
    (λ x. (x.transaction_uuid, tt))
    (λ p. record { transaction_uuid = p.0 })
    (λ x. refl) (λ p. refl)

-- transactionUuid, successful, failureReason
abbrev pub commit_transaction_response_form : Form CommitTransactionResponse
commit_transaction_response_form =
    fields (id_form & boolean_form & text_form & done)
    (λ x. (x.transaction_uuid, (x.successful, (x.failure_reason, tt))))
    (λ p. record { transaction_uuid = p.0; successful = p.1.0; failure_reason = p.1.1.0 })
    (λ x. refl) (λ p. refl)

-- transactionUuid, successful, failureReason
abbrev pub rollback_transaction_response_form : Form RollbackTransactionResponse
rollback_transaction_response_form =
    fields (id_form & boolean_form & text_form & done)
    (λ x. (x.transaction_uuid, (x.successful, (x.failure_reason, tt))))
    (λ p. record { transaction_uuid = p.0; successful = p.1.0; failure_reason = p.1.1.0 })
    (λ x. refl) (λ p. refl)

-- the messages by number
abbrev pub transaction_kinds : List (Kind TransactionMessage)
transaction_kinds =
    message 1 start_transaction_form m.StartTransaction ∷
    message 2 start_transaction_response_form m.StartTransactionResponse ∷
    message 3 commit_transaction_form m.CommitTransaction ∷
    message 4 rollback_transaction_form m.RollbackTransaction ∷
    message 5 commit_transaction_response_form m.CommitTransactionResponse ∷
    message 6 rollback_transaction_response_form m.RollbackTransactionResponse ∷ []

-- the number, schema and value of a message's body
abbrev pub transaction_body : TransactionMessage → Body
transaction_body (m.StartTransaction x) = body 1 start_transaction_form x
transaction_body (m.StartTransactionResponse x) = body 2 start_transaction_response_form x
transaction_body (m.CommitTransaction x) = body 3 commit_transaction_form x
transaction_body (m.RollbackTransaction x) = body 4 rollback_transaction_form x
transaction_body (m.CommitTransactionResponse x) = body 5 commit_transaction_response_form x
transaction_body (m.RollbackTransactionResponse x) = body 6 rollback_transaction_response_form x

-- each message is found by its number, and read as it was
pub transaction_found : (x : TransactionMessage) → IsFound transaction_kinds transaction_body x
transaction_found (m.StartTransaction x) = (message 1 start_transaction_form m.StartTransaction, refl, refl, λ h. ap m.StartTransaction (start_transaction_form.back x h))
transaction_found (m.StartTransactionResponse x) = (message 2 start_transaction_response_form m.StartTransactionResponse, refl, refl, λ h. ap m.StartTransactionResponse (start_transaction_response_form.back x h))
transaction_found (m.CommitTransaction x) = (message 3 commit_transaction_form m.CommitTransaction, refl, refl, λ h. ap m.CommitTransaction (commit_transaction_form.back x h))
transaction_found (m.RollbackTransaction x) = (message 4 rollback_transaction_form m.RollbackTransaction, refl, refl, λ h. ap m.RollbackTransaction (rollback_transaction_form.back x h))
transaction_found (m.CommitTransactionResponse x) = (message 5 commit_transaction_response_form m.CommitTransactionResponse, refl, refl, λ h. ap m.CommitTransactionResponse (commit_transaction_response_form.back x h))
transaction_found (m.RollbackTransactionResponse x) = (message 6 rollback_transaction_response_form m.RollbackTransactionResponse, refl, refl, λ h. ap m.RollbackTransactionResponse (rollback_transaction_response_form.back x h))

-- what is read of a body is written as that body
pub transaction_again : AllByRecursion (IsAgain transaction_body) transaction_kinds
transaction_again =
    (again 1 start_transaction_form, (again 2 start_transaction_response_form, (again 3 commit_transaction_form, (again 4 rollback_transaction_form, (again 5 commit_transaction_response_form, (again 6 rollback_transaction_response_form, tt))))))
