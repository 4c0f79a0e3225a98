use Rattle.std.proofs.Common.{◌≡◌, pos, arith}
use Rattle.std.proofs.lemmas.Int.{ints}
use Rattle.std.proofs.lemmas.Result.{err_from_is_err_and}
use Rattle.etp_schema.proofs.KindLemmas.{kind_read, kind_fails}
use Rattle.msg_core.specs.Transaction.{commit_transaction_form, commit_transaction_response_form, rollback_transaction_form, rollback_transaction_response_form, start_transaction_form, start_transaction_response_form}
use Rattle.msg_core.specs.declared.transaction_messages.TransactionMessage.TheVariants as m
use Rattle.msg_core.proofs.transaction_messages.TransactionMessage.read.Goals as goal

pub returns-in_err-take-in-1 : goal.returns-in_err-take-in-1
returns-in_err-take-in-1 c =
    let is : c.args.kind ≡ pos 1 = omega (arith, ints) in
    let p = err_from_is_err_and c.from_residual.result c.from_residual.ensures.1 in
    rw (p.1, p.2, is) (kind_fails 1 start_transaction_form m.StartTransaction _ _ c.in_err-take-in-1.field-0.0 c.in_err-take-in-1.ensures)

pub returns-in_ok-take-in-1 : goal.returns-in_ok-take-in-1
returns-in_ok-take-in-1 c =
    let is : c.args.kind ≡ pos 1 = omega (arith, ints) in
    rw is (kind_read 1 start_transaction_form m.StartTransaction _ _ _ _ _ c.in_ok-take-in-1.ensures)

pub returns-in_err-take-in-2 : goal.returns-in_err-take-in-2
returns-in_err-take-in-2 c =
    let is : c.args.kind ≡ pos 2 = omega (arith, ints) in
    let p = err_from_is_err_and c.from_residual-in_err-take-in-2.result c.from_residual-in_err-take-in-2.ensures.1 in
    rw (p.1, p.2, is) (kind_fails 2 start_transaction_response_form m.StartTransactionResponse _ _ c.in_err-take-in-2.field-0.0 c.in_err-take-in-2.ensures)

pub returns-in_ok-take-in-2 : goal.returns-in_ok-take-in-2
returns-in_ok-take-in-2 c =
    let is : c.args.kind ≡ pos 2 = omega (arith, ints) in
    rw is (kind_read 2 start_transaction_response_form m.StartTransactionResponse _ _ _ _ _ c.in_ok-take-in-2.ensures)

pub returns-in_err-take-in-3 : goal.returns-in_err-take-in-3
returns-in_err-take-in-3 c =
    let is : c.args.kind ≡ pos 3 = omega (arith, ints) in
    let p = err_from_is_err_and c.from_residual-in_err-take-in-3.result c.from_residual-in_err-take-in-3.ensures.1 in
    rw (p.1, p.2, is) (kind_fails 3 commit_transaction_form m.CommitTransaction _ _ c.in_err-take-in-3.field-0.0 c.in_err-take-in-3.ensures)

pub returns-in_ok-take-in-3 : goal.returns-in_ok-take-in-3
returns-in_ok-take-in-3 c =
    let is : c.args.kind ≡ pos 3 = omega (arith, ints) in
    rw is (kind_read 3 commit_transaction_form m.CommitTransaction _ _ _ _ _ c.in_ok-take-in-3.ensures)

pub returns-in_err-take-in-4 : goal.returns-in_err-take-in-4
returns-in_err-take-in-4 c =
    let is : c.args.kind ≡ pos 4 = omega (arith, ints) in
    let p = err_from_is_err_and c.from_residual-in_err-take-in-4.result c.from_residual-in_err-take-in-4.ensures.1 in
    rw (p.1, p.2, is) (kind_fails 4 rollback_transaction_form m.RollbackTransaction _ _ c.in_err-take-in-4.field-0.0 c.in_err-take-in-4.ensures)

pub returns-in_ok-take-in-4 : goal.returns-in_ok-take-in-4
returns-in_ok-take-in-4 c =
    let is : c.args.kind ≡ pos 4 = omega (arith, ints) in
    rw is (kind_read 4 rollback_transaction_form m.RollbackTransaction _ _ _ _ _ c.in_ok-take-in-4.ensures)

pub returns-in_err-take-in-5 : goal.returns-in_err-take-in-5
returns-in_err-take-in-5 c =
    let is : c.args.kind ≡ pos 5 = omega (arith, ints) in
    let p = err_from_is_err_and c.from_residual-in_err-take-in-5.result c.from_residual-in_err-take-in-5.ensures.1 in
    rw (p.1, p.2, is) (kind_fails 5 commit_transaction_response_form m.CommitTransactionResponse _ _ c.in_err-take-in-5.field-0.0 c.in_err-take-in-5.ensures)

pub returns-in_ok-take-in-5 : goal.returns-in_ok-take-in-5
returns-in_ok-take-in-5 c =
    let is : c.args.kind ≡ pos 5 = omega (arith, ints) in
    rw is (kind_read 5 commit_transaction_response_form m.CommitTransactionResponse _ _ _ _ _ c.in_ok-take-in-5.ensures)

pub returns-in_err-take-in-6 : goal.returns-in_err-take-in-6
returns-in_err-take-in-6 c =
    let is : c.args.kind ≡ pos 6 = omega (arith, ints) in
    let p = err_from_is_err_and c.from_residual-in_err-take-in-6.result c.from_residual-in_err-take-in-6.ensures.1 in
    rw (p.1, p.2, is) (kind_fails 6 rollback_transaction_response_form m.RollbackTransactionResponse _ _ c.in_err-take-in-6.field-0.0 c.in_err-take-in-6.ensures)

pub returns-in_ok-take-in-6 : goal.returns-in_ok-take-in-6
returns-in_ok-take-in-6 c =
    let is : c.args.kind ≡ pos 6 = omega (arith, ints) in
    rw is (kind_read 6 rollback_transaction_response_form m.RollbackTransactionResponse _ _ _ _ _ c.in_ok-take-in-6.ensures)
