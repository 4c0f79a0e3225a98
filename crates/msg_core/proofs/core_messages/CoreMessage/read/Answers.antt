use Rattle.std.proofs.Common.{◌≡◌, pos, arith}
use Rattle.std.proofs.lemmas.Int.{ints}
use Rattle.std.proofs.lemmas.Result.{err_from_is_err_and}
use Rattle.etp_schema.proofs.KindLemmas.{kind_read, kind_fails}
use Rattle.msg_core.specs.Core.{acknowledge_form, close_session_form, open_session_form, ping_form, pong_form, protocol_exception_form, request_session_form}
use Rattle.msg_core.specs.declared.core_messages.CoreMessage.TheVariants as m
use Rattle.msg_core.proofs.core_messages.CoreMessage.read.Goals as goal

pub returns-in_err-take-in-1 : goal.returns-in_err-take-in-1
returns-in_err-take-in-1 c =
    let is : c.args.kind ≡ pos 1 = omega (arith, ints) in
    let p = err_from_is_err_and c.from_residual.result c.from_residual.ensures.1 in
    rw (p.1, p.2, is) (kind_fails 1 request_session_form m.RequestSession _ _ c.in_err-take-in-1.field-0.0 c.in_err-take-in-1.ensures)

pub returns-in_ok-take-in-1 : goal.returns-in_ok-take-in-1
returns-in_ok-take-in-1 c =
    let is : c.args.kind ≡ pos 1 = omega (arith, ints) in
    rw is (kind_read 1 request_session_form m.RequestSession _ _ _ _ _ c.in_ok-take-in-1.ensures)

pub returns-in_err-take-in-2 : goal.returns-in_err-take-in-2
returns-in_err-take-in-2 c =
    let is : c.args.kind ≡ pos 2 = omega (arith, ints) in
    let p = err_from_is_err_and c.from_residual-in_err-take-in-2.result c.from_residual-in_err-take-in-2.ensures.1 in
    rw (p.1, p.2, is) (kind_fails 2 open_session_form m.OpenSession _ _ c.in_err-take-in-2.field-0.0 c.in_err-take-in-2.ensures)

pub returns-in_ok-take-in-2 : goal.returns-in_ok-take-in-2
returns-in_ok-take-in-2 c =
    let is : c.args.kind ≡ pos 2 = omega (arith, ints) in
    rw is (kind_read 2 open_session_form m.OpenSession _ _ _ _ _ c.in_ok-take-in-2.ensures)

pub returns-in_err-take-in-5 : goal.returns-in_err-take-in-5
returns-in_err-take-in-5 c =
    let is : c.args.kind ≡ pos 5 = omega (arith, ints) in
    let p = err_from_is_err_and c.from_residual-in_err-take-in-5.result c.from_residual-in_err-take-in-5.ensures.1 in
    rw (p.1, p.2, is) (kind_fails 5 close_session_form m.CloseSession _ _ c.in_err-take-in-5.field-0.0 c.in_err-take-in-5.ensures)

pub returns-in_ok-take-in-5 : goal.returns-in_ok-take-in-5
returns-in_ok-take-in-5 c =
    let is : c.args.kind ≡ pos 5 = omega (arith, ints) in
    rw is (kind_read 5 close_session_form m.CloseSession _ _ _ _ _ c.in_ok-take-in-5.ensures)

pub returns-in_err-take-in-8 : goal.returns-in_err-take-in-8
returns-in_err-take-in-8 c =
    let is : c.args.kind ≡ pos 8 = omega (arith, ints) in
    let p = err_from_is_err_and c.from_residual-in_err-take-in-8.result c.from_residual-in_err-take-in-8.ensures.1 in
    rw (p.1, p.2, is) (kind_fails 8 ping_form m.Ping _ _ c.in_err-take-in-8.field-0.0 c.in_err-take-in-8.ensures)

pub returns-in_ok-take-in-8 : goal.returns-in_ok-take-in-8
returns-in_ok-take-in-8 c =
    let is : c.args.kind ≡ pos 8 = omega (arith, ints) in
    rw is (kind_read 8 ping_form m.Ping _ _ _ _ _ c.in_ok-take-in-8.ensures)

pub returns-in_err-take-in-9 : goal.returns-in_err-take-in-9
returns-in_err-take-in-9 c =
    let is : c.args.kind ≡ pos 9 = omega (arith, ints) in
    let p = err_from_is_err_and c.from_residual-in_err-take-in-9.result c.from_residual-in_err-take-in-9.ensures.1 in
    rw (p.1, p.2, is) (kind_fails 9 pong_form m.Pong _ _ c.in_err-take-in-9.field-0.0 c.in_err-take-in-9.ensures)

pub returns-in_ok-take-in-9 : goal.returns-in_ok-take-in-9
returns-in_ok-take-in-9 c =
    let is : c.args.kind ≡ pos 9 = omega (arith, ints) in
    rw is (kind_read 9 pong_form m.Pong _ _ _ _ _ c.in_ok-take-in-9.ensures)

pub returns-in_err-take-in-1000 : goal.returns-in_err-take-in-1000
returns-in_err-take-in-1000 c =
    let is : c.args.kind ≡ pos 1000 = omega (arith, ints) in
    let p = err_from_is_err_and c.from_residual-in_err-take-in-1000.result c.from_residual-in_err-take-in-1000.ensures.1 in
    rw (p.1, p.2, is) (kind_fails 1000 protocol_exception_form m.ProtocolException _ _ c.in_err-take-in-1000.field-0.0 c.in_err-take-in-1000.ensures)

pub returns-in_ok-take-in-1000 : goal.returns-in_ok-take-in-1000
returns-in_ok-take-in-1000 c =
    let is : c.args.kind ≡ pos 1000 = omega (arith, ints) in
    rw is (kind_read 1000 protocol_exception_form m.ProtocolException _ _ _ _ _ c.in_ok-take-in-1000.ensures)

pub returns-in_err-take-in-1001 : goal.returns-in_err-take-in-1001
returns-in_err-take-in-1001 c =
    let is : c.args.kind ≡ pos 1001 = omega (arith, ints) in
    let p = err_from_is_err_and c.from_residual-in_err-take-in-1001.result c.from_residual-in_err-take-in-1001.ensures.1 in
    rw (p.1, p.2, is) (kind_fails 1001 acknowledge_form m.Acknowledge _ _ c.in_err-take-in-1001.field-0.0 c.in_err-take-in-1001.ensures)

pub returns-in_ok-take-in-1001 : goal.returns-in_ok-take-in-1001
returns-in_ok-take-in-1001 c =
    let is : c.args.kind ≡ pos 1001 = omega (arith, ints) in
    rw is (kind_read 1001 acknowledge_form m.Acknowledge _ _ _ _ _ c.in_ok-take-in-1001.ensures)
