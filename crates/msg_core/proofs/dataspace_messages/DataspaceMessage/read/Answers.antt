use Rattle.std.proofs.Common.{◌≡◌, pos, arith}
use Rattle.std.proofs.lemmas.Int.{ints}
use Rattle.std.proofs.lemmas.Result.{err_from_is_err_and}
use Rattle.etp_schema.proofs.KindLemmas.{kind_read, kind_fails}
use Rattle.msg_core.specs.Dataspace.{delete_dataspaces_form, delete_dataspaces_response_form, get_dataspaces_form, get_dataspaces_response_form, put_dataspaces_form, put_dataspaces_response_form}
use Rattle.msg_core.specs.declared.dataspace_messages.DataspaceMessage.TheVariants as m
use Rattle.msg_core.proofs.dataspace_messages.DataspaceMessage.read.Goals as goal

pub returns-in_err-take-in-1 : goal.returns-in_err-take-in-1
returns-in_err-take-in-1 c =
    let is : c.args.kind ≡ pos 1 = omega (arith, ints) in
    let p = err_from_is_err_and c.from_residual.result c.from_residual.ensures.1 in
    rw (p.1, p.2, is) (kind_fails 1 get_dataspaces_form m.GetDataspaces _ _ c.in_err-take-in-1.field-0.0 c.in_err-take-in-1.ensures)

pub returns-in_ok-take-in-1 : goal.returns-in_ok-take-in-1
returns-in_ok-take-in-1 c =
    let is : c.args.kind ≡ pos 1 = omega (arith, ints) in
    rw is (kind_read 1 get_dataspaces_form m.GetDataspaces _ _ _ _ _ c.in_ok-take-in-1.ensures)

pub returns-in_err-take-in-2 : goal.returns-in_err-take-in-2
returns-in_err-take-in-2 c =
    let is : c.args.kind ≡ pos 2 = omega (arith, ints) in
    let p = err_from_is_err_and c.from_residual-in_err-take-in-2.result c.from_residual-in_err-take-in-2.ensures.1 in
    rw (p.1, p.2, is) (kind_fails 2 get_dataspaces_response_form m.GetDataspacesResponse _ _ c.in_err-take-in-2.field-0.0 c.in_err-take-in-2.ensures)

pub returns-in_ok-take-in-2 : goal.returns-in_ok-take-in-2
returns-in_ok-take-in-2 c =
    let is : c.args.kind ≡ pos 2 = omega (arith, ints) in
    rw is (kind_read 2 get_dataspaces_response_form m.GetDataspacesResponse _ _ _ _ _ c.in_ok-take-in-2.ensures)

pub returns-in_err-take-in-3 : goal.returns-in_err-take-in-3
returns-in_err-take-in-3 c =
    let is : c.args.kind ≡ pos 3 = omega (arith, ints) in
    let p = err_from_is_err_and c.from_residual-in_err-take-in-3.result c.from_residual-in_err-take-in-3.ensures.1 in
    rw (p.1, p.2, is) (kind_fails 3 put_dataspaces_form m.PutDataspaces _ _ c.in_err-take-in-3.field-0.0 c.in_err-take-in-3.ensures)

pub returns-in_ok-take-in-3 : goal.returns-in_ok-take-in-3
returns-in_ok-take-in-3 c =
    let is : c.args.kind ≡ pos 3 = omega (arith, ints) in
    rw is (kind_read 3 put_dataspaces_form m.PutDataspaces _ _ _ _ _ c.in_ok-take-in-3.ensures)

pub returns-in_err-take-in-4 : goal.returns-in_err-take-in-4
returns-in_err-take-in-4 c =
    let is : c.args.kind ≡ pos 4 = omega (arith, ints) in
    let p = err_from_is_err_and c.from_residual-in_err-take-in-4.result c.from_residual-in_err-take-in-4.ensures.1 in
    rw (p.1, p.2, is) (kind_fails 4 delete_dataspaces_form m.DeleteDataspaces _ _ c.in_err-take-in-4.field-0.0 c.in_err-take-in-4.ensures)

pub returns-in_ok-take-in-4 : goal.returns-in_ok-take-in-4
returns-in_ok-take-in-4 c =
    let is : c.args.kind ≡ pos 4 = omega (arith, ints) in
    rw is (kind_read 4 delete_dataspaces_form m.DeleteDataspaces _ _ _ _ _ c.in_ok-take-in-4.ensures)

pub returns-in_err-take-in-5 : goal.returns-in_err-take-in-5
returns-in_err-take-in-5 c =
    let is : c.args.kind ≡ pos 5 = omega (arith, ints) in
    let p = err_from_is_err_and c.from_residual-in_err-take-in-5.result c.from_residual-in_err-take-in-5.ensures.1 in
    rw (p.1, p.2, is) (kind_fails 5 delete_dataspaces_response_form m.DeleteDataspacesResponse _ _ c.in_err-take-in-5.field-0.0 c.in_err-take-in-5.ensures)

pub returns-in_ok-take-in-5 : goal.returns-in_ok-take-in-5
returns-in_ok-take-in-5 c =
    let is : c.args.kind ≡ pos 5 = omega (arith, ints) in
    rw is (kind_read 5 delete_dataspaces_response_form m.DeleteDataspacesResponse _ _ _ _ _ c.in_ok-take-in-5.ensures)

pub returns-in_err-take-in-6 : goal.returns-in_err-take-in-6
returns-in_err-take-in-6 c =
    let is : c.args.kind ≡ pos 6 = omega (arith, ints) in
    let p = err_from_is_err_and c.from_residual-in_err-take-in-6.result c.from_residual-in_err-take-in-6.ensures.1 in
    rw (p.1, p.2, is) (kind_fails 6 put_dataspaces_response_form m.PutDataspacesResponse _ _ c.in_err-take-in-6.field-0.0 c.in_err-take-in-6.ensures)

pub returns-in_ok-take-in-6 : goal.returns-in_ok-take-in-6
returns-in_ok-take-in-6 c =
    let is : c.args.kind ≡ pos 6 = omega (arith, ints) in
    rw is (kind_read 6 put_dataspaces_response_form m.PutDataspacesResponse _ _ _ _ _ c.in_ok-take-in-6.ensures)
