use Rattle.std.proofs.Common.{◌≡◌, pos, arith}
use Rattle.std.proofs.lemmas.Int.{ints}
use Rattle.std.proofs.lemmas.Result.{err_from_is_err_and}
use Rattle.etp_schema.proofs.KindLemmas.{kind_read, kind_fails}
use Rattle.msg_store.specs.Store.{chunk_form, delete_data_objects_form, delete_data_objects_response_form, get_data_objects_form, get_data_objects_response_form, put_data_objects_form, put_data_objects_response_form}
use Rattle.msg_store.specs.declared.store_messages.StoreMessage.TheVariants as m
use Rattle.msg_store.proofs.store_messages.StoreMessage.read.Goals as goal

pub returns-in_err-take-in-1 : goal.returns-in_err-take-in-1
returns-in_err-take-in-1 c =
    let is : c.args.kind ≡ pos 1 = omega (arith, ints) in
    let p = err_from_is_err_and c.from_residual.result c.from_residual.ensures.1 in
    rw (p.1, p.2, is) (kind_fails 1 get_data_objects_form m.GetDataObjects _ _ c.in_err-take-in-1.field-0.0 c.in_err-take-in-1.ensures)

pub returns-in_ok-take-in-1 : goal.returns-in_ok-take-in-1
returns-in_ok-take-in-1 c =
    let is : c.args.kind ≡ pos 1 = omega (arith, ints) in
    rw is (kind_read 1 get_data_objects_form m.GetDataObjects _ _ _ _ _ c.in_ok-take-in-1.ensures)

pub returns-in_err-take-in-2 : goal.returns-in_err-take-in-2
returns-in_err-take-in-2 c =
    let is : c.args.kind ≡ pos 2 = omega (arith, ints) in
    let p = err_from_is_err_and c.from_residual-in_err-take-in-2.result c.from_residual-in_err-take-in-2.ensures.1 in
    rw (p.1, p.2, is) (kind_fails 2 put_data_objects_form m.PutDataObjects _ _ c.in_err-take-in-2.field-0.0 c.in_err-take-in-2.ensures)

pub returns-in_ok-take-in-2 : goal.returns-in_ok-take-in-2
returns-in_ok-take-in-2 c =
    let is : c.args.kind ≡ pos 2 = omega (arith, ints) in
    rw is (kind_read 2 put_data_objects_form m.PutDataObjects _ _ _ _ _ c.in_ok-take-in-2.ensures)

pub returns-in_err-take-in-3 : goal.returns-in_err-take-in-3
returns-in_err-take-in-3 c =
    let is : c.args.kind ≡ pos 3 = omega (arith, ints) in
    let p = err_from_is_err_and c.from_residual-in_err-take-in-3.result c.from_residual-in_err-take-in-3.ensures.1 in
    rw (p.1, p.2, is) (kind_fails 3 delete_data_objects_form m.DeleteDataObjects _ _ c.in_err-take-in-3.field-0.0 c.in_err-take-in-3.ensures)

pub returns-in_ok-take-in-3 : goal.returns-in_ok-take-in-3
returns-in_ok-take-in-3 c =
    let is : c.args.kind ≡ pos 3 = omega (arith, ints) in
    rw is (kind_read 3 delete_data_objects_form m.DeleteDataObjects _ _ _ _ _ c.in_ok-take-in-3.ensures)

pub returns-in_err-take-in-4 : goal.returns-in_err-take-in-4
returns-in_err-take-in-4 c =
    let is : c.args.kind ≡ pos 4 = omega (arith, ints) in
    let p = err_from_is_err_and c.from_residual-in_err-take-in-4.result c.from_residual-in_err-take-in-4.ensures.1 in
    rw (p.1, p.2, is) (kind_fails 4 get_data_objects_response_form m.GetDataObjectsResponse _ _ c.in_err-take-in-4.field-0.0 c.in_err-take-in-4.ensures)

pub returns-in_ok-take-in-4 : goal.returns-in_ok-take-in-4
returns-in_ok-take-in-4 c =
    let is : c.args.kind ≡ pos 4 = omega (arith, ints) in
    rw is (kind_read 4 get_data_objects_response_form m.GetDataObjectsResponse _ _ _ _ _ c.in_ok-take-in-4.ensures)

pub returns-in_err-take-in-8 : goal.returns-in_err-take-in-8
returns-in_err-take-in-8 c =
    let is : c.args.kind ≡ pos 8 = omega (arith, ints) in
    let p = err_from_is_err_and c.from_residual-in_err-take-in-8.result c.from_residual-in_err-take-in-8.ensures.1 in
    rw (p.1, p.2, is) (kind_fails 8 chunk_form m.Chunk _ _ c.in_err-take-in-8.field-0.0 c.in_err-take-in-8.ensures)

pub returns-in_ok-take-in-8 : goal.returns-in_ok-take-in-8
returns-in_ok-take-in-8 c =
    let is : c.args.kind ≡ pos 8 = omega (arith, ints) in
    rw is (kind_read 8 chunk_form m.Chunk _ _ _ _ _ c.in_ok-take-in-8.ensures)

pub returns-in_err-take-in-9 : goal.returns-in_err-take-in-9
returns-in_err-take-in-9 c =
    let is : c.args.kind ≡ pos 9 = omega (arith, ints) in
    let p = err_from_is_err_and c.from_residual-in_err-take-in-9.result c.from_residual-in_err-take-in-9.ensures.1 in
    rw (p.1, p.2, is) (kind_fails 9 put_data_objects_response_form m.PutDataObjectsResponse _ _ c.in_err-take-in-9.field-0.0 c.in_err-take-in-9.ensures)

pub returns-in_ok-take-in-9 : goal.returns-in_ok-take-in-9
returns-in_ok-take-in-9 c =
    let is : c.args.kind ≡ pos 9 = omega (arith, ints) in
    rw is (kind_read 9 put_data_objects_response_form m.PutDataObjectsResponse _ _ _ _ _ c.in_ok-take-in-9.ensures)

pub returns-in_err-take-in-10 : goal.returns-in_err-take-in-10
returns-in_err-take-in-10 c =
    let is : c.args.kind ≡ pos 10 = omega (arith, ints) in
    let p = err_from_is_err_and c.from_residual-in_err-take-in-10.result c.from_residual-in_err-take-in-10.ensures.1 in
    rw (p.1, p.2, is) (kind_fails 10 delete_data_objects_response_form m.DeleteDataObjectsResponse _ _ c.in_err-take-in-10.field-0.0 c.in_err-take-in-10.ensures)

pub returns-in_ok-take-in-10 : goal.returns-in_ok-take-in-10
returns-in_ok-take-in-10 c =
    let is : c.args.kind ≡ pos 10 = omega (arith, ints) in
    rw is (kind_read 10 delete_data_objects_response_form m.DeleteDataObjectsResponse _ _ _ _ _ c.in_ok-take-in-10.ensures)
