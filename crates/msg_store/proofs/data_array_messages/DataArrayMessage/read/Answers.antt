use Rattle.std.proofs.Common.{◌≡◌, pos, arith}
use Rattle.std.proofs.lemmas.Int.{ints}
use Rattle.std.proofs.lemmas.Result.{err_from_is_err_and}
use Rattle.etp_schema.proofs.KindLemmas.{kind_read, kind_fails}
use Rattle.msg_store.specs.DataArray.{get_data_array_metadata_form, get_data_array_metadata_response_form, get_data_arrays_form, get_data_arrays_response_form, get_data_subarrays_form, get_data_subarrays_response_form, put_data_arrays_form, put_data_arrays_response_form, put_data_subarrays_form, put_data_subarrays_response_form, put_uninitialized_data_arrays_form, put_uninitialized_data_arrays_response_form}
use Rattle.msg_store.specs.declared.data_array_messages.DataArrayMessage.TheVariants as m
use Rattle.msg_store.proofs.data_array_messages.DataArrayMessage.read.Goals as goal

pub returns-in_err-take-in-1 : goal.returns-in_err-take-in-1
returns-in_err-take-in-1 c =
    let is : c.args.kind ≡ pos 1 = omega (arith, ints) in
    let p = err_from_is_err_and c.from_residual.result c.from_residual.ensures.1 in
    rw (p.1, p.2, is) (kind_fails 1 get_data_arrays_response_form m.GetDataArraysResponse _ _ c.in_err-take-in-1.field-0.0 c.in_err-take-in-1.ensures)

pub returns-in_ok-take-in-1 : goal.returns-in_ok-take-in-1
returns-in_ok-take-in-1 c =
    let is : c.args.kind ≡ pos 1 = omega (arith, ints) in
    rw is (kind_read 1 get_data_arrays_response_form m.GetDataArraysResponse _ _ _ _ _ c.in_ok-take-in-1.ensures)

pub returns-in_err-take-in-2 : goal.returns-in_err-take-in-2
returns-in_err-take-in-2 c =
    let is : c.args.kind ≡ pos 2 = omega (arith, ints) in
    let p = err_from_is_err_and c.from_residual-in_err-take-in-2.result c.from_residual-in_err-take-in-2.ensures.1 in
    rw (p.1, p.2, is) (kind_fails 2 get_data_arrays_form m.GetDataArrays _ _ c.in_err-take-in-2.field-0.0 c.in_err-take-in-2.ensures)

pub returns-in_ok-take-in-2 : goal.returns-in_ok-take-in-2
returns-in_ok-take-in-2 c =
    let is : c.args.kind ≡ pos 2 = omega (arith, ints) in
    rw is (kind_read 2 get_data_arrays_form m.GetDataArrays _ _ _ _ _ c.in_ok-take-in-2.ensures)

pub returns-in_err-take-in-3 : goal.returns-in_err-take-in-3
returns-in_err-take-in-3 c =
    let is : c.args.kind ≡ pos 3 = omega (arith, ints) in
    let p = err_from_is_err_and c.from_residual-in_err-take-in-3.result c.from_residual-in_err-take-in-3.ensures.1 in
    rw (p.1, p.2, is) (kind_fails 3 get_data_subarrays_form m.GetDataSubarrays _ _ c.in_err-take-in-3.field-0.0 c.in_err-take-in-3.ensures)

pub returns-in_ok-take-in-3 : goal.returns-in_ok-take-in-3
returns-in_ok-take-in-3 c =
    let is : c.args.kind ≡ pos 3 = omega (arith, ints) in
    rw is (kind_read 3 get_data_subarrays_form m.GetDataSubarrays _ _ _ _ _ c.in_ok-take-in-3.ensures)

pub returns-in_err-take-in-4 : goal.returns-in_err-take-in-4
returns-in_err-take-in-4 c =
    let is : c.args.kind ≡ pos 4 = omega (arith, ints) in
    let p = err_from_is_err_and c.from_residual-in_err-take-in-4.result c.from_residual-in_err-take-in-4.ensures.1 in
    rw (p.1, p.2, is) (kind_fails 4 put_data_arrays_form m.PutDataArrays _ _ c.in_err-take-in-4.field-0.0 c.in_err-take-in-4.ensures)

pub returns-in_ok-take-in-4 : goal.returns-in_ok-take-in-4
returns-in_ok-take-in-4 c =
    let is : c.args.kind ≡ pos 4 = omega (arith, ints) in
    rw is (kind_read 4 put_data_arrays_form m.PutDataArrays _ _ _ _ _ c.in_ok-take-in-4.ensures)

pub returns-in_err-take-in-5 : goal.returns-in_err-take-in-5
returns-in_err-take-in-5 c =
    let is : c.args.kind ≡ pos 5 = omega (arith, ints) in
    let p = err_from_is_err_and c.from_residual-in_err-take-in-5.result c.from_residual-in_err-take-in-5.ensures.1 in
    rw (p.1, p.2, is) (kind_fails 5 put_data_subarrays_form m.PutDataSubarrays _ _ c.in_err-take-in-5.field-0.0 c.in_err-take-in-5.ensures)

pub returns-in_ok-take-in-5 : goal.returns-in_ok-take-in-5
returns-in_ok-take-in-5 c =
    let is : c.args.kind ≡ pos 5 = omega (arith, ints) in
    rw is (kind_read 5 put_data_subarrays_form m.PutDataSubarrays _ _ _ _ _ c.in_ok-take-in-5.ensures)

pub returns-in_err-take-in-6 : goal.returns-in_err-take-in-6
returns-in_err-take-in-6 c =
    let is : c.args.kind ≡ pos 6 = omega (arith, ints) in
    let p = err_from_is_err_and c.from_residual-in_err-take-in-6.result c.from_residual-in_err-take-in-6.ensures.1 in
    rw (p.1, p.2, is) (kind_fails 6 get_data_array_metadata_form m.GetDataArrayMetadata _ _ c.in_err-take-in-6.field-0.0 c.in_err-take-in-6.ensures)

pub returns-in_ok-take-in-6 : goal.returns-in_ok-take-in-6
returns-in_ok-take-in-6 c =
    let is : c.args.kind ≡ pos 6 = omega (arith, ints) in
    rw is (kind_read 6 get_data_array_metadata_form m.GetDataArrayMetadata _ _ _ _ _ c.in_ok-take-in-6.ensures)

pub returns-in_err-take-in-7 : goal.returns-in_err-take-in-7
returns-in_err-take-in-7 c =
    let is : c.args.kind ≡ pos 7 = omega (arith, ints) in
    let p = err_from_is_err_and c.from_residual-in_err-take-in-7.result c.from_residual-in_err-take-in-7.ensures.1 in
    rw (p.1, p.2, is) (kind_fails 7 get_data_array_metadata_response_form m.GetDataArrayMetadataResponse _ _ c.in_err-take-in-7.field-0.0 c.in_err-take-in-7.ensures)

pub returns-in_ok-take-in-7 : goal.returns-in_ok-take-in-7
returns-in_ok-take-in-7 c =
    let is : c.args.kind ≡ pos 7 = omega (arith, ints) in
    rw is (kind_read 7 get_data_array_metadata_response_form m.GetDataArrayMetadataResponse _ _ _ _ _ c.in_ok-take-in-7.ensures)

pub returns-in_err-take-in-8 : goal.returns-in_err-take-in-8
returns-in_err-take-in-8 c =
    let is : c.args.kind ≡ pos 8 = omega (arith, ints) in
    let p = err_from_is_err_and c.from_residual-in_err-take-in-8.result c.from_residual-in_err-take-in-8.ensures.1 in
    rw (p.1, p.2, is) (kind_fails 8 get_data_subarrays_response_form m.GetDataSubarraysResponse _ _ c.in_err-take-in-8.field-0.0 c.in_err-take-in-8.ensures)

pub returns-in_ok-take-in-8 : goal.returns-in_ok-take-in-8
returns-in_ok-take-in-8 c =
    let is : c.args.kind ≡ pos 8 = omega (arith, ints) in
    rw is (kind_read 8 get_data_subarrays_response_form m.GetDataSubarraysResponse _ _ _ _ _ c.in_ok-take-in-8.ensures)

pub returns-in_err-take-in-9 : goal.returns-in_err-take-in-9
returns-in_err-take-in-9 c =
    let is : c.args.kind ≡ pos 9 = omega (arith, ints) in
    let p = err_from_is_err_and c.from_residual-in_err-take-in-9.result c.from_residual-in_err-take-in-9.ensures.1 in
    rw (p.1, p.2, is) (kind_fails 9 put_uninitialized_data_arrays_form m.PutUninitializedDataArrays _ _ c.in_err-take-in-9.field-0.0 c.in_err-take-in-9.ensures)

pub returns-in_ok-take-in-9 : goal.returns-in_ok-take-in-9
returns-in_ok-take-in-9 c =
    let is : c.args.kind ≡ pos 9 = omega (arith, ints) in
    rw is (kind_read 9 put_uninitialized_data_arrays_form m.PutUninitializedDataArrays _ _ _ _ _ c.in_ok-take-in-9.ensures)

pub returns-in_err-take-in-10 : goal.returns-in_err-take-in-10
returns-in_err-take-in-10 c =
    let is : c.args.kind ≡ pos 10 = omega (arith, ints) in
    let p = err_from_is_err_and c.from_residual-in_err-take-in-10.result c.from_residual-in_err-take-in-10.ensures.1 in
    rw (p.1, p.2, is) (kind_fails 10 put_data_arrays_response_form m.PutDataArraysResponse _ _ c.in_err-take-in-10.field-0.0 c.in_err-take-in-10.ensures)

pub returns-in_ok-take-in-10 : goal.returns-in_ok-take-in-10
returns-in_ok-take-in-10 c =
    let is : c.args.kind ≡ pos 10 = omega (arith, ints) in
    rw is (kind_read 10 put_data_arrays_response_form m.PutDataArraysResponse _ _ _ _ _ c.in_ok-take-in-10.ensures)

pub returns-in_err-take-in-11 : goal.returns-in_err-take-in-11
returns-in_err-take-in-11 c =
    let is : c.args.kind ≡ pos 11 = omega (arith, ints) in
    let p = err_from_is_err_and c.from_residual-in_err-take-in-11.result c.from_residual-in_err-take-in-11.ensures.1 in
    rw (p.1, p.2, is) (kind_fails 11 put_data_subarrays_response_form m.PutDataSubarraysResponse _ _ c.in_err-take-in-11.field-0.0 c.in_err-take-in-11.ensures)

pub returns-in_ok-take-in-11 : goal.returns-in_ok-take-in-11
returns-in_ok-take-in-11 c =
    let is : c.args.kind ≡ pos 11 = omega (arith, ints) in
    rw is (kind_read 11 put_data_subarrays_response_form m.PutDataSubarraysResponse _ _ _ _ _ c.in_ok-take-in-11.ensures)

pub returns-in_err-take-in-12 : goal.returns-in_err-take-in-12
returns-in_err-take-in-12 c =
    let is : c.args.kind ≡ pos 12 = omega (arith, ints) in
    let p = err_from_is_err_and c.from_residual-in_err-take-in-12.result c.from_residual-in_err-take-in-12.ensures.1 in
    rw (p.1, p.2, is) (kind_fails 12 put_uninitialized_data_arrays_response_form m.PutUninitializedDataArraysResponse _ _ c.in_err-take-in-12.field-0.0 c.in_err-take-in-12.ensures)

pub returns-in_ok-take-in-12 : goal.returns-in_ok-take-in-12
returns-in_ok-take-in-12 c =
    let is : c.args.kind ≡ pos 12 = omega (arith, ints) in
    rw is (kind_read 12 put_uninitialized_data_arrays_response_form m.PutUninitializedDataArraysResponse _ _ _ _ _ c.in_ok-take-in-12.ensures)
