-- The messages of the DataArray protocol (9).
-- `schema/write` writes all below the imports from `schema/messages.txt`.
use Rattle.std.proofs.Common.{ap}
use Rattle.std.specs.Prelude.{refl, List, [], ◌∷◌}
use Rattle.std.specs.List.{AllByRecursion}
use Rattle.etp_schema.specs.Form.{Form, text_form, named_form, fields, ◌&◌, done}
use Rattle.etp_schema.specs.Family.{Kind, Body, message, body, IsFound, IsAgain, again}
use Rattle.msg_store.specs.ArrayRecords.{data_array_form, data_array_identifier_form, data_array_metadata_form, get_data_subarrays_type_form, put_data_arrays_type_form, put_data_subarrays_type_form, put_uninitialized_data_array_type_form}
use Rattle.msg_store.specs.declared.data_array_messages.GetDataArraysResponse.{GetDataArraysResponse}
use Rattle.msg_store.specs.declared.data_array_messages.GetDataArrays.{GetDataArrays}
use Rattle.msg_store.specs.declared.data_array_messages.GetDataSubarrays.{GetDataSubarrays}
use Rattle.msg_store.specs.declared.data_array_messages.PutDataArrays.{PutDataArrays}
use Rattle.msg_store.specs.declared.data_array_messages.PutDataSubarrays.{PutDataSubarrays}
use Rattle.msg_store.specs.declared.data_array_messages.GetDataArrayMetadata.{GetDataArrayMetadata}
use Rattle.msg_store.specs.declared.data_array_messages.GetDataArrayMetadataResponse.{GetDataArrayMetadataResponse}
use Rattle.msg_store.specs.declared.data_array_messages.GetDataSubarraysResponse.{GetDataSubarraysResponse}
use Rattle.msg_store.specs.declared.data_array_messages.PutUninitializedDataArrays.{PutUninitializedDataArrays}
use Rattle.msg_store.specs.declared.data_array_messages.PutDataArraysResponse.{PutDataArraysResponse}
use Rattle.msg_store.specs.declared.data_array_messages.PutDataSubarraysResponse.{PutDataSubarraysResponse}
use Rattle.msg_store.specs.declared.data_array_messages.PutUninitializedDataArraysResponse.{PutUninitializedDataArraysResponse}
use Rattle.msg_store.specs.declared.data_array_messages.DataArrayMessage.{DataArrayMessage}
use Rattle.msg_store.specs.declared.data_array_messages.DataArrayMessage.TheVariants as m

-- dataArrays
abbrev pub get_data_arrays_response_form : Form GetDataArraysResponse
get_data_arrays_response_form =
    fields ((named_form data_array_form) & done)
    (λ x. (x.data_arrays, tt))
    (λ p. record { data_arrays = p.0 })
    (λ x. refl) (λ p. refl)

-- dataArrays
abbrev pub get_data_arrays_form : Form GetDataArrays
get_data_arrays_form =
    fields ((named_form data_array_identifier_form) & done)
    (λ x. (x.data_arrays, tt))
    (λ p. record { data_arrays = p.0 })
    (λ x. refl) (λ p. refl)

-- dataSubarrays
abbrev pub get_data_subarrays_form : Form GetDataSubarrays
get_data_subarrays_form =
    fields ((named_form get_data_subarrays_type_form) & done)
    (λ x. (x.data_subarrays, tt))
    (λ p. record { data_subarrays = p.0 })
    (λ x. refl) (λ p. refl)

-- dataArrays
abbrev pub put_data_arrays_form : Form PutDataArrays
put_data_arrays_form =
    fields ((named_form put_data_arrays_type_form) & done)
    (λ x. (x.data_arrays, tt))
    (λ p. record { data_arrays = p.0 })
    (λ x. refl) (λ p. refl)

-- dataSubarrays
abbrev pub put_data_subarrays_form : Form PutDataSubarrays
put_data_subarrays_form =
    fields ((named_form put_data_subarrays_type_form) & done)
    (λ x. (x.data_subarrays, tt))
    (λ p. record { data_subarrays = p.0 })
    (λ x. refl) (λ p. refl)

-- dataArrays
abbrev pub get_data_array_metadata_form : Form GetDataArrayMetadata
get_data_array_metadata_form =
    fields ((named_form data_array_identifier_form) & done)
    (λ x. (x.data_arrays, tt))
    (λ p. record { data_arrays = p.0 })
    (λ x. refl) (λ p. refl)

-- arrayMetadata
abbrev pub get_data_array_metadata_response_form : Form GetDataArrayMetadataResponse
get_data_array_metadata_response_form =
    fields ((named_form data_array_metadata_form) & done)
    (λ x. (x.array_metadata, tt))
    (λ p. record { array_metadata = p.0 })
    (λ x. refl) (λ p. refl)

-- dataSubarrays
abbrev pub get_data_subarrays_response_form : Form GetDataSubarraysResponse
get_data_subarrays_response_form =
    fields ((named_form data_array_form) & done)
    (λ x. (x.data_subarrays, tt))
    (λ p. record { data_subarrays = p.0 })
    (λ x. refl) (λ p. refl)

-- dataArrays
abbrev pub put_uninitialized_data_arrays_form : Form PutUninitializedDataArrays
put_uninitialized_data_arrays_form =
    fields ((named_form put_uninitialized_data_array_type_form) & done)
    (λ x. (x.data_arrays, tt))
    (λ p. record { data_arrays = p.0 })
    (λ x. refl) (λ p. refl)

-- success
abbrev pub put_data_arrays_response_form : Form PutDataArraysResponse
put_data_arrays_response_form =
    fields ((named_form text_form) & done)
    (λ x. (x.success, tt))
    (λ p. record { success = p.0 })
    (λ x. refl) (λ p. refl)

-- success
abbrev pub put_data_subarrays_response_form : Form PutDataSubarraysResponse
put_data_subarrays_response_form =
    fields ((named_form text_form) & done)
    (λ x. (x.success, tt))
    (λ p. record { success = p.0 })
    (λ x. refl) (λ p. refl)

-- success
abbrev pub put_uninitialized_data_arrays_response_form : Form PutUninitializedDataArraysResponse
put_uninitialized_data_arrays_response_form =
    fields ((named_form text_form) & done)
    (λ x. (x.success, tt))
    (λ p. record { success = p.0 })
    (λ x. refl) (λ p. refl)

-- the messages by number
abbrev pub data_array_kinds : List (Kind DataArrayMessage)
data_array_kinds =
    message 1 get_data_arrays_response_form m.GetDataArraysResponse ∷
    message 2 get_data_arrays_form m.GetDataArrays ∷
    message 3 get_data_subarrays_form m.GetDataSubarrays ∷
    message 4 put_data_arrays_form m.PutDataArrays ∷
    message 5 put_data_subarrays_form m.PutDataSubarrays ∷
    message 6 get_data_array_metadata_form m.GetDataArrayMetadata ∷
    message 7 get_data_array_metadata_response_form m.GetDataArrayMetadataResponse ∷
    message 8 get_data_subarrays_response_form m.GetDataSubarraysResponse ∷
    message 9 put_uninitialized_data_arrays_form m.PutUninitializedDataArrays ∷
    message 10 put_data_arrays_response_form m.PutDataArraysResponse ∷
    message 11 put_data_subarrays_response_form m.PutDataSubarraysResponse ∷
    message 12 put_uninitialized_data_arrays_response_form m.PutUninitializedDataArraysResponse ∷ []

-- the number, schema and value of a message's body
abbrev pub data_array_body : DataArrayMessage → Body
data_array_body (m.GetDataArraysResponse x) = body 1 get_data_arrays_response_form x
data_array_body (m.GetDataArrays x) = body 2 get_data_arrays_form x
data_array_body (m.GetDataSubarrays x) = body 3 get_data_subarrays_form x
data_array_body (m.PutDataArrays x) = body 4 put_data_arrays_form x
data_array_body (m.PutDataSubarrays x) = body 5 put_data_subarrays_form x
data_array_body (m.GetDataArrayMetadata x) = body 6 get_data_array_metadata_form x
data_array_body (m.GetDataArrayMetadataResponse x) = body 7 get_data_array_metadata_response_form x
data_array_body (m.GetDataSubarraysResponse x) = body 8 get_data_subarrays_response_form x
data_array_body (m.PutUninitializedDataArrays x) = body 9 put_uninitialized_data_arrays_form x
data_array_body (m.PutDataArraysResponse x) = body 10 put_data_arrays_response_form x
data_array_body (m.PutDataSubarraysResponse x) = body 11 put_data_subarrays_response_form x
data_array_body (m.PutUninitializedDataArraysResponse x) = body 12 put_uninitialized_data_arrays_response_form x

-- each message is found by its number, and read as it was
pub data_array_found : (x : DataArrayMessage) → IsFound data_array_kinds data_array_body x
data_array_found (m.GetDataArraysResponse x) = (message 1 get_data_arrays_response_form m.GetDataArraysResponse, refl, refl, λ h. ap m.GetDataArraysResponse (get_data_arrays_response_form.back x h))
data_array_found (m.GetDataArrays x) = (message 2 get_data_arrays_form m.GetDataArrays, refl, refl, λ h. ap m.GetDataArrays (get_data_arrays_form.back x h))
data_array_found (m.GetDataSubarrays x) = (message 3 get_data_subarrays_form m.GetDataSubarrays, refl, refl, λ h. ap m.GetDataSubarrays (get_data_subarrays_form.back x h))
data_array_found (m.PutDataArrays x) = (message 4 put_data_arrays_form m.PutDataArrays, refl, refl, λ h. ap m.PutDataArrays (put_data_arrays_form.back x h))
data_array_found (m.PutDataSubarrays x) = (message 5 put_data_subarrays_form m.PutDataSubarrays, refl, refl, λ h. ap m.PutDataSubarrays (put_data_subarrays_form.back x h))
data_array_found (m.GetDataArrayMetadata x) = (message 6 get_data_array_metadata_form m.GetDataArrayMetadata, refl, refl, λ h. ap m.GetDataArrayMetadata (get_data_array_metadata_form.back x h))
data_array_found (m.GetDataArrayMetadataResponse x) = (message 7 get_data_array_metadata_response_form m.GetDataArrayMetadataResponse, refl, refl, λ h. ap m.GetDataArrayMetadataResponse (get_data_array_metadata_response_form.back x h))
data_array_found (m.GetDataSubarraysResponse x) = (message 8 get_data_subarrays_response_form m.GetDataSubarraysResponse, refl, refl, λ h. ap m.GetDataSubarraysResponse (get_data_subarrays_response_form.back x h))
data_array_found (m.PutUninitializedDataArrays x) = (message 9 put_uninitialized_data_arrays_form m.PutUninitializedDataArrays, refl, refl, λ h. ap m.PutUninitializedDataArrays (put_uninitialized_data_arrays_form.back x h))
data_array_found (m.PutDataArraysResponse x) = (message 10 put_data_arrays_response_form m.PutDataArraysResponse, refl, refl, λ h. ap m.PutDataArraysResponse (put_data_arrays_response_form.back x h))
data_array_found (m.PutDataSubarraysResponse x) = (message 11 put_data_subarrays_response_form m.PutDataSubarraysResponse, refl, refl, λ h. ap m.PutDataSubarraysResponse (put_data_subarrays_response_form.back x h))
data_array_found (m.PutUninitializedDataArraysResponse x) = (message 12 put_uninitialized_data_arrays_response_form m.PutUninitializedDataArraysResponse, refl, refl, λ h. ap m.PutUninitializedDataArraysResponse (put_uninitialized_data_arrays_response_form.back x h))

-- what is read of a body is written as that body
pub data_array_again : AllByRecursion (IsAgain data_array_body) data_array_kinds
data_array_again =
    (again 1 get_data_arrays_response_form, (again 2 get_data_arrays_form, (again 3 get_data_subarrays_form, (again 4 put_data_arrays_form, (again 5 put_data_subarrays_form, (again 6 get_data_array_metadata_form, (again 7 get_data_array_metadata_response_form, (again 8 get_data_subarrays_response_form, (again 9 put_uninitialized_data_arrays_form, (again 10 put_data_arrays_response_form, (again 11 put_data_subarrays_response_form, (again 12 put_uninitialized_data_arrays_response_form, tt))))))))))))
