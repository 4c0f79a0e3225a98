-- The records of the DataArray protocol (9).
-- `schema/write` writes all below the imports from `schema/messages.txt`.
use Rattle.std.specs.Prelude.{refl}
use Rattle.etp_schema.specs.Form.{Form, long_form, text_form, list_form, named_form, fields, ◌&◌, done}
use Rattle.etp_schema.specs.AnyArray.{any_array_form}
use Rattle.etp_schema.specs.DataValue.{data_value_form}
use Rattle.msg_store.specs.ArrayTypes.{any_array_type_form, any_logical_array_type_form}
use Rattle.msg_store.specs.declared.array_records.DataArrayIdentifier.{DataArrayIdentifier}
use Rattle.msg_store.specs.declared.array_records.DataArray.{DataArray}
use Rattle.msg_store.specs.declared.array_records.DataArrayMetadata.{DataArrayMetadata}
use Rattle.msg_store.specs.declared.array_records.GetDataSubarraysType.{GetDataSubarraysType}
use Rattle.msg_store.specs.declared.array_records.PutDataArraysType.{PutDataArraysType}
use Rattle.msg_store.specs.declared.array_records.PutDataSubarraysType.{PutDataSubarraysType}
use Rattle.msg_store.specs.declared.array_records.PutUninitializedDataArrayType.{PutUninitializedDataArrayType}

-- uri, pathInResource
abbrev pub data_array_identifier_form : Form DataArrayIdentifier
data_array_identifier_form =
    fields (text_form & text_form & done)
    (λ x. (x.uri, (x.path_in_resource, tt)))
    (λ p. record { uri = p.0; path_in_resource = p.1.0 })
    (λ x. refl) (λ p. refl)

-- dimensions, data
abbrev pub data_array_form : Form DataArray
data_array_form =
    fields ((list_form long_form) & any_array_form & done)
    (λ x. (x.dimensions, (x.payload, tt)))
    (λ p. record { dimensions = p.0; payload = p.1.0 })
    (λ x. refl) (λ p. refl)

-- dimensions, preferredSubarrayDimensions, transportArrayType, logicalArrayType, storeLastWrite, storeCreated, customData
abbrev pub data_array_metadata_form : Form DataArrayMetadata
data_array_metadata_form =
    fields ((list_form long_form) & (list_form long_form) & any_array_type_form & any_logical_array_type_form & long_form & long_form & (named_form data_value_form) & done)
    (λ x. (x.dimensions, (x.preferred_subarray_dimensions, (x.transport_array_type, (x.logical_array_type, (x.store_last_write, (x.store_created, (x.custom_data, tt))))))))
    (λ p. record { dimensions = p.0; preferred_subarray_dimensions = p.1.0; transport_array_type = p.1.1.0; logical_array_type = p.1.1.1.0; store_last_write = p.1.1.1.1.0; store_created = p.1.1.1.1.1.0; custom_data = p.1.1.1.1.1.1.0 })
    (λ x. refl) (λ p. refl)

-- uid, starts, counts
abbrev pub get_data_subarrays_type_form : Form GetDataSubarraysType
get_data_subarrays_type_form =
    fields (data_array_identifier_form & (list_form long_form) & (list_form long_form) & done)
    (λ x. (x.uid, (x.starts, (x.counts, tt))))
    (λ p. record { uid = p.0; starts = p.1.0; counts = p.1.1.0 })
    (λ x. refl) (λ p. refl)

-- uid, array, customData
abbrev pub put_data_arrays_type_form : Form PutDataArraysType
put_data_arrays_type_form =
    fields (data_array_identifier_form & data_array_form & (named_form data_value_form) & done)
    (λ x. (x.uid, (x.array, (x.custom_data, tt))))
    (λ p. record { uid = p.0; array = p.1.0; custom_data = p.1.1.0 })
    (λ x. refl) (λ p. refl)

-- uid, data, starts, counts
abbrev pub put_data_subarrays_type_form : Form PutDataSubarraysType
put_data_subarrays_type_form =
    fields (data_array_identifier_form & any_array_form & (list_form long_form) & (list_form long_form) & done)
    (λ x. (x.uid, (x.payload, (x.starts, (x.counts, tt)))))
    (λ p. record { uid = p.0; payload = p.1.0; starts = p.1.1.0; counts = p.1.1.1.0 })
    (λ x. refl) (λ p. refl)

-- uid, metadata
abbrev pub put_uninitialized_data_array_type_form : Form PutUninitializedDataArrayType
put_uninitialized_data_array_type_form =
    fields (data_array_identifier_form & data_array_metadata_form & done)
    (λ x. (x.uid, (x.metadata, tt)))
    (λ p. record { uid = p.0; metadata = p.1.0 })
    (λ x. refl) (λ p. refl)
