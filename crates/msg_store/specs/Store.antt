-- The messages of the Store protocol (4), with their records.
-- `schema/write` writes all below the imports from `schema/messages.txt`.
use Rattle.std.proofs.Common.{ap}
use Rattle.std.specs.Prelude.{refl, List, [], ◌∷◌}
use Rattle.std.specs.List.{AllByRecursion}
use Rattle.etp_schema.specs.Form.{Form, boolean_form, bytes_form, id_form, int_form, long_form, text_form, list_form, named_form, option_form, fields, ◌&◌, done}
use Rattle.etp_schema.specs.Family.{Kind, Body, message, body, IsFound, IsAgain, again}
use Rattle.etp_schema.specs.DataValue.{data_value_form}
use Rattle.etp_schema.specs.Status.{active_status_kind_form}
use Rattle.msg_store.specs.declared.store_messages.Resource.{Resource}
use Rattle.msg_store.specs.declared.store_messages.DataObject.{DataObject}
use Rattle.msg_store.specs.declared.store_messages.PutResponse.{PutResponse}
use Rattle.msg_store.specs.declared.store_messages.ArrayOfString.{ArrayOfString}
use Rattle.msg_store.specs.declared.store_messages.GetDataObjects.{GetDataObjects}
use Rattle.msg_store.specs.declared.store_messages.PutDataObjects.{PutDataObjects}
use Rattle.msg_store.specs.declared.store_messages.DeleteDataObjects.{DeleteDataObjects}
use Rattle.msg_store.specs.declared.store_messages.GetDataObjectsResponse.{GetDataObjectsResponse}
use Rattle.msg_store.specs.declared.store_messages.Chunk.{Chunk}
use Rattle.msg_store.specs.declared.store_messages.PutDataObjectsResponse.{PutDataObjectsResponse}
use Rattle.msg_store.specs.declared.store_messages.DeleteDataObjectsResponse.{DeleteDataObjectsResponse}
use Rattle.msg_store.specs.declared.store_messages.StoreMessage.{StoreMessage}
use Rattle.msg_store.specs.declared.store_messages.StoreMessage.TheVariants as m

-- uri, alternateUris, name, sourceCount, targetCount, lastChanged, storeLastWrite, storeCreated, activeStatus, customData
abbrev pub resource_form : Form Resource
resource_form =
    fields (text_form & (list_form text_form) & text_form & (option_form int_form) & (option_form int_form) & long_form & long_form & long_form & active_status_kind_form & (named_form data_value_form) & done)
    (λ x. (x.uri, (x.alternate_uris, (x.name, (x.source_count, (x.target_count, (x.last_changed, (x.store_last_write, (x.store_created, (x.active_status, (x.custom_data, tt)))))))))))
    (λ p. record { uri = p.0; alternate_uris = p.1.0; name = p.1.1.0; source_count = p.1.1.1.0; target_count = p.1.1.1.1.0; last_changed = p.1.1.1.1.1.0; store_last_write = p.1.1.1.1.1.1.0; store_created = p.1.1.1.1.1.1.1.0; active_status = p.1.1.1.1.1.1.1.1.0; custom_data = p.1.1.1.1.1.1.1.1.1.0 })
    (λ x. refl) (λ p. refl)

-- resource, format, blobId, data
abbrev pub data_object_form : Form DataObject
data_object_form =
    fields (resource_form & text_form & (option_form id_form) & bytes_form & done)
    (λ x. (x.resource, (x.format, (x.blob_id, (x.payload, tt)))))
    (λ p. record { resource = p.0; format = p.1.0; blob_id = p.1.1.0; payload = p.1.1.1.0 })
    (λ x. refl) (λ p. refl)

-- createdContainedObjectUris, deletedContainedObjectUris, joinedContainedObjectUris, unjoinedContainedObjectUris
abbrev pub put_response_form : Form PutResponse
put_response_form =
    fields ((list_form text_form) & (list_form text_form) & (list_form text_form) & (list_form text_form) & done)
    (λ x. (x.created_contained_object_uris, (x.deleted_contained_object_uris, (x.joined_contained_object_uris, (x.unjoined_contained_object_uris, tt)))))
    (λ p. record { created_contained_object_uris = p.0; deleted_contained_object_uris = p.1.0; joined_contained_object_uris = p.1.1.0; unjoined_contained_object_uris = p.1.1.1.0 })
    (λ x. refl) (λ p. refl)

-- values
abbrev pub array_of_string_form : Form ArrayOfString
array_of_string_form =
    fields ((list_form text_form) & done)
    (λ x. (x.values, tt))
    (λ p. record { values = p.0 })
    (λ x. refl) (λ p. refl)

-- uris, format
abbrev pub get_data_objects_form : Form GetDataObjects
get_data_objects_form =
    fields ((named_form text_form) & text_form & done)
    (λ x. (x.uris, (x.format, tt)))
    (λ p. record { uris = p.0; format = p.1.0 })
    (λ x. refl) (λ p. refl)

-- dataObjects, pruneContainedObjects
abbrev pub put_data_objects_form : Form PutDataObjects
put_data_objects_form =
    fields ((named_form data_object_form) & boolean_form & done)
    (λ x. (x.data_objects, (x.prune_contained_objects, tt)))
    (λ p. record { data_objects = p.0; prune_contained_objects = p.1.0 })
    (λ x. refl) (λ p. refl)

-- uris, pruneContainedObjects
abbrev pub delete_data_objects_form : Form DeleteDataObjects
delete_data_objects_form =
    fields ((named_form text_form) & boolean_form & done)
    (λ x. (x.uris, (x.prune_contained_objects, tt)))
    (λ p. record { uris = p.0; prune_contained_objects = p.1.0 })
    (λ x. refl) (λ p. refl)

-- dataObjects
abbrev pub get_data_objects_response_form : Form GetDataObjectsResponse
get_data_objects_response_form =
    fields ((named_form data_object_form) & done)
    (λ x. (x.data_objects, tt))
    (λ p. record { data_objects = p.0 })
    (λ x. refl) (λ p. refl)

-- blobId, data, final
abbrev pub chunk_form : Form Chunk
chunk_form =
    fields (id_form & bytes_form & boolean_form & done)
    (λ x. (x.blob_id, (x.payload, (x.last, tt))))
    (λ p. record { blob_id = p.0; payload = p.1.0; last = p.1.1.0 })
    (λ x. refl) (λ p. refl)

-- success
abbrev pub put_data_objects_response_form : Form PutDataObjectsResponse
put_data_objects_response_form =
    fields ((named_form put_response_form) & done)
    (λ x. (x.success, tt))
    (λ p. record { success = p.0 })
    (λ x. refl) (λ p. refl)

-- deletedUris
abbrev pub delete_data_objects_response_form : Form DeleteDataObjectsResponse
delete_data_objects_response_form =
    fields ((named_form array_of_string_form) & done)
    (λ x. (x.deleted_uris, tt))
    (λ p. record { deleted_uris = p.0 })
    (λ x. refl) (λ p. refl)

-- the messages by number
abbrev pub store_kinds : List (Kind StoreMessage)
store_kinds =
    message 1 get_data_objects_form m.GetDataObjects ∷
    message 2 put_data_objects_form m.PutDataObjects ∷
    message 3 delete_data_objects_form m.DeleteDataObjects ∷
    message 4 get_data_objects_response_form m.GetDataObjectsResponse ∷
    message 8 chunk_form m.Chunk ∷
    message 9 put_data_objects_response_form m.PutDataObjectsResponse ∷
    message 10 delete_data_objects_response_form m.DeleteDataObjectsResponse ∷ []

-- the number, schema and value of a message's body
abbrev pub store_body : StoreMessage → Body
store_body (m.GetDataObjects x) = body 1 get_data_objects_form x
store_body (m.PutDataObjects x) = body 2 put_data_objects_form x
store_body (m.DeleteDataObjects x) = body 3 delete_data_objects_form x
store_body (m.GetDataObjectsResponse x) = body 4 get_data_objects_response_form x
store_body (m.Chunk x) = body 8 chunk_form x
store_body (m.PutDataObjectsResponse x) = body 9 put_data_objects_response_form x
store_body (m.DeleteDataObjectsResponse x) = body 10 delete_data_objects_response_form x

-- each message is found by its number, and read as it was
pub store_found : (x : StoreMessage) → IsFound store_kinds store_body x
store_found (m.GetDataObjects x) = (message 1 get_data_objects_form m.GetDataObjects, refl, refl, λ h. ap m.GetDataObjects (get_data_objects_form.back x h))
store_found (m.PutDataObjects x) = (message 2 put_data_objects_form m.PutDataObjects, refl, refl, λ h. ap m.PutDataObjects (put_data_objects_form.back x h))
store_found (m.DeleteDataObjects x) = (message 3 delete_data_objects_form m.DeleteDataObjects, refl, refl, λ h. ap m.DeleteDataObjects (delete_data_objects_form.back x h))
store_found (m.GetDataObjectsResponse x) = (message 4 get_data_objects_response_form m.GetDataObjectsResponse, refl, refl, λ h. ap m.GetDataObjectsResponse (get_data_objects_response_form.back x h))
store_found (m.Chunk x) = (message 8 chunk_form m.Chunk, refl, refl, λ h. ap m.Chunk (chunk_form.back x h))
store_found (m.PutDataObjectsResponse x) = (message 9 put_data_objects_response_form m.PutDataObjectsResponse, refl, refl, λ h. ap m.PutDataObjectsResponse (put_data_objects_response_form.back x h))
store_found (m.DeleteDataObjectsResponse x) = (message 10 delete_data_objects_response_form m.DeleteDataObjectsResponse, refl, refl, λ h. ap m.DeleteDataObjectsResponse (delete_data_objects_response_form.back x h))

-- what is read of a body is written as that body
pub store_again : AllByRecursion (IsAgain store_body) store_kinds
store_again =
    (again 1 get_data_objects_form, (again 2 put_data_objects_form, (again 3 delete_data_objects_form, (again 4 get_data_objects_response_form, (again 8 chunk_form, (again 9 put_data_objects_response_form, (again 10 delete_data_objects_response_form, tt)))))))
