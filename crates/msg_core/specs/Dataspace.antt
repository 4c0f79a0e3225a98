-- The messages of the Dataspace protocol (24), with their records.
-- `schema/write` writes all below the imports from `schema/messages.txt`.
use Rattle.std.proofs.Common.{ap}
use Rattle.std.specs.Prelude.{refl, List, [], ◌∷◌}
use Rattle.std.specs.List.{AllByRecursion}
use Rattle.etp_schema.specs.Form.{Form, long_form, text_form, list_form, named_form, option_form, fields, ◌&◌, done}
use Rattle.etp_schema.specs.Family.{Kind, Body, message, body, IsFound, IsAgain, again}
use Rattle.etp_schema.specs.DataValue.{data_value_form}
use Rattle.msg_core.specs.declared.dataspace_messages.Dataspace.{Dataspace}
use Rattle.msg_core.specs.declared.dataspace_messages.GetDataspaces.{GetDataspaces}
use Rattle.msg_core.specs.declared.dataspace_messages.GetDataspacesResponse.{GetDataspacesResponse}
use Rattle.msg_core.specs.declared.dataspace_messages.PutDataspaces.{PutDataspaces}
use Rattle.msg_core.specs.declared.dataspace_messages.DeleteDataspaces.{DeleteDataspaces}
use Rattle.msg_core.specs.declared.dataspace_messages.DeleteDataspacesResponse.{DeleteDataspacesResponse}
use Rattle.msg_core.specs.declared.dataspace_messages.PutDataspacesResponse.{PutDataspacesResponse}
use Rattle.msg_core.specs.declared.dataspace_messages.DataspaceMessage.{DataspaceMessage}
use Rattle.msg_core.specs.declared.dataspace_messages.DataspaceMessage.TheVariants as m

-- uri, path, storeLastWrite, storeCreated, customData
abbrev pub dataspace_form : Form Dataspace
dataspace_form =
    fields (text_form & text_form & long_form & long_form & (named_form data_value_form) & done)
    (λ x. (x.uri, (x.path, (x.store_last_write, (x.store_created, (x.custom_data, tt))))))
    (λ p. record { uri = p.0; path = p.1.0; store_last_write = p.1.1.0; store_created = p.1.1.1.0; custom_data = p.1.1.1.1.0 })
    (λ x. refl) (λ p. refl)

-- storeLastWriteFilter
abbrev pub get_dataspaces_form : Form GetDataspaces
get_dataspaces_form =
    fields ((option_form long_form) & done)
    (λ x. (x.store_last_write_filter, tt))
    (λ p. record { store_last_write_filter = p.0 })
    (λ x. refl) (λ p. refl)

-- dataspaces
abbrev pub get_dataspaces_response_form : Form GetDataspacesResponse
get_dataspaces_response_form =
    fields ((list_form dataspace_form) & done)
    (λ x. (x.dataspaces, tt))
    (λ p. record { dataspaces = p.0 })
    (λ x. refl) (λ p. refl)

-- dataspaces
abbrev pub put_dataspaces_form : Form PutDataspaces
put_dataspaces_form =
    fields ((named_form dataspace_form) & done)
    (λ x. (x.dataspaces, tt))
    (λ p. record { dataspaces = p.0 })
    (λ x. refl) (λ p. refl)

-- uris
abbrev pub delete_dataspaces_form : Form DeleteDataspaces
delete_dataspaces_form =
    fields ((named_form text_form) & done)
    (λ x. (x.uris, tt))
    (λ p. record { uris = p.0 })
    (λ x. refl) (λ p. refl)

-- success
abbrev pub delete_dataspaces_response_form : Form DeleteDataspacesResponse
delete_dataspaces_response_form =
    fields ((named_form text_form) & done)
    (λ x. (x.success, tt))
    (λ p. record { success = p.0 })
    (λ x. refl) (λ p. refl)

-- success
abbrev pub put_dataspaces_response_form : Form PutDataspacesResponse
put_dataspaces_response_form =
    fields ((named_form text_form) & done)
    (λ x. (x.success, tt))
    (λ p. record { success = p.0 })
    (λ x. refl) (λ p. refl)

-- the messages by number
abbrev pub dataspace_kinds : List (Kind DataspaceMessage)
dataspace_kinds =
    message 1 get_dataspaces_form m.GetDataspaces ∷
    message 2 get_dataspaces_response_form m.GetDataspacesResponse ∷
    message 3 put_dataspaces_form m.PutDataspaces ∷
    message 4 delete_dataspaces_form m.DeleteDataspaces ∷
    message 5 delete_dataspaces_response_form m.DeleteDataspacesResponse ∷
    message 6 put_dataspaces_response_form m.PutDataspacesResponse ∷ []

-- the number, schema and value of a message's body
abbrev pub dataspace_body : DataspaceMessage → Body
dataspace_body (m.GetDataspaces x) = body 1 get_dataspaces_form x
dataspace_body (m.GetDataspacesResponse x) = body 2 get_dataspaces_response_form x
dataspace_body (m.PutDataspaces x) = body 3 put_dataspaces_form x
dataspace_body (m.DeleteDataspaces x) = body 4 delete_dataspaces_form x
dataspace_body (m.DeleteDataspacesResponse x) = body 5 delete_dataspaces_response_form x
dataspace_body (m.PutDataspacesResponse x) = body 6 put_dataspaces_response_form x

-- each message is found by its number, and read as it was
pub dataspace_found : (x : DataspaceMessage) → IsFound dataspace_kinds dataspace_body x
dataspace_found (m.GetDataspaces x) = (message 1 get_dataspaces_form m.GetDataspaces, refl, refl, λ h. ap m.GetDataspaces (get_dataspaces_form.back x h))
dataspace_found (m.GetDataspacesResponse x) = (message 2 get_dataspaces_response_form m.GetDataspacesResponse, refl, refl, λ h. ap m.GetDataspacesResponse (get_dataspaces_response_form.back x h))
dataspace_found (m.PutDataspaces x) = (message 3 put_dataspaces_form m.PutDataspaces, refl, refl, λ h. ap m.PutDataspaces (put_dataspaces_form.back x h))
dataspace_found (m.DeleteDataspaces x) = (message 4 delete_dataspaces_form m.DeleteDataspaces, refl, refl, λ h. ap m.DeleteDataspaces (delete_dataspaces_form.back x h))
dataspace_found (m.DeleteDataspacesResponse x) = (message 5 delete_dataspaces_response_form m.DeleteDataspacesResponse, refl, refl, λ h. ap m.DeleteDataspacesResponse (delete_dataspaces_response_form.back x h))
dataspace_found (m.PutDataspacesResponse x) = (message 6 put_dataspaces_response_form m.PutDataspacesResponse, refl, refl, λ h. ap m.PutDataspacesResponse (put_dataspaces_response_form.back x h))

-- what is read of a body is written as that body
pub dataspace_again : AllByRecursion (IsAgain dataspace_body) dataspace_kinds
dataspace_again =
    (again 1 get_dataspaces_form, (again 2 get_dataspaces_response_form, (again 3 put_dataspaces_form, (again 4 delete_dataspaces_form, (again 5 delete_dataspaces_response_form, (again 6 put_dataspaces_response_form, tt))))))
