-- The messages of the Core protocol (0), with their records.
-- `schema/write` writes all below the imports from `schema/messages.txt`.
use Rattle.std.proofs.Common.{ap}
use Rattle.std.specs.Prelude.{refl, List, [], ◌∷◌}
use Rattle.std.specs.List.{AllByRecursion}
use Rattle.etp_schema.specs.Form.{Form, boolean_form, id_form, int_form, long_form, text_form, list_form, named_form, option_form, fields, ◌&◌, done}
use Rattle.etp_schema.specs.Family.{Kind, Body, message, body, IsFound, IsAgain, again}
use Rattle.etp_schema.specs.DataValue.{data_value_form}
use Rattle.msg_core.specs.declared.core_messages.Version.{Version}
use Rattle.msg_core.specs.declared.core_messages.SupportedProtocol.{SupportedProtocol}
use Rattle.msg_core.specs.declared.core_messages.SupportedDataObject.{SupportedDataObject}
use Rattle.msg_core.specs.declared.core_messages.ErrorInfo.{ErrorInfo}
use Rattle.msg_core.specs.declared.core_messages.RequestSession.{RequestSession}
use Rattle.msg_core.specs.declared.core_messages.OpenSession.{OpenSession}
use Rattle.msg_core.specs.declared.core_messages.CloseSession.{CloseSession}
use Rattle.msg_core.specs.declared.core_messages.Ping.{Ping}
use Rattle.msg_core.specs.declared.core_messages.Pong.{Pong}
use Rattle.msg_core.specs.declared.core_messages.ProtocolException.{ProtocolException}
use Rattle.msg_core.specs.declared.core_messages.Acknowledge.{Acknowledge}
use Rattle.msg_core.specs.declared.core_messages.CoreMessage.{CoreMessage}
use Rattle.msg_core.specs.declared.core_messages.CoreMessage.TheVariants as m

-- major, minor, revision, patch
abbrev pub version_form : Form Version
version_form =
    fields (int_form & int_form & int_form & int_form & done)
    (λ x. (x.major, (x.minor, (x.revision, (x.patch, tt)))))
    (λ p. record { major = p.0; minor = p.1.0; revision = p.1.1.0; patch = p.1.1.1.0 })
    (λ x. refl) (λ p. refl)

-- protocol, protocolVersion, role, protocolCapabilities
abbrev pub supported_protocol_form : Form SupportedProtocol
supported_protocol_form =
    fields (int_form & version_form & text_form & (named_form data_value_form) & done)
    (λ x. (x.protocol, (x.protocol_version, (x.role, (x.protocol_capabilities, tt)))))
    (λ p. record { protocol = p.0; protocol_version = p.1.0; role = p.1.1.0; protocol_capabilities = p.1.1.1.0 })
    (λ x. refl) (λ p. refl)

-- qualifiedType, dataObjectCapabilities
abbrev pub supported_data_object_form : Form SupportedDataObject
supported_data_object_form =
    fields (text_form & (named_form data_value_form) & done)
    (λ x. (x.qualified_type, (x.data_object_capabilities, tt)))
    (λ p. record { qualified_type = p.0; data_object_capabilities = p.1.0 })
    (λ x. refl) (λ p. refl)

-- message, code
abbrev pub error_info_form : Form ErrorInfo
error_info_form =
    fields (text_form & int_form & done)
    (λ x. (x.message, (x.code, tt)))
    (λ p. record { message = p.0; code = p.1.0 })
    (λ x. refl) (λ p. refl)

-- applicationName, applicationVersion, clientInstanceId, requestedProtocols, supportedDataObjects, supportedCompression, supportedFormats, currentDateTime, earliestRetainedChangeTime, serverAuthorizationRequired, endpointCapabilities
abbrev pub request_session_form : Form RequestSession
request_session_form =
    fields (text_form & text_form & id_form & (list_form supported_protocol_form) & (list_form supported_data_object_form) & (list_form text_form) & (list_form text_form) & long_form & long_form & boolean_form & (named_form data_value_form) & done)
    (λ x. (x.application_name, (x.application_version, (x.client_instance_id, (x.requested_protocols, (x.supported_data_objects, (x.supported_compression, (x.supported_formats, (x.current_date_time, (x.earliest_retained_change_time, (x.server_authorization_required, (x.endpoint_capabilities, tt))))))))))))
    (λ p. record { application_name = p.0; application_version = p.1.0; client_instance_id = p.1.1.0; requested_protocols = p.1.1.1.0; supported_data_objects = p.1.1.1.1.0; supported_compression = p.1.1.1.1.1.0; supported_formats = p.1.1.1.1.1.1.0; current_date_time = p.1.1.1.1.1.1.1.0; earliest_retained_change_time = p.1.1.1.1.1.1.1.1.0; server_authorization_required = p.1.1.1.1.1.1.1.1.1.0; endpoint_capabilities = p.1.1.1.1.1.1.1.1.1.1.0 })
    (λ x. refl) (λ p. refl)

-- applicationName, applicationVersion, serverInstanceId, supportedProtocols, supportedDataObjects, supportedCompression, supportedFormats, currentDateTime, earliestRetainedChangeTime, sessionId, endpointCapabilities
abbrev pub open_session_form : Form OpenSession
open_session_form =
    fields (text_form & text_form & id_form & (list_form supported_protocol_form) & (list_form supported_data_object_form) & text_form & (list_form text_form) & long_form & long_form & id_form & (named_form data_value_form) & done)
    (λ x. (x.application_name, (x.application_version, (x.server_instance_id, (x.supported_protocols, (x.supported_data_objects, (x.supported_compression, (x.supported_formats, (x.current_date_time, (x.earliest_retained_change_time, (x.session_id, (x.endpoint_capabilities, tt))))))))))))
    (λ p. record { application_name = p.0; application_version = p.1.0; server_instance_id = p.1.1.0; supported_protocols = p.1.1.1.0; supported_data_objects = p.1.1.1.1.0; supported_compression = p.1.1.1.1.1.0; supported_formats = p.1.1.1.1.1.1.0; current_date_time = p.1.1.1.1.1.1.1.0; earliest_retained_change_time = p.1.1.1.1.1.1.1.1.0; session_id = p.1.1.1.1.1.1.1.1.1.0; endpoint_capabilities = p.1.1.1.1.1.1.1.1.1.1.0 })
    (λ x. refl) (λ p. refl)

-- reason
abbrev pub close_session_form : Form CloseSession
close_session_form =
    fields (text_form & done)
    (λ x. (x.reason, tt))
    (λ p. record { reason = p.0 })
    (λ x. refl) (λ p. refl)

-- currentDateTime
abbrev pub ping_form : Form Ping
ping_form =
    fields (long_form & done)
    (λ x. (x.current_date_time, tt))
    (λ p. record { current_date_time = p.0 })
    (λ x. refl) (λ p. refl)

-- currentDateTime
abbrev pub pong_form : Form Pong
pong_form =
    fields (long_form & done)
    (λ x. (x.current_date_time, tt))
    (λ p. record { current_date_time = p.0 })
    (λ x. refl) (λ p. refl)

-- error, errors
abbrev pub protocol_exception_form : Form ProtocolException
protocol_exception_form =
    fields ((option_form error_info_form) & (named_form error_info_form) & done)
    (λ x. (x.error, (x.errors, tt)))
    (λ p. record { error = p.0; errors = p.1.0 })
    (λ x. refl) (λ p. refl)

-- no fields
abbrev pub acknowledge_form : Form Acknowledge
acknowledge_form = fields done (λ x. tt) (λ p. record {}) (λ x. refl) (λ p. refl)

-- the messages by number
abbrev pub core_kinds : List (Kind CoreMessage)
core_kinds =
    message 1 request_session_form m.RequestSession ∷
    message 2 open_session_form m.OpenSession ∷
    message 5 close_session_form m.CloseSession ∷
    message 8 ping_form m.Ping ∷
    message 9 pong_form m.Pong ∷
    message 1000 protocol_exception_form m.ProtocolException ∷
    message 1001 acknowledge_form m.Acknowledge ∷ []

-- the number, schema and value of a message's body
abbrev pub core_body : CoreMessage → Body
core_body (m.RequestSession x) = body 1 request_session_form x
core_body (m.OpenSession x) = body 2 open_session_form x
core_body (m.CloseSession x) = body 5 close_session_form x
core_body (m.Ping x) = body 8 ping_form x
core_body (m.Pong x) = body 9 pong_form x
core_body (m.ProtocolException x) = body 1000 protocol_exception_form x
core_body (m.Acknowledge x) = body 1001 acknowledge_form x

-- each message is found by its number, and read as it was
pub core_found : (x : CoreMessage) → IsFound core_kinds core_body x
core_found (m.RequestSession x) = (message 1 request_session_form m.RequestSession, refl, refl, λ h. ap m.RequestSession (request_session_form.back x h))
core_found (m.OpenSession x) = (message 2 open_session_form m.OpenSession, refl, refl, λ h. ap m.OpenSession (open_session_form.back x h))
core_found (m.CloseSession x) = (message 5 close_session_form m.CloseSession, refl, refl, λ h. ap m.CloseSession (close_session_form.back x h))
core_found (m.Ping x) = (message 8 ping_form m.Ping, refl, refl, λ h. ap m.Ping (ping_form.back x h))
core_found (m.Pong x) = (message 9 pong_form m.Pong, refl, refl, λ h. ap m.Pong (pong_form.back x h))
core_found (m.ProtocolException x) = (message 1000 protocol_exception_form m.ProtocolException, refl, refl, λ h. ap m.ProtocolException (protocol_exception_form.back x h))
core_found (m.Acknowledge x) = (message 1001 acknowledge_form m.Acknowledge, refl, refl, λ h. ap m.Acknowledge (acknowledge_form.back x h))

-- what is read of a body is written as that body
pub core_again : AllByRecursion (IsAgain core_body) core_kinds
core_again =
    (again 1 request_session_form, (again 2 open_session_form, (again 5 close_session_form, (again 8 ping_form, (again 9 pong_form, (again 1000 protocol_exception_form, (again 1001 acknowledge_form, tt)))))))
