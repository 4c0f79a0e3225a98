-- How a session is opened: what is accepted of a RequestSession, and its reply.
use Rattle.std.specs.Prelude.{ℕ, ℤ, pos, max, min, Bool, ◌&&◌, List, [], ◌∷◌, ◌++◌, Option, Some, None, codes, map, filter}
use Rattle.std.specs.List.{list_any}
use Rattle.std.specs.Map.{lookup}
use Rattle.std.specs.Ordering.{int_eq}
use Rattle.std.specs.Str.{bytes_eq}
use Rattle.std.specs.Fmt.{decimal}
use Rattle.server_config.specs.declared.config.Config.{Config}
use Rattle.etp_values.specs.Id.{version5}
use Rattle.etp_values.specs.declared.code.ErrorCode.TheVariants.{NoSupportedProtocols, NoSupportedFormats}
use Rattle.etp_values.specs.declared.data.DataValue.{DataValue}
use Rattle.etp_values.specs.declared.data.DataValue.TheVariants.{Long}
use Rattle.msg_core.specs.declared.core_messages.OpenSession.{OpenSession}
use Rattle.msg_core.specs.declared.core_messages.RequestSession.{RequestSession}
use Rattle.msg_core.specs.declared.core_messages.SupportedDataObject.{SupportedDataObject}
use Rattle.msg_core.specs.declared.core_messages.SupportedProtocol.{SupportedProtocol}
use Rattle.msg_core.specs.declared.core_messages.Version.{Version}
use Rattle.store_machine.specs.Starts.{natural}
use Rattle.session_rows.specs.Once.{once}
use Rattle.session_rows.specs.Formats.{format_text, formats_of}
use Rattle.session_rows.specs.declared.formats.Format.{Format}
use Rattle.session_rows.specs.declared.opening.Opening.{Opening}
use Rattle.session_rows.specs.declared.opening.Opening.TheVariants.{Refused, Opened}

-- ---- protocols

-- the protocols that a session can have besides Core: Store, DataArray, Transaction, the two of channels, and Dataspace
abbrev pub offered : List ℤ
offered = pos 4 ∷ pos 9 ∷ pos 18 ∷ pos 21 ∷ pos 22 ∷ pos 24 ∷ []

-- revision and patch don't matter
abbrev pub is_version_1_2 : Version → Bool
is_version_1_2 v = int_eq v.major (pos 1) && int_eq v.minor (pos 2)

-- a protocol that can be accepted: an offered number, version 1.2, and the role `store`
abbrev pub is_acceptable : SupportedProtocol → Bool
is_acceptable p = list_any (int_eq p.protocol) offered && is_version_1_2 p.protocol_version && bytes_eq p.role (codes "store")

-- the accepted protocols, in the order in which they are requested
abbrev pub accepted_protocols : List SupportedProtocol → List ℤ
accepted_protocols asked = once int_eq (map (λ p. p.protocol) (filter is_acceptable asked))

-- ---- the parts of what is sent

-- a client can ask for parts of at least 65,536 bytes, and of no more than 16,777,216
abbrev pub limited : ℤ → ℕ
limited asked = max 65536 (min (natural asked) 16777216)

-- a capability that is not a long is ignored
abbrev pub limit_in : DataValue → ℕ
limit_in (Long asked) = limited asked
limit_in _ = 16777216

abbrev pub limit_of : Option DataValue → ℕ
limit_of None = 16777216
limit_of (Some value) = limit_in value

-- the maximum size of a session's parts in bytes, by its client's capabilities
abbrev pub part_limit : List (List ℕ × DataValue) → ℕ
part_limit asked = limit_of (lookup (bytes_eq (codes "MaxWebSocketMessagePayloadSize")) asked)

-- ---- the reply

-- an accepted protocol as the server states it
abbrev pub supported : ℤ → SupportedProtocol
supported protocol = record {
  protocol = protocol;
  protocol_version = record { major = pos 1; minor = pos 2; revision = pos 0; patch = pos 0 };
  role = codes "store";
  protocol_capabilities = [];
}

-- the configured types of objects, if there are any
abbrev pub data_objects : Option (List (List ℕ)) → List SupportedDataObject
data_objects None = []
data_objects (Some types) = map (λ t. record { qualified_type = t; data_object_capabilities = [] }) types

-- the identifier of the session of a number
abbrev pub session_id : List ℕ → ℕ → List ℕ
session_id instance number = version5 instance (codes "session:" ++ decimal number)

-- the maximum size of a message in bytes, which is all that the server states about itself
abbrev pub capabilities : List (List ℕ × DataValue)
capabilities = (codes "MaxWebSocketMessagePayloadSize", Long (pos 16777216)) ∷ []

-- the reply to a RequestSession of which this was accepted
abbrev pub open_session : Config → ℕ → ℤ → List ℤ → List Format → OpenSession
open_session config number moment accepted formats = record {
  application_name = config.name;
  application_version = codes "1";
  server_instance_id = config.instance;
  supported_protocols = map supported accepted;
  supported_data_objects = data_objects config.types;
  supported_compression = [];
  supported_formats = map format_text formats;
  current_date_time = moment;
  earliest_retained_change_time = pos 0;
  session_id = session_id config.instance number;
  endpoint_capabilities = capabilities;
}

-- without a protocol, and then without a format, there is no session
abbrev pub opening_with : Config → ℕ → ℤ → ℕ → List ℤ → List Format → Opening
opening_with config number moment limit [] formats = Refused NoSupportedProtocols
opening_with config number moment limit (p ∷ ps) [] = Refused NoSupportedFormats
opening_with config number moment limit (p ∷ ps) (f ∷ fs) = Opened (p ∷ ps) (f ∷ fs) limit (open_session config number moment (p ∷ ps) (f ∷ fs))

-- what comes of a RequestSession to a session that waits for it
abbrev pub opening_of : Config → ℕ → ℤ → RequestSession → Opening
opening_of config number moment request = opening_with config number moment (part_limit request.endpoint_capabilities) (accepted_protocols request.requested_protocols) (formats_of request.supported_formats)
