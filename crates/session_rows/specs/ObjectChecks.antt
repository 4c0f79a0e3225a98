-- What is tested about the keys of a request for objects before the store is asked.
use Rattle.std.specs.Prelude.{ℕ, pos, ◌+◌, Bool, true, false, not, ◌||◌, List, [], ◌∷◌, ◌++◌, Option, Some, None, codes, length, nat_lt, if◌then◌else◌}
use Rattle.std.specs.List.{list_any}
use Rattle.std.specs.Str.{bytes_eq}
use Rattle.avro_bin.specs.Plain.{plain}
use Rattle.etp_schema.specs.DataValue.{data_value_form}
use Rattle.etp_schema.specs.Form.{list_form, named_form, text_form}
use Rattle.etp_schema.specs.Status.{status_place}
use Rattle.etp_values.specs.declared.code.ErrorCode.TheVariants.{DataObjectTypeNotSupported, NoSupportedFormats, RequestDenied, SizeExceeded}
use Rattle.etp_values.specs.declared.uri.ObjectName.{ObjectName}
use Rattle.etp_values.specs.declared.uri.StoreUri.{StoreUri}
use Rattle.keyed_requests.specs.Uris.{object_uri}
use Rattle.keyed_requests.specs.declared.keys.Decision.{Decision}
use Rattle.keyed_requests.specs.declared.keys.Decision.TheVariants.{Granted, Refused}
use Rattle.msg_store.specs.declared.store_messages.DataObject.{DataObject}
use Rattle.msg_store.specs.declared.store_messages.Resource.{Resource}
use Rattle.object_store.specs.declared.records.ObjectRecord.{ObjectRecord}
use Rattle.request_scope.specs.Scope.{may_use}
use Rattle.tx_stage.specs.Staging.{Transaction}
use Rattle.session_rows.specs.Formats.{format_of, format_text, same_format}
use Rattle.session_rows.specs.declared.formats.Format.{Format}
use Rattle.session_rows.specs.declared.formats.Format.TheVariants.{Xml}

-- ---- the object that a key names

-- in a dataspace that may be touched
abbrev pub in_space : Option Transaction → Decision StoreUri → Decision StoreUri
in_space stage (Granted u) = if may_use stage u.space then Granted u else Refused RequestDenied
in_space stage (Refused code) = Refused code

abbrev pub named_object : Option Transaction → List ℕ → Decision StoreUri
named_object stage text = in_space stage (object_uri text)

-- ---- types

-- a filter accepts an object by its type, or by its type's domain
abbrev pub takes_type : ObjectName → List ℕ → Bool
takes_type n filter = bytes_eq filter (n.domain ++ (codes "." ++ n.name)) || bytes_eq filter (n.domain ++ codes ".*")

-- objects of this name are kept; without a list of filters all are
abbrev pub keeps_name : List (List ℕ) → Option ObjectName → Bool
keeps_name filters None = false
keeps_name filters (Some n) = list_any (takes_type n) filters

abbrev pub is_kept : Option (List (List ℕ)) → StoreUri → Bool
is_kept None u = true
is_kept (Some filters) u = keeps_name filters u.object

-- ---- formats

-- a format that is one of these
abbrev pub format_among : List Format → Option Format → Option Format
format_among formats None = None
format_among formats (Some f) = if list_any (same_format f) formats then Some f else None

-- the session's format with this text; the empty text means `xml`
abbrev pub session_format : List Format → List ℕ → Option Format
session_format formats [] = format_among formats (Some Xml)
session_format formats (c ∷ cs) = format_among formats (format_of (c ∷ cs))

-- ---- what is put

-- how many bytes the other URIs, the name and the custom data have on the wire
abbrev pub extras_size : Resource → ℕ
extras_size r =
    length (plain ((list_form text_form).as_value r.alternate_uris))
    + length (plain (text_form.as_value r.name))
    + length (plain ((named_form data_value_form).as_value r.custom_data))

-- what is stored of an object: the store sets when it was put
abbrev pub object_record : Format → StoreUri → DataObject → ObjectRecord
object_record f u o = record {
  uri = u;
  others = o.resource.alternate_uris;
  name = o.resource.name;
  changed = o.resource.last_changed;
  active = status_place o.resource.active_status;
  custom = o.resource.custom_data;
  format = format_text f;
  payload = o.payload;
  written = pos 0;
  created = pos 0;
}

-- an object in a format of the session, if there is one
abbrev pub put_in_format : StoreUri → DataObject → Option Format → Decision ObjectRecord
put_in_format u o None = Refused NoSupportedFormats
put_in_format u o (Some f) = if nat_lt 16384 (extras_size o.resource) then Refused SizeExceeded else Granted (object_record f u o)

-- an object at the URI that it names
abbrev pub put_at : List Format → Option (List (List ℕ)) → DataObject → Decision StoreUri → Decision ObjectRecord
put_at formats types o (Refused code) = Refused code
put_at formats types o (Granted u) = if not (is_kept types u) then Refused DataObjectTypeNotSupported else put_in_format u o (session_format formats o.format)

-- an object to be put: its URI, its dataspace, its type, its format and its extras are tested in this order
abbrev pub checked_object : List Format → Option (List (List ℕ)) → Option Transaction → DataObject → Decision ObjectRecord
checked_object formats types stage o = put_at formats types o (named_object stage o.resource.uri)
