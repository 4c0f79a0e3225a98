-- The objects that requests name.
use Rattle.std.specs.Prelude.{ℕ, List, Option, Some, None, Result, Ok, Err}
use Rattle.etp_values.specs.Uri.{uri_of}
use Rattle.etp_values.specs.declared.code.ErrorCode.TheVariants.{InvalidUri}
use Rattle.etp_values.specs.declared.uri.ObjectName.{ObjectName}
use Rattle.etp_values.specs.declared.uri.StoreUri.{StoreUri}
use Rattle.etp_values.specs.declared.uri.UriError.{UriError}
use Rattle.keyed_requests.specs.declared.keys.Decision.{Decision}
use Rattle.keyed_requests.specs.declared.keys.Decision.TheVariants.{Granted, Refused}

-- a URI that names an object
abbrev pub object_in : StoreUri → Option ObjectName → Decision StoreUri
object_in uri None = Refused InvalidUri
object_in uri (Some name) = Granted uri

-- what was read of a text
abbrev pub object_in_read : Result StoreUri UriError → Decision StoreUri
object_in_read (Ok uri) = object_in uri uri.object
object_in_read (Err e) = Refused InvalidUri

-- the URI of an object in a text
abbrev pub object_uri : List ℕ → Decision StoreUri
object_uri text = object_in_read (uri_of text)
