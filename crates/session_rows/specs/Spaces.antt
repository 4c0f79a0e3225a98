-- Which dataspace a URI names.
use Rattle.std.specs.Prelude.{ℕ, List, Option, Some, None, Result, Ok, Err}
use Rattle.etp_values.specs.Uri.{uri_of}
use Rattle.etp_values.specs.declared.code.ErrorCode.TheVariants.{InvalidUri}
use Rattle.etp_values.specs.declared.uri.ObjectName.{ObjectName}
use Rattle.etp_values.specs.declared.uri.StoreUri.{StoreUri}
use Rattle.etp_values.specs.declared.uri.UriError.{UriError}
use Rattle.keyed_requests.specs.declared.keys.Decision.{Decision}
use Rattle.keyed_requests.specs.declared.keys.Decision.TheVariants.{Granted, Refused}

-- the path of a dataspace's URI; that of an object is none
abbrev pub path_in_uri : List ℕ → Option ObjectName → Decision (List ℕ)
path_in_uri path None = Granted path
path_in_uri path (Some name) = Refused InvalidUri

abbrev pub path_in_read : Result StoreUri UriError → Decision (List ℕ)
path_in_read (Ok u) = path_in_uri u.space u.object
path_in_read (Err e) = Refused InvalidUri

-- the path of the dataspace that a text names
abbrev pub space_path : List ℕ → Decision (List ℕ)
space_path text = path_in_read (uri_of text)
