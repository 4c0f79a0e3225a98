-- The address of a server.
use Rattle.std.specs.Prelude.{ℕ, List, length, Bool, ◌&&◌, not, nat_le, codes, Option, Some, None, is_some, Ok, Err, if◌then◌else◌}
use Rattle.std.specs.Str.{bytes_eq}
use Rattle.url.specs.Parser.{parse_url, Parsed}
use Rattle.url.specs.Parts.{Parts, has_host}

-- a `ws` URL with a host and without user, password, query and fragment
abbrev pub is_address : Parts → Bool
is_address u = bytes_eq u.scheme (codes "ws") && (bytes_eq u.username (codes "") && (bytes_eq u.password (codes "")
    && (not (is_some u.query) && (not (is_some u.fragment) && has_host u))))

abbrev pub checked : Parsed Parts → Option Parts
checked (Ok u) = if is_address u then Some u else None
checked (Err e) = None

-- the address that a text of at most 2,048 bytes is
abbrev pub address_in : List ℕ → Option Parts
address_in t = if nat_le (length t) 2048 then checked (parse_url None t) else None
