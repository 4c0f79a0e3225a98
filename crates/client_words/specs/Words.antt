-- The words of the client's command line.
use Rattle.std.specs.Prelude.{ℕ, ℤ, pos, negsuc, ◌-◌, ◌^◌, List, [], ◌∷◌, codes, if◌then◌else◌, Option, None, Some}
use Rattle.std.specs.Str.{bytes_eq}
use Rattle.command_words.specs.Words.{plain_words}
use Rattle.etp_values.specs.Uri.{only_object, uri_of}
use Rattle.etp_values.specs.declared.uri.StoreUri.{StoreUri}
use Rattle.point_lines.specs.Numerals.{positive_in}
use Rattle.point_lines.specs.Points.{long_in}
use Rattle.url.specs.Parts.{Parts}
use Rattle.client_words.specs.Address.{address_in}

-- what the client is asked to do: to ping the server or to list its dataspaces; or, with an object, to put it with the bytes of a file, to get
-- or to delete it, to load the input's points into it, to write its points in an interval, to watch this many of its changes, or to write its
-- changes from an index on
pub data Command : Type 0 where
  Put : (uri : StoreUri) → (file : List ℕ) → Command
  Get : (uri : StoreUri) → Command
  Load : (uri : StoreUri) → Command
  Watch : (uri : StoreUri) → (count : ℕ) → Command
  Ping : Command
  Spaces : Command
  Range : (uri : StoreUri) → (from to : ℤ) → Command
  Delete : (uri : StoreUri) → Command
  Follow : (uri : StoreUri) → (start : ℤ) → Command

-- and at which server
pub record Form : Type 0 where
  pub address : Parts
  pub command : Command

-- a URI that names an object
abbrev pub object_in : List ℕ → Option StoreUri
object_in text = only_object (uri_of text)

-- the index that a word is: a number of 64 bits, or the lowest or the greatest index of a channel
abbrev pub index_in : List ℕ → Option ℤ
index_in word =
    if bytes_eq word (codes "first") then Some (negsuc (2 ^ 62 - 1))
    else if bytes_eq word (codes "last") then Some (pos (2 ^ 62))
    else long_in word

-- the command of a name alone
abbrev pub plain_command : List ℕ → Option Command
plain_command name = if bytes_eq name (codes "ping") then Some Ping else if bytes_eq name (codes "spaces") then Some Spaces else None

-- the command of a name, for an object
abbrev pub on_object : List ℕ → StoreUri → Option Command
on_object name u =
    if bytes_eq name (codes "get") then Some (Get u)
    else if bytes_eq name (codes "load") then Some (Load u)
    else if bytes_eq name (codes "delete") then Some (Delete u)
    else None

-- the command to watch, if there is a number
abbrev pub watching : StoreUri → Option ℕ → Option Command
watching u None = None
watching u (Some n) = Some (Watch u n)

-- the command to follow, if there is an index
abbrev pub following : StoreUri → Option ℤ → Option Command
following u None = None
following u (Some start) = Some (Follow u start)

-- the command of a name with one more word: a file, a number of changes from 1 to 1,000,000, or an index
abbrev pub with_word : List ℕ → List ℕ → StoreUri → Option Command
with_word name word u =
    if bytes_eq name (codes "put") then Some (Put u word)
    else if bytes_eq name (codes "watch") then watching u (positive_in 1000000 word)
    else if bytes_eq name (codes "follow") then following u (index_in word)
    else None

-- the command to write an interval, if there are two indexes
abbrev pub ranging : StoreUri → Option ℤ → Option ℤ → Option Command
ranging u None to = None
ranging u (Some from) None = None
ranging u (Some from) (Some to) = Some (Range u from to)

-- the command of a name with two more words, which are indexes
abbrev pub with_interval : List ℕ → List ℕ → List ℕ → StoreUri → Option Command
with_interval name from to u = if bytes_eq name (codes "range") then ranging u (index_in from) (index_in to) else None

abbrev pub short_command : List ℕ → Option StoreUri → Option Command
short_command name None = None
short_command name (Some u) = on_object name u

abbrev pub long_command : List ℕ → List ℕ → Option StoreUri → Option Command
long_command name word None = None
long_command name word (Some u) = with_word name word u

abbrev pub interval_command : List ℕ → List ℕ → List ℕ → Option StoreUri → Option Command
interval_command name from to None = None
interval_command name from to (Some u) = with_interval name from to u

abbrev pub formed : Option Parts → Option Command → Option Form
formed None command = None
formed (Some address) None = None
formed (Some address) (Some command) = Some (record { address = address; command = command })

-- the form of words without options
abbrev pub form_of : List (List ℕ) → Option Form
form_of (name ∷ url ∷ []) = formed (address_in url) (plain_command name)
form_of (name ∷ url ∷ uri ∷ []) = formed (address_in url) (short_command name (object_in uri))
form_of (name ∷ url ∷ uri ∷ word ∷ []) = formed (address_in url) (long_command name word (object_in uri))
form_of (name ∷ url ∷ uri ∷ from ∷ to ∷ []) = formed (address_in url) (interval_command name from to (object_in uri))
form_of words = None

abbrev pub form_in_plain : Option (List (List ℕ)) → Option Form
form_in_plain None = None
form_in_plain (Some words) = form_of words

-- the form of words, if they are well formed
abbrev pub form_in : List (List ℕ) → Option Form
form_in words = form_in_plain (plain_words words)
