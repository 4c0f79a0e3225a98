-- The formats of data objects.
use Rattle.std.specs.Prelude.{ℕ, Bool, List, [], ◌∷◌, Option, Some, None, codes, if◌then◌else◌}
use Rattle.std.specs.List.{filter_map}
use Rattle.std.specs.Str.{bytes_eq}
use Rattle.session_rows.specs.Once.{once}
use Rattle.session_rows.specs.declared.formats.Format.{Format}
use Rattle.session_rows.specs.declared.formats.Format.TheVariants.{Xml, Json}

-- a format's text on the wire
abbrev pub format_text : Format → List ℕ
format_text Xml = codes "xml"
format_text Json = codes "json"

-- the test of two formats
abbrev pub same_format : Format → Format → Bool
same_format a b = bytes_eq (format_text a) (format_text b)

-- the format of a text
abbrev pub format_of : List ℕ → Option Format
format_of text = if bytes_eq text (codes "xml") then Some Xml else (if bytes_eq text (codes "json") then Some Json else None)

-- the formats of a session, in the order in which they are requested; no text at all means `xml`
abbrev pub formats_of : List (List ℕ) → List Format
formats_of [] = Xml ∷ []
formats_of (t ∷ ts) = once same_format (filter_map format_of (t ∷ ts))
