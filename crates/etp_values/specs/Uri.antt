-- The URIs of dataspaces and objects: which texts they have, what a text reads as, and where a text is refused.
use Rattle.std.specs.Prelude.{ℕ, List, [], ◌∷◌, ◌++◌, length, take, drop, codes, ◌≡◌, ◌-◌, ◌≤◌, ◌==◌, nat_eq, nat_lt, nat_le, Bool, true, false, ◌&&◌, ◌||◌, IsTrue, Option, Some, None, is_some, option_map, option_and_then, IfSome, Result, Ok, Err, if◌then◌else◌}
use Rattle.std.specs.List.{list_all, flat_map, common_prefix_len}
use Rattle.std.specs.Str.{bytes_eq}
use Rattle.etp_values.specs.IdText.{IsId, id_of, id_text}
use Rattle.etp_values.specs.declared.uri.ObjectName.{ObjectName}
use Rattle.etp_values.specs.declared.uri.StoreUri.{StoreUri}
use Rattle.etp_values.specs.declared.uri.UriError.{UriError}
use Rattle.etp_values.specs.declared.uri.UriError.TheVariants.{TooLong, Prefix, Space, TypeName, Uuid, Rest}

-- ---- the texts of a URI

-- a path as it is written between quotes: each quote of its own is doubled
abbrev pub doubled : List ℕ → List ℕ
doubled path = flat_map (λ c. if c == 39 then codes "''" else c ∷ []) path

-- the part that names a dataspace, which the default one does not have
abbrev pub space_part : List ℕ → List ℕ
space_part [] = []
space_part (c ∷ cs) = codes "dataspace('" ++ doubled (c ∷ cs) ++ codes "')"

-- the part that names an object, with these digits for its identifier
abbrev pub object_part : ObjectName → List ℕ → List ℕ
object_part name digits = name.domain ++ codes "." ++ name.name ++ codes "(" ++ digits ++ codes ")"

-- an object's part has a slash before it if a dataspace's part comes first
abbrev pub behind : List ℕ → List ℕ → List ℕ
behind [] part = part
behind (c ∷ cs) part = codes "/" ++ part

-- the text of a dataspace
abbrev pub space_text : List ℕ → List ℕ
space_text space = codes "eml:///" ++ space_part space

-- the text of an object in a dataspace, with these digits for its identifier
abbrev pub object_text : List ℕ → ObjectName → List ℕ → List ℕ
object_text space name digits = space_text space ++ behind space (object_part name digits)

-- the canonical text: the identifier's digits are in lower case
abbrev pub text_in : List ℕ → Option ObjectName → List ℕ
text_in space None = space_text space
text_in space (Some name) = object_text space name (id_text name.id)

-- the canonical text of a URI
abbrev pub plain_uri : StoreUri → List ℕ
plain_uri u = text_in u.space u.object

-- a text is a URI's: its canonical one, or one with the identifier's digits in another case
abbrev pub IsTextIn : List ℕ → Option ObjectName → List ℕ → Type 0
IsTextIn space None text = text ≡ space_text space
IsTextIn space (Some name) text = (digits : List ℕ) × (id_of digits ≡ Some name.id) × (text ≡ object_text space name digits)

-- the text is one of this URI
abbrev pub IsTextOf : StoreUri → List ℕ → Type 0
IsTextOf u text = IsTextIn u.space u.object text

-- ---- which values are URIs

abbrev pub is_lower : ℕ → Bool
is_lower c = nat_le 97 c && nat_le c 122

abbrev pub is_digit : ℕ → Bool
is_digit c = nat_le 48 c && nat_le c 57

abbrev pub is_letter : ℕ → Bool
is_letter c = is_lower c || (nat_le 65 c && nat_le c 90)

-- a letter, a digit or an underscore
abbrev pub is_word : ℕ → Bool
is_word c = is_letter c || is_digit c || (c == 95)

-- one or more lower-case letters, and then two digits
abbrev pub is_domain : List ℕ → Bool
is_domain s = nat_le 3 (length s) && list_all is_lower (take (length s - 2) s) && list_all is_digit (drop (length s - 2) s)

-- a letter, and then letters, digits and underscores
abbrev pub is_type_name : List ℕ → Bool
is_type_name [] = false
is_type_name (c ∷ cs) = is_letter c && list_all is_word cs

-- the names of an object are well formed
pub record IsObjectName (n : ObjectName) : Type 0 where
  pub domain : IsTrue (is_domain n.domain)
  pub name : IsTrue (is_type_name n.name)
  pub id : IsId n.id

-- a value is a URI: its path and its text are within their limits, and its names well formed
pub record IsUri (u : StoreUri) : Type 0 where
  pub path : length u.space ≤ 256
  pub object : IfSome u.object IsObjectName
  pub text : length (plain_uri u) ≤ 2048

-- ---- what a text reads as

-- what follows a prefix
abbrev pub after : List ℕ → List ℕ → Option (List ℕ)
after [] s = Some s
after (p ∷ ps) [] = None
after (p ∷ ps) (c ∷ cs) = if c == p then after ps cs else None

-- a byte put before the first of two parts
abbrev pub put_before : ℕ → List ℕ × List ℕ → List ℕ × List ℕ
put_before c p = (c ∷ p.0, p.1)

-- the list before the first mark, and after it
abbrev pub parted : ℕ → List ℕ → Option (List ℕ × List ℕ)
parted mark [] = None
parted mark (c ∷ cs) = if c == mark then Some ([], cs) else option_map (put_before c) (parted mark cs)

-- the list before the first mark, if it is well formed, and what follows
abbrev pub up_to : ℕ → (List ℕ → Bool) → List ℕ → Option (List ℕ × List ℕ)
up_to mark form s = option_and_then (λ p. if form p.0 then Some p else None) (parted mark s)

-- a quoted text up to its closing quote, and what follows it; `quote` says whether the byte before was a quote
abbrev pub unquoted : Bool → List ℕ → Option (List ℕ × List ℕ)
unquoted false [] = None
unquoted false (c ∷ cs) = if c == 39 then unquoted true cs else option_map (put_before c) (unquoted false cs)
unquoted true [] = Some ([], [])
unquoted true (c ∷ cs) = if c == 39 then option_map (put_before 39) (unquoted false cs) else Some ([], c ∷ cs)

-- a path of 1 to 256 bytes, counted before its quotes are doubled
abbrev pub is_path : List ℕ → Bool
is_path path = nat_le 1 (length path) && nat_le (length path) 256

-- what `'P')` reads as at the front of a text, and what follows it
abbrev pub closed : List ℕ × List ℕ → Option (List ℕ × List ℕ)
closed p = if is_path p.0 then option_map (λ rest. (p.0, rest)) (after (codes ")") p.1) else None

abbrev pub path_of : List ℕ → Option (List ℕ × List ℕ)
path_of s = option_and_then (λ t. option_and_then closed (unquoted false t)) (after (codes "'") s)

-- the offset, in a text of this length, at which the rest of it begins
abbrev pub place : ℕ → List ℕ → ℕ
place whole rest = whole - length rest

-- the identifier before the first `)`, and what follows it
abbrev pub id_at : List ℕ → Option (List ℕ × List ℕ)
id_at s = option_and_then (λ p. option_map (λ id. (id, p.1)) (id_of p.0)) (parted 41 s)

-- the object whose names were read, if its identifier follows and nothing else
abbrev pub whole_object : ℕ → List ℕ → List ℕ → List ℕ × List ℕ → Result ObjectName UriError
whole_object whole domain name (id, []) = Ok (record { domain = domain; name = name; id = id })
whole_object whole domain name (id, c ∷ cs) = Err (Rest (place whole (c ∷ cs)))

abbrev pub with_id : ℕ → List ℕ → List ℕ → List ℕ → Option (List ℕ × List ℕ) → Result ObjectName UriError
with_id whole domain name s None = Err (Uuid (place whole s))
with_id whole domain name s (Some p) = whole_object whole domain name p

-- the domain and the type's name before `(`, and what follows it
abbrev pub type_at : List ℕ → Option (List ℕ × (List ℕ × List ℕ))
type_at s = option_and_then (λ d. option_map (λ t. (d.0, t)) (up_to 40 is_type_name d.1)) (up_to 46 is_domain s)

abbrev pub with_type : ℕ → List ℕ → Option (List ℕ × (List ℕ × List ℕ)) → Result ObjectName UriError
with_type whole s None = Err (TypeName (place whole s))
with_type whole s (Some p) = with_id whole p.0 p.1.0 p.1.1 (id_at p.1.1)

-- the object named by a part that ends a text of this length, or its refusal
abbrev pub object_of : ℕ → List ℕ → Result ObjectName UriError
object_of whole s = with_type whole s (type_at s)

-- an object in a dataspace
abbrev pub in_space : List ℕ → Result ObjectName UriError → Result StoreUri UriError
in_space space (Ok name) = Ok (record { space = space; object = Some name })
in_space space (Err e) = Err e

-- what follows a dataspace's part: nothing, or a slash and an object's part
abbrev pub with_slash : ℕ → List ℕ → List ℕ → Option (List ℕ) → Result StoreUri UriError
with_slash whole space s None = Err (Rest (place whole s))
with_slash whole space s (Some part) = in_space space (object_of whole part)

abbrev pub with_rest : ℕ → List ℕ → List ℕ → Result StoreUri UriError
with_rest whole space [] = Ok (record { space = space; object = None })
with_rest whole space (c ∷ cs) = with_slash whole space (c ∷ cs) (after (codes "/") (c ∷ cs))

abbrev pub with_path : ℕ → Option (List ℕ × List ℕ) → Result StoreUri UriError
with_path whole None = Err (Space 7)
with_path whole (Some p) = with_rest whole p.0 p.1

-- a text without a dataspace's part: the default dataspace, or an object in it
abbrev pub in_default : ℕ → List ℕ → Result StoreUri UriError
in_default whole [] = Ok (record { space = []; object = None })
in_default whole (c ∷ cs) = in_space [] (object_of whole (c ∷ cs))

-- the URI after `eml:///`, by what follows `dataspace(` there, if it begins with that
abbrev pub with_space : ℕ → List ℕ → Option (List ℕ) → Result StoreUri UriError
with_space whole s None = in_default whole s
with_space whole s (Some quoted) = with_path whole (path_of quoted)

-- what follows `eml:///`
abbrev pub with_body : List ℕ → Option (List ℕ) → Result StoreUri UriError
with_body text None = Err (Prefix (common_prefix_len nat_eq (codes "eml:///") text))
with_body text (Some s) = with_space (length text) s (after (codes "dataspace(") s)

-- the URI that a text reads as, or the first refusal with its offset
unfoldable pub uri_of : List ℕ → Result StoreUri UriError
uri_of text = if nat_lt 2048 (length text) then Err TooLong else with_body text (after (codes "eml:///") text)

-- the URI of an object, if one was read
abbrev pub only_object : Result StoreUri UriError → Option StoreUri
only_object (Ok u) = if is_some u.object then Some u else None
only_object (Err e) = None

-- ---- types of objects

-- a type's name, or a star for all of a domain
abbrev pub is_type_or_star : List ℕ → Bool
is_type_or_star s = bytes_eq s (codes "*") || is_type_name s

-- a domain, a dot, and a type's name or a star
abbrev pub is_filter : Option (List ℕ × List ℕ) → Bool
is_filter None = false
is_filter (Some p) = is_domain p.0 && is_type_or_star p.1

-- the same for a text, split at its first dot
abbrev pub is_type_filter : List ℕ → Bool
is_type_filter s = is_filter (parted 46 s)
