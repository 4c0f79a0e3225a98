-- The configuration that bytes denote, or the first refusal.
use Rattle.std.specs.Prelude.{ℕ, ◌+◌, List, [], ◌∷◌, ◌++◌, length, codes, nat_lt, Bool, Option, Some, None, Result, Ok, Err, if◌then◌else◌}
use Rattle.std.specs.List.{list_any}
use Rattle.std.specs.Str.{is_utf8}
use Rattle.toml.specs.Data.{Members}
use Rattle.toml.specs.Parse.{parse_document}
use Rattle.etp_values.specs.Uri.{only_object, uri_of}
use Rattle.etp_values.specs.SameUri.{same_uri}
use Rattle.etp_values.specs.declared.uri.StoreUri.{StoreUri}
use Rattle.chan_defs.specs.Keys.{text_at, instance_of, name_of, number_at, types_of, tables_of, kind_of, unit_of}
use Rattle.server_config.specs.declared.config.Config.{Config}
use Rattle.server_config.specs.declared.config.ChannelDef.{ChannelDef}
use Rattle.chan_defs.specs.declared.error.DefsError.{DefsError}
use Rattle.chan_defs.specs.declared.error.DefsError.TheVariants.{TooLong, Toml, Key, TooMany, Uri, Kind, DoubleUri}

-- what follows, unless there was a refusal
abbrev pub next : {A B : Type 0} → Result A DefsError → (A → Result B DefsError) → Result B DefsError
next (Ok x) f = f x
next (Err e) f = Err e

-- what was found, or a refusal
abbrev pub or_else : {A : Type 0} → DefsError → Option A → Result A DefsError
or_else e (Some x) = Ok x
or_else e None = Err e

-- the table that TOML defines for the bytes
abbrev pub table_of : List ℕ → Option Members
table_of b = if is_utf8 b then parse_document b else None

-- an earlier channel has the URI
abbrev pub is_taken : StoreUri → List ChannelDef → Bool
is_taken uri channels = list_any (λ c. same_uri uri c.uri) channels

-- the channel of a number: its keys in order
abbrev pub channel_of : ℕ → Members → Result ChannelDef DefsError
channel_of n t =
    next (or_else (Key n 7) (text_at (codes "uri") t)) (λ text.
    next (or_else (Uri n) (only_object (uri_of text))) (λ uri.
    next (or_else (Key n 8) (name_of t)) (λ name.
    next (or_else (Key n 9) (text_at (codes "kind") t)) (λ word.
    next (or_else (Kind n) (kind_of word)) (λ kind.
    next (or_else (Key n 10) (unit_of t)) (λ uom.
    Ok (record { uri = uri; name = name; kind = kind; uom = uom })))))))

-- a channel beside the earlier ones, whose URIs differ from its own
abbrev pub put_channel : ℕ → List ChannelDef → ChannelDef → Result (List ChannelDef) DefsError
put_channel n earlier c = if is_taken c.uri earlier then Err (DoubleUri n) else Ok (earlier ++ c ∷ [])

-- the channels in order, after this number of them were read
abbrev pub channels_after : List ChannelDef → List Members → Result (List ChannelDef) DefsError
channels_after earlier [] = Ok earlier
channels_after earlier (t ∷ ts) =
    let n = length earlier + 1 in
    next (next (channel_of n t) (put_channel n earlier)) (λ channels. channels_after channels ts)

-- the channels of these tables, at most 4,096
abbrev pub channels_of : List Members → Result (List ChannelDef) DefsError
channels_of tables = if nat_lt 4096 (length tables) then Err TooMany else channels_after [] tables

-- the keys in order
abbrev pub config_of : Members → Result Config DefsError
config_of t =
    next (or_else (Key 0 1) (instance_of t)) (λ instance.
    next (or_else (Key 0 2) (name_of t)) (λ name.
    next (or_else (Key 0 3) (number_at (codes "lag") 1 65536 t)) (λ lag.
    next (or_else (Key 0 4) (number_at (codes "journal") 2 4194304 t)) (λ journal.
    next (or_else (Key 0 5) (types_of t)) (λ types.
    next (or_else (Key 0 6) (tables_of t)) (λ tables.
    next (channels_of tables) (λ channels.
    Ok (record { instance = instance; name = name; lag = lag; journal = journal; types = types; channels = channels }))))))))

-- the configuration of the bytes, or the first refusal
unfoldable pub defs : List ℕ → Result Config DefsError
defs b = if nat_lt 1048576 (length b) then Err TooLong else next (or_else Toml (table_of b)) config_of
