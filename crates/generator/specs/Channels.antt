-- The configuration under which the load is played.
use Rattle.std.specs.Prelude.{ℕ, ◌+◌, List, [], ◌∷◌, map, codes, Some, None}
use Rattle.std.specs.List.{range_with_len}
use Rattle.etp_values.specs.declared.uri.StoreUri.{StoreUri}
use Rattle.server_config.specs.declared.config.ChannelDef.{ChannelDef}
use Rattle.server_config.specs.declared.config.Config.{Config}
use Rattle.server_config.specs.declared.config.ValueKind.TheVariants as value_kind

-- the identifier of fifteen zeros and this byte
abbrev pub id_ending : ℕ → List ℕ
id_ending n = 0 ∷ 0 ∷ 0 ∷ 0 ∷ 0 ∷ 0 ∷ 0 ∷ 0 ∷ 0 ∷ 0 ∷ 0 ∷ 0 ∷ 0 ∷ 0 ∷ 0 ∷ n ∷ []

-- the object that a channel is
abbrev pub channel_uri : ℕ → StoreUri
channel_uri n = record { space = []; object = Some (record { domain = codes "witsml21"; name = codes "Channel"; id = id_ending n }) }

-- a channel, whose name ends in its digit
abbrev pub channel : ℕ → ChannelDef
channel n = record { uri = channel_uri n; name = 99 ∷ (48 + n) ∷ []; kind = value_kind.Long; uom = [] }

-- eight channels, and otherwise the defaults
abbrev pub generator_config : Config
generator_config = record { instance = id_ending 1; name = codes "gen"; lag = 65536; journal = 4194304; types = None; channels = map channel (range_with_len 0 8) }
