use Rattle.std.proofs.Common.{◌≡◌, [], drop, map}
use Rattle.toml.specs.View.{table_view}
use Rattle.chan_defs.specs.Config.{channels_after}
use Rattle.chan_defs.proofs.channels.read_channels.Given as goal

abbrev pub invariant-loop-table : goal.invariant-loop-table
invariant-loop-table l =
    channels_after l.channels (map (λ t. table_view t.now) (drop l.table-index l.tables)) ≡ channels_after [] (map (λ t. table_view t.now) l.tables)
