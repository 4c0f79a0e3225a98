-- The points of a message by their channels.
use Rattle.std.specs.Prelude.{ℤ, List, Option, Some, None, cond}
use Rattle.std.specs.List.{list_any}
use Rattle.std.specs.Ordering.{int_eq}
use Rattle.etp_values.specs.declared.point.ChannelPoint.{ChannelPoint}
use Rattle.etp_values.specs.declared.point.Point.{Point}
use Rattle.client_parts.specs.Changes.{of_channel}

-- the points of a channel, if it is listed
abbrev pub group : List ℤ → List ChannelPoint → ℤ → Option (List Point)
group channels ps q = cond (list_any (λ c. int_eq c q) channels) (Some (of_channel q ps)) None
