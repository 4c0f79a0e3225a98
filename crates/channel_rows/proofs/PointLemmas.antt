-- Loading continues by one item.
use Rattle.std.specs.Prelude.{Bool, ℤ, List, [], ◌∷◌, ◌++◌, ◌≡◌, Option, Some, refl}
use Rattle.std.proofs.Common.{ap, sym, ◌∙◌, append_assoc}
use Rattle.etp_values.specs.declared.point.ChannelPoint.{ChannelPoint}
use Rattle.keyed_requests.specs.declared.keys.Decision.{Decision}
use Rattle.keyed_requests.specs.declared.keys.Decision.TheVariants.{Granted, Refused}
use Rattle.msg_channel.specs.declared.points.DataItem.{DataItem}
use Rattle.channel_rows.specs.Points.{item_point, loaded, loaded_after, put_behind, put_first}

behind_first : (out : List ChannelPoint) (p : ChannelPoint) (d : Decision (List ChannelPoint)) → put_behind (out ++ p ∷ []) d ≡ put_behind out (put_first p d)
behind_first out p (Refused code) = refl
behind_first out p (Granted qs) = ap Granted (append_assoc out (p ∷ []) qs)

-- an item that has a point
pub loaded_more : (opens : List Bool) (before : Option ℤ) (x : DataItem) (items rest : List DataItem) (out out' : List ChannelPoint) (p : ChannelPoint) (all : Decision (List ChannelPoint))
    → items ≡ x ∷ rest → item_point opens before x ≡ Granted p → out' ≡ out ++ p ∷ [] → put_behind out (loaded opens before items) ≡ all → put_behind out' (loaded opens (Some p.point.index) rest) ≡ all
loaded_more opens before x items rest out out' p all is point pushed so_far =
    ap (λ l. put_behind l (loaded opens (Some p.point.index) rest)) pushed
    ∙ behind_first out p (loaded opens (Some p.point.index) rest)
    ∙ ap (λ d. put_behind out (loaded_after (λ z. loaded opens z rest) d)) (sym point)
    ∙ ap (λ l. put_behind out (loaded opens before l)) (sym is)
    ∙ so_far
