-- Points of one channel as items.
use Rattle.std.proofs.Common.{refl, ℕ, zero, suc, ◌≡◌, ◌<◌, ◌+◌, List, [], ◌∷◌, map, length, ap, sym, arith, Some, Ok, Err}
use Rattle.std.specs.Prelude.{ℤ, slice_get, Result, IfOk}
use Rattle.std.specs.List.{AllByRecursion}
use Rattle.etp_values.specs.declared.point.Point.{Point}
use Rattle.etp_values.specs.declared.point.ChannelPoint.{ChannelPoint}
use Rattle.etp_values.specs.Weight.{weigh}
use Rattle.channel_points.specs.Bytes.{point_bytes}
use Rattle.channel_points.specs.Handles.{item_bytes, of_channel, points_alone}

pub channel-of_channel : (id : ℤ) (points : List Point) (k : ℕ) → k < length (map (of_channel id) points) → slice_get (map (λ (i : ChannelPoint). i.channel) (map (of_channel id) points)) k ≡ Some id
channel-of_channel id [] k h = absurd (omega arith)
channel-of_channel id (p ∷ ps) zero h = refl
channel-of_channel id (p ∷ ps) (suc k) h = channel-of_channel id ps k (omega arith)

pub index-of_channel : (id : ℤ) (points : List Point) → map (λ (i : ChannelPoint). i.point.index) (map (of_channel id) points) ≡ map (λ (x : Point). x.index) points
index-of_channel id [] = refl
index-of_channel id (p ∷ ps) = ap (λ l. p.index ∷ l) (index-of_channel id ps)

pub points-of_channel : (id : ℤ) (points : List Point) → points_alone (map (of_channel id) points) ≡ points
points-of_channel id [] = refl
points-of_channel id (p ∷ ps) = ap (λ l. p ∷ l) (points-of_channel id ps)

pub weigh-of_channel : (id : ℤ) (points : List Point) → weigh item_bytes (map (of_channel id) points) ≡ weigh point_bytes points
weigh-of_channel id [] = refl
weigh-of_channel id (p ∷ ps) = ap (λ n. point_bytes p + n) (weigh-of_channel id ps)

-- items of one channel are its points with the channel again
pub stripped-is : (id : ℤ) (items : List ChannelPoint) → AllByRecursion (λ i. i.channel ≡ id) items → map (of_channel id) (points_alone items) ≡ items
stripped-is id [] all = refl
stripped-is id (i ∷ is) all = (λ j. record { channel = sym all.0 j; point = i.point } ∷ stripped-is id is all.1 j)

pub if_ok : {A E : Type 0} (r : Result A E) {P Q : A → Type 0} → ((x : A) → P x → Q x) → IfOk r P → IfOk r Q
if_ok (Ok x) f h = f x h
if_ok (Err e) f h = h
