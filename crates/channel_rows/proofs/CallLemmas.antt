-- What is called for, and what is sent, if there are points.
use Rattle.std.specs.Prelude.{ℤ, List, [], ◌∷◌, ◌≡◌, ◌≢◌, length, refl}
use Rattle.std.proofs.Common.{arith}
use Rattle.etp_values.specs.declared.point.ChannelPoint.{ChannelPoint}
use Rattle.etp_values.specs.declared.point.Point.{Point}
use Rattle.keyed_requests.specs.declared.keys.Decision.TheVariants.{Granted}
use Rattle.keyed_requests.specs.declared.sending.Outcome.TheVariants.{Replies, Calls}
use Rattle.store_machine.specs.declared.call.StoreCall.TheVariants as call
use Rattle.channel_rows.specs.Loads.{load_called}
use Rattle.channel_rows.specs.Notices.{append_notice}
use Rattle.channel_rows.specs.Subscriptions.{first_notices}
use Rattle.channel_rows.specs.declared.loads.LoadPending.TheVariants as pending

-- ---- a load

pub none_loaded : (points : List ChannelPoint) → length points ≡ 0 → load_called (Granted points) ≡ Replies []
none_loaded [] none = refl
none_loaded (p ∷ ps) none = absurd (omega (arith, none))

pub some_loaded : (points : List ChannelPoint) → length points ≢ 0 → load_called (Granted points) ≡ Calls (call.Append points) pending.Load
some_loaded [] some = absurd (some refl)
some_loaded (p ∷ ps) some = refl

-- ---- what a subscription starts with

pub none_first : (channel : ℤ) (points : List Point) → length points ≡ 0 → first_notices channel points ≡ []
none_first channel [] none = refl
none_first channel (p ∷ ps) none = absurd (omega (arith, none))

pub some_first : (channel : ℤ) (points : List Point) → length points ≢ 0 → first_notices channel points ≡ append_notice channel points ∷ []
some_first channel [] some = absurd (some refl)
some_first channel (p ∷ ps) some = refl
