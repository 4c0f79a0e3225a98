use Rattle.std.proofs.Common.{sym, subst}
use Rattle.std.specs.Prelude.{IfOk}
use Rattle.channel_store.specs.Rows.{Follows, IsNext}
use Rattle.channel_store.specs.Tracks.{channel_of}
use Rattle.channel_store.proofs.track.Track.ready.Goals as goal

pub returns-in-Some : goal.returns-in-Some
returns-in-Some c =
    let t = c.self.inside in
    subst (λ r. IfOk c.apply.result (λ h. IsNext r h)) c.self.view_is (subst (λ o. IfOk c.apply.result (λ h. Follows (channel_of t) o h)) (sym c.in-Some.is) c.apply.ensures)

pub returns-in-None : goal.returns-in-None
returns-in-None c =
    let t = c.self.inside in
    subst (λ r. IsNext r c.new.result) c.self.view_is (subst (λ o. Follows (channel_of t) o c.new.result) (sym c.in-None.is) tt)
