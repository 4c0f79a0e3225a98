use Rattle.std.proofs.Common.{ap, ◌∙◌}
use Rattle.channel_store.specs.Told.{with_point}
use Rattle.channel_store.proofs.TrackLemmas.{ready-with}
use Rattle.channel_store.proofs.draft.join.Goals as goal

pub returns-clause-what : goal.returns-clause-what
returns-clause-what c = c.in_ok-push.ensures.ok ∙ ap (λ p. with_point p c.args.what) c.in_ok-copy.ensures

pub returns-clause-ready : goal.returns-clause-ready
returns-clause-ready c =
    let point = c.args.point.now in
    let new = c.in_ok-push.ensures.ok ∙ ap (λ p. with_point p c.args.what) c.in_ok-copy.ensures in
    ready-with c.args.what _ point c.args.points.now c.hold.new.points c.requires.ready c.requires.takes c.requires.follows new c.in_default.ensures.ok
