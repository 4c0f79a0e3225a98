use Rattle.std.proofs.Common.{Ok, ap, subst}
use Rattle.etp_outside.specs.declared.status.Status.TheVariants as status
use Rattle.client_forms.specs.declared.stop.Stop.TheVariants as stop
use Rattle.client_forms.proofs.WhyLemmas.{stop_later}
use Rattle.client_forms.proofs.ReadLemmas.{act_err, all_stop}
use Rattle.client_forms.specs.Plans.{ActsOn}
use Rattle.client_forms.specs.Jobs.{HasRead}
use Rattle.client_forms.proofs.DoingLemmas.{gives_up}
use Rattle.client_forms.proofs.command.act_all.Goals as goal

pub returns-in-Ok-None-clause-steps : goal.returns-in-Ok-None-clause-steps
returns-in-Ok-None-clause-steps g c = λ seen shown job f p x h.
    let left = c.act.new.io.input.left in
    let y = c.act.new.io in
    subst (λ r. ActsOn (Ok r) (g.J.Job.owes c.act.new.command seen shown job left) (g.J.Job.stands c.act.new.command seen shown job left) (HasRead job left) f p c.act.new.client x y) c.in-Ok-None.field-0-is
    (c.in-Ok-None.ensures.acts seen shown job f p x (c.loop.invariant.doing seen shown job f p x h))

pub returns-in-Err-clause-steps : goal.returns-in-Err-clause-steps
returns-in-Err-clause-steps g c = λ seen shown job f p x h. c.in-Err.ensures.acts seen shown job f p x (c.loop.invariant.doing seen shown job f p x h)

pub returns-clause-steps : goal.returns-clause-steps
returns-clause-steps g c = λ seen shown job f p x h.
    let left = c.loop.io.input.left in
    let y = c.loop.io in
    (gives_up (g.J.Job.owes c.loop.command seen shown job left) (g.J.Job.stands c.loop.command seen shown job left) (HasRead job left) f p c.loop.client c.loop.action x y (c.loop.invariant.doing seen shown job f p x h), tt)

pub returns-in-Err-clause-read : goal.returns-in-Err-clause-read
returns-in-Err-clause-read g c = λ e seen shown job f p x h. c.in-Err.ensures.read (ap act_err (all_stop c.in-Err.stop (stop.Over status.Done) e)) seen shown job f p x (c.loop.invariant.doing seen shown job f p x h)

pub returns-in-Err-clause-why : goal.returns-in-Err-clause-why
returns-in-Err-clause-why g c = stop_later c.in-Err.stop c.args.io.now c.loop.io c.act.new.io c.loop.invariant.less c.in-Err.ensures.why
