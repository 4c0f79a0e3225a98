use Rattle.std.proofs.Common.{◌≡◌, ap, sym, subst, ◌∙◌}
use Rattle.client_forms.specs.Ctl.{Opening}
use Rattle.client_forms.specs.Jobs.{HasRead}
use Rattle.client_forms.specs.Plans.{ActsOn, acts}
use Rattle.client_forms.specs.Work.{Goes, NoLess, Why, input, line, output, outside, place}
use Rattle.client_forms.proofs.DoingLemmas.{act_stops, more_acts, read_quietly}
use Rattle.etp_outside.specs.declared.status.Status.TheVariants as status
use Rattle.client_forms.specs.declared.stop.Stop.TheVariants as stop
use Rattle.client_forms.proofs.WhyLemmas.{acts_own, stops_why, wants_why, works_less}
use Rattle.client_forms.proofs.ReadLemmas.{done_reads, more_undone, same_stop}
use Rattle.client_forms.proofs.command.act.Goals as goal

pub returns-in-Err-clause-acts : goal.returns-in-Err-clause-acts
returns-in-Err-clause-acts g c = λ seen shown job f p x h.
    let y = c.args.io.now in
    let left = y.input.left in
    act_stops (g.J.Job.owes c.args.command.now seen shown job left) (g.J.Job.stands c.args.command.now seen shown job left) (HasRead job left) f p c.args.client.now c.args.action x y h
    c.in-Err.stop c.perform.new.io (c.in-Err.ensures.works h.stage)

pub returns-in-Ok-clause-acts : goal.returns-in-Ok-clause-acts
returns-in-Ok-clause-acts g c = λ seen shown job f p x h.
    let a = c.io.inside in
    let y = c.args.io.now in
    let m = line (g.L.Link.talk a.link) (g.L.Link.faults a.link) (g.L.Link.ended a.link) in
    let told = g.C.Clock.told a.clock in
    let o = output (g.W.Sink.held a.out) (g.W.Sink.faults a.out) in
    let i = input (g.R.Source.left a.from) (g.R.Source.faults a.from) in
    let before = y.input.left in
    let after = g.R.Source.left c.more.new.from in
    let j = input after (g.R.Source.faults c.more.new.from) in
    let same : before ≡ i.left = sym (ap (λ n. n.input.left) c.io.view_is ∙ ap (λ n. n.left) c.perform.ensures.input) in
    let owes = g.J.Job.owes c.more.new.self seen shown job after in
    let stands = g.J.Job.stands c.more.new.self seen shown job after in
    subst (λ r. ActsOn r owes stands (HasRead job after) f p c.perform.new.client x (outside m told o j)) (sym c.wanted.ensures)
    (more_acts c.more.result (g.J.Job.owes c.args.command.now seen shown job before) owes (g.J.Job.stands c.args.command.now seen shown job before) stands (HasRead job before) (HasRead job after)
    f p c.args.client.now c.perform.new.client c.args.action x y (outside m told o i) (outside m told o j) h
    (subst (λ n. Goes (acts c.args.action) (place c.args.client.now h.stage) (place c.perform.new.client h.stage) y n) (sym c.io.view_is) (c.in-Ok.ensures.works h.stage))
    (read_quietly m told o i j c.more.ensures.kept) (c.more.ensures.plans seen shown job h.stage h.rest m told o (subst (λ left. g.J.Job.owes c.args.command.now seen shown job left h.stage h.rest) same h.there)))

pub returns-in-Err-clause-read : goal.returns-in-Err-clause-read
returns-in-Err-clause-read g c = λ e seen shown job f p x h.
    let y = c.args.io.now in
    subst (λ n. HasRead job n.left) (sym c.perform.ensures.input)
    (done_reads c.in-Err.stop c.args.action (HasRead job y.input.left) (place c.args.client.now h.stage) y c.perform.new.io (same_stop c.in-Err.stop (stop.Over status.Done) e) h.reads (c.in-Err.ensures.works h.stage))

pub returns-in-Ok-clause-read : goal.returns-in-Ok-clause-read
returns-in-Ok-clause-read g c = λ e seen shown job f p x h.
    let a = c.io.inside in
    let m = line (g.L.Link.talk a.link) (g.L.Link.faults a.link) (g.L.Link.ended a.link) in
    let told = g.C.Clock.told a.clock in
    let o = output (g.W.Sink.held a.out) (g.W.Sink.faults a.out) in
    let i = input (g.R.Source.left a.from) (g.R.Source.faults a.from) in
    let after = g.R.Source.left c.more.new.from in
    let j = input after (g.R.Source.faults c.more.new.from) in
    let same : c.args.io.now.input.left ≡ i.left = sym (ap (λ n. n.input.left) c.io.view_is ∙ ap (λ n. n.left) c.perform.ensures.input) in
    absurd (more_undone c.more.result (g.J.Job.owes c.more.new.self seen shown job after) (g.J.Job.stands c.more.new.self seen shown job after) (HasRead job after) h.rest h.stage (outside m told o i) (outside m told o j)
    (c.more.ensures.plans seen shown job h.stage h.rest m told o (subst (λ left. g.J.Job.owes c.args.command.now seen shown job left h.stage h.rest) same h.there)) (sym c.wanted.ensures ∙ e))

pub returns-in-Err-clause-why : goal.returns-in-Err-clause-why
returns-in-Err-clause-why g c =
    stops_why c.in-Err.stop (acts c.args.action) (place c.args.client.now Opening) c.args.io.now c.perform.new.io (acts_own c.args.action) (c.in-Err.ensures.works Opening)

pub returns-in-Ok-clause-why : goal.returns-in-Ok-clause-why
returns-in-Ok-clause-why g c =
    let a = c.io.inside in
    let y = c.args.io.now in
    let m = line (g.L.Link.talk a.link) (g.L.Link.faults a.link) (g.L.Link.ended a.link) in
    let told = g.C.Clock.told a.clock in
    let o = output (g.W.Sink.held a.out) (g.W.Sink.faults a.out) in
    let i = input (g.R.Source.left a.from) (g.R.Source.faults a.from) in
    let j = input (g.R.Source.left c.more.new.from) (g.R.Source.faults c.more.new.from) in
    subst (λ r. Why r y (outside m told o j)) (sym c.wanted.ensures)
    (wants_why c.more.result y m told o i j
    (subst (λ n. NoLess y n) (sym c.io.view_is) (works_less (acts c.args.action) (place c.args.client.now Opening) (place c.perform.new.client Opening) y c.perform.new.io (c.in-Ok.ensures.works Opening)))
    c.more.ensures.kept c.more.ensures.why)
