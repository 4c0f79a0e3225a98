use Rattle.std.proofs.Common.{ℕ, List, Option, ap, sym, subst}
use Rattle.client_forms.specs.Ctl.{Course, goes_by}
use Rattle.client_forms.specs.Jobs.{HasRead}
use Rattle.client_forms.specs.Shown.{Seen, seen_on}
use Rattle.client_forms.specs.Work.{IsWhy, NoLess, Stops, Why, input, line, output, outside, place}
use Rattle.watch_views.specs.Boards.{reading}
use Rattle.client_forms.proofs.RefitLemmas.{steps_from}
use Rattle.client_forms.proofs.DoingLemmas.{first_doing, plan_stops, read_quietly}
use Rattle.etp_outside.specs.declared.status.Status.TheVariants as status
use Rattle.client_forms.specs.declared.stop.Stop.TheVariants as stop
use Rattle.client_forms.proofs.WhyLemmas.{gives_up_why, reads_less, why_later}
use Rattle.client_forms.proofs.ReadLemmas.{all_stop, plan_undone}
use Rattle.client_forms.proofs.command.step.Goals as goal

pub returns-in-Ok-clause-steps : goal.returns-in-Ok-clause-steps
returns-in-Ok-clause-steps g c = λ shown job stage there.
    let a = c.io.inside in
    let seen : List Seen = seen_on (reading (λ s. s.channel) (λ s. (goal.View-dyn g (s.view.vtable, s.view.value)).held s.view.value) (λ s. (goal.View-dyn g (s.view.vtable, s.view.value)).step s.view.value) (λ s. (goal.View-dyn g (s.view.vtable, s.view.value)).shown s.view.value)) c.args.board.now.shelves.items in
    let l = line (g.L.Link.talk a.link) (g.L.Link.faults a.link) (g.L.Link.ended a.link) in
    let told = g.C.Clock.told a.clock in
    let o = output (g.W.Sink.held a.out) (g.W.Sink.faults a.out) in
    let i = input (g.R.Source.left a.from) (g.R.Source.faults a.from) in
    let after = g.R.Source.left c.next.new.from in
    let j = input after (g.R.Source.faults c.next.new.from) in
    let on : Course → Course = λ d. goes_by shown job d.at.stage c.args.got.now d in
    steps_from c.act_all.result _ on (place c.args.client.now stage) c.act_all.new.client (outside l told o i) c.args.io.now c.act_all.new.io c.io.view_is
    (c.act_all.ensures.steps _ shown job on (place c.args.client.now stage) (outside l told o i)
    (first_doing _ _ (HasRead job after) on stage c.args.client.now c.in-Ok.action (outside l told o i) (outside l told o j)
    (read_quietly l told o i j c.next.ensures.kept) (c.in-Ok.ensures.plans shown job stage l told o (subst (λ (left : Option (List ℕ)). g.J.Job.stands c.args.command.now seen shown job left stage) (sym (ap (λ x. x.input.left) c.io.view_is)) there))))

pub returns-in-Err-clause-steps : goal.returns-in-Err-clause-steps
returns-in-Err-clause-steps g c = λ shown job stage there.
    let a = c.io.inside in
    let seen : List Seen = seen_on (reading (λ s. s.channel) (λ s. (goal.View-dyn g (s.view.vtable, s.view.value)).held s.view.value) (λ s. (goal.View-dyn g (s.view.vtable, s.view.value)).step s.view.value) (λ s. (goal.View-dyn g (s.view.vtable, s.view.value)).shown s.view.value)) c.args.board.now.shelves.items in
    let l = line (g.L.Link.talk a.link) (g.L.Link.faults a.link) (g.L.Link.ended a.link) in
    let told = g.C.Clock.told a.clock in
    let o = output (g.W.Sink.held a.out) (g.W.Sink.faults a.out) in
    let i = input (g.R.Source.left a.from) (g.R.Source.faults a.from) in
    let j = input (g.R.Source.left c.next.new.from) (g.R.Source.faults c.next.new.from) in
    let on : Course → Course = λ d. goes_by shown job d.at.stage c.args.got.now d in
    subst (λ x. Stops c.in-Err.stop on (place c.args.client.now stage) x (outside l told o j)) c.io.view_is
    (plan_stops c.in-Err.stop on stage c.args.client.now (outside l told o i) (outside l told o j) (read_quietly l told o i j c.next.ensures.kept)
    (c.in-Err.ensures.plans shown job stage l told o (subst (λ (left : Option (List ℕ)). g.J.Job.stands c.args.command.now seen shown job left stage) (sym (ap (λ x. x.input.left) c.io.view_is)) there)))

pub returns-in-Ok-clause-read : goal.returns-in-Ok-clause-read
returns-in-Ok-clause-read g c = λ e shown job stage there.
    let a = c.io.inside in
    let seen : List Seen = seen_on (reading (λ s. s.channel) (λ s. (goal.View-dyn g (s.view.vtable, s.view.value)).held s.view.value) (λ s. (goal.View-dyn g (s.view.vtable, s.view.value)).step s.view.value) (λ s. (goal.View-dyn g (s.view.vtable, s.view.value)).shown s.view.value)) c.args.board.now.shelves.items in
    let l = line (g.L.Link.talk a.link) (g.L.Link.faults a.link) (g.L.Link.ended a.link) in
    let told = g.C.Clock.told a.clock in
    let o = output (g.W.Sink.held a.out) (g.W.Sink.faults a.out) in
    let i = input (g.R.Source.left a.from) (g.R.Source.faults a.from) in
    let after = g.R.Source.left c.next.new.from in
    let j = input after (g.R.Source.faults c.next.new.from) in
    let on : Course → Course = λ d. goes_by shown job d.at.stage c.args.got.now d in
    c.act_all.ensures.read e _ shown job on (place c.args.client.now stage) (outside l told o i)
    (first_doing _ _ (HasRead job after) on stage c.args.client.now c.in-Ok.action (outside l told o i) (outside l told o j)
    (read_quietly l told o i j c.next.ensures.kept) (c.in-Ok.ensures.plans shown job stage l told o (subst (λ (left : Option (List ℕ)). g.J.Job.stands c.args.command.now seen shown job left stage) (sym (ap (λ x. x.input.left) c.io.view_is)) there)))

pub returns-in-Err-clause-read : goal.returns-in-Err-clause-read
returns-in-Err-clause-read g c = λ e shown job stage there.
    let a = c.io.inside in
    let seen : List Seen = seen_on (reading (λ s. s.channel) (λ s. (goal.View-dyn g (s.view.vtable, s.view.value)).held s.view.value) (λ s. (goal.View-dyn g (s.view.vtable, s.view.value)).step s.view.value) (λ s. (goal.View-dyn g (s.view.vtable, s.view.value)).shown s.view.value)) c.args.board.now.shelves.items in
    let l = line (g.L.Link.talk a.link) (g.L.Link.faults a.link) (g.L.Link.ended a.link) in
    let told = g.C.Clock.told a.clock in
    let o = output (g.W.Sink.held a.out) (g.W.Sink.faults a.out) in
    let i = input (g.R.Source.left a.from) (g.R.Source.faults a.from) in
    let j = input (g.R.Source.left c.next.new.from) (g.R.Source.faults c.next.new.from) in
    absurd (plan_undone c.in-Err.stop (λ d. goes_by shown job d.at.stage c.args.got.now d) stage (outside l told o i) (outside l told o j)
    (c.in-Err.ensures.plans shown job stage l told o (subst (λ (left : Option (List ℕ)). g.J.Job.stands c.args.command.now seen shown job left stage) (sym (ap (λ x. x.input.left) c.io.view_is)) there)) (all_stop c.in-Err.stop (stop.Over status.Done) e))

pub returns-in-Ok-clause-why : goal.returns-in-Ok-clause-why
returns-in-Ok-clause-why g c =
    let a = c.io.inside in
    let l = line (g.L.Link.talk a.link) (g.L.Link.faults a.link) (g.L.Link.ended a.link) in
    let told = g.C.Clock.told a.clock in
    let o = output (g.W.Sink.held a.out) (g.W.Sink.faults a.out) in
    let i = input (g.R.Source.left a.from) (g.R.Source.faults a.from) in
    let j = input (g.R.Source.left c.next.new.from) (g.R.Source.faults c.next.new.from) in
    subst (λ x. Why c.act_all.result x c.act_all.new.io) c.io.view_is
    (why_later c.act_all.result (outside l told o i) (outside l told o j) c.act_all.new.io (reads_less l told o i j c.next.ensures.kept) c.act_all.ensures.why)

pub returns-in-Err-clause-why : goal.returns-in-Err-clause-why
returns-in-Err-clause-why g c =
    let a = c.io.inside in
    let l = line (g.L.Link.talk a.link) (g.L.Link.faults a.link) (g.L.Link.ended a.link) in
    let told = g.C.Clock.told a.clock in
    let o = output (g.W.Sink.held a.out) (g.W.Sink.faults a.out) in
    let i = input (g.R.Source.left a.from) (g.R.Source.faults a.from) in
    let j = input (g.R.Source.left c.next.new.from) (g.R.Source.faults c.next.new.from) in
    subst (λ x. NoLess x (outside l told o j) × IsWhy c.in-Err.stop x (outside l told o j)) c.io.view_is
    (gives_up_why c.in-Err.stop l told o i j c.next.ensures.kept c.in-Err.ensures.why)
