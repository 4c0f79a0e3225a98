use Rattle.std.proofs.Common.{◌≡◌, ℕ, ℤ, List, Option, rules, ap, subst, sym, FitsSigned, w64, to_z, of_z, to_z-of_z}
use Rattle.client_core.specs.Asking.{begun}
use Rattle.client_forms.specs.Ctl.{Opening}
use Rattle.client_forms.specs.Runs.{Ended}
use Rattle.client_forms.specs.Shown.{Seen, seen_on}
use Rattle.client_forms.specs.Work.{IsWhy, NoLess, input, line, output, outside}
use Rattle.client_forms.specs.declared.stop.Cause.TheVariants as cause
use Rattle.client_forms.specs.declared.stop.Stop.TheVariants as stop
use Rattle.watch_views.specs.Boards.{reading}
use Rattle.client_forms.proofs.RunningLemmas.{not_begun}
use Rattle.client_forms.proofs.WhyLemmas.{stop_later, ticks_less}
use Rattle.client_forms.proofs.run.converse.Goals as goal

pub returns-in-Ok-clause-ended : goal.returns-in-Ok-clause-ended
returns-in-Ok-clause-ended g c = λ shown job there.
    let seen : List Seen = seen_on (reading (λ s. s.channel) (λ s. (goal.View-dyn g (s.view.vtable, s.view.value)).held s.view.value) (λ s. (goal.View-dyn g (s.view.vtable, s.view.value)).step s.view.value) (λ s. (goal.View-dyn g (s.view.vtable, s.view.value)).shown s.view.value)) c.args.board.now.shelves.items in
    let f : FitsSigned w64 c.now-moment.result = search rules in
    let same : to_z w64 (of_z w64 c.now-moment.result) ≡ c.now-moment.result = to_z-of_z f in
    let a = c.io.inside in
    let l = line (g.L.Link.talk a.link) (g.L.Link.faults a.link) (g.L.Link.ended a.link) in
    let told = g.C.Clock.told a.clock in
    let o = output (g.W.Sink.held a.out) (g.W.Sink.faults a.out) in
    let i = input (g.R.Source.left a.from) (g.R.Source.faults a.from) in
    subst (λ x. Ended c.start.result shown job x c.start.new.io) c.io.view_is
    (c.start.ensures.ended shown job c.now-moment.result told (subst (λ (t : ℤ). c.in-Ok.client ≡ begun t) same c.in-Ok.ensures) c.now-moment.ensures.told (subst (λ (left : Option (List ℕ)). g.J.Job.stands c.args.command.now seen shown job left Opening) (sym (ap (λ x. x.input.left) c.io.view_is)) there))

pub returns-in-Ok-clause-read : goal.returns-in-Ok-clause-read
returns-in-Ok-clause-read g c = λ e shown job there.
    let seen : List Seen = seen_on (reading (λ s. s.channel) (λ s. (goal.View-dyn g (s.view.vtable, s.view.value)).held s.view.value) (λ s. (goal.View-dyn g (s.view.vtable, s.view.value)).step s.view.value) (λ s. (goal.View-dyn g (s.view.vtable, s.view.value)).shown s.view.value)) c.args.board.now.shelves.items in
    let f : FitsSigned w64 c.now-moment.result = search rules in
    let same : to_z w64 (of_z w64 c.now-moment.result) ≡ c.now-moment.result = to_z-of_z f in
    let a = c.io.inside in
    let l = line (g.L.Link.talk a.link) (g.L.Link.faults a.link) (g.L.Link.ended a.link) in
    let told = g.C.Clock.told a.clock in
    let o = output (g.W.Sink.held a.out) (g.W.Sink.faults a.out) in
    let i = input (g.R.Source.left a.from) (g.R.Source.faults a.from) in
    c.start.ensures.read e shown job c.now-moment.result told (subst (λ (t : ℤ). c.in-Ok.client ≡ begun t) same c.in-Ok.ensures) c.now-moment.ensures.told (subst (λ (left : Option (List ℕ)). g.J.Job.stands c.args.command.now seen shown job left Opening) (sym (ap (λ x. x.input.left) c.io.view_is)) there)

pub returns-in-Ok-clause-why : goal.returns-in-Ok-clause-why
returns-in-Ok-clause-why g c =
    let a = c.io.inside in
    let l = line (g.L.Link.talk a.link) (g.L.Link.faults a.link) (g.L.Link.ended a.link) in
    let told = g.C.Clock.told a.clock in
    let o = output (g.W.Sink.held a.out) (g.W.Sink.faults a.out) in
    let i = input (g.R.Source.left a.from) (g.R.Source.faults a.from) in
    let later = g.C.Clock.told c.now-moment.new.self in
    let z = c.start.new.io in
    subst (λ x. NoLess x z × IsWhy c.start.result x z) c.io.view_is (stop_later c.start.result (outside l told o i) (outside l later o i) z (ticks_less l told later o i) c.start.ensures.why)

pub returns-in-Err-clause-ended : goal.returns-in-Err-clause-ended
returns-in-Err-clause-ended g c = λ shown job there.
    let a = c.io.inside in
    let l = line (g.L.Link.talk a.link) (g.L.Link.faults a.link) (g.L.Link.ended a.link) in
    let told = g.C.Clock.told a.clock in
    let o = output (g.W.Sink.held a.out) (g.W.Sink.faults a.out) in
    let i = input (g.R.Source.left a.from) (g.R.Source.faults a.from) in
    let later = g.C.Clock.told c.now-moment.new.self in
    subst (λ x. Ended (stop.Cut cause.Memory) shown job x (outside l later o i)) c.io.view_is
    (not_begun shown job c.now-moment.result told later c.now-moment.ensures.told l o i)

pub returns-in-Err-clause-why : goal.returns-in-Err-clause-why
returns-in-Err-clause-why g c =
    let a = c.io.inside in
    let l = line (g.L.Link.talk a.link) (g.L.Link.faults a.link) (g.L.Link.ended a.link) in
    let told = g.C.Clock.told a.clock in
    let o = output (g.W.Sink.held a.out) (g.W.Sink.faults a.out) in
    let i = input (g.R.Source.left a.from) (g.R.Source.faults a.from) in
    let later = g.C.Clock.told c.now-moment.new.self in
    (subst (λ x. NoLess x (outside l later o i)) c.io.view_is (ticks_less l told later o i), tt)
