use Rattle.std.proofs.Common.{◌≡◌, ◌++◌, ◌∷◌, [], ℕ, List, Option, ap, subst, sym}
use Rattle.etp_outside.specs.Told.{Told}
use Rattle.client_forms.specs.Ctl.{Opening}
use Rattle.client_forms.specs.Runs.{Ended}
use Rattle.client_forms.specs.Shown.{Seen, seen_on}
use Rattle.client_forms.specs.Work.{IsWhy, NoLess, input, line, output, outside}
use Rattle.client_forms.specs.declared.stop.Stop.TheVariants as stop
use Rattle.watch_views.specs.Boards.{reading}
use Rattle.client_forms.proofs.RunningLemmas.{send_why, start_cut, started}
use Rattle.client_forms.proofs.WhyLemmas.{hears_less, stop_later}
use Rattle.client_forms.proofs.run.start.Goals as goal

pub returns-in-Ok-clause-ended : goal.returns-in-Ok-clause-ended
returns-in-Ok-clause-ended g c = λ shown job moment before is tick there.
    let seen : List Seen = seen_on (reading (λ s. s.channel) (λ s. (goal.View-dyn g (s.view.vtable, s.view.value)).held s.view.value) (λ s. (goal.View-dyn g (s.view.vtable, s.view.value)).step s.view.value) (λ s. (goal.View-dyn g (s.view.vtable, s.view.value)).shown s.view.value)) c.args.board.now.shelves.items in
    let a = c.io.inside in
    let l = line (g.L.Link.talk a.link) (g.L.Link.faults a.link) (g.L.Link.ended a.link) in
    let told = g.C.Clock.told a.clock in
    let o = output (g.W.Sink.held a.out) (g.W.Sink.faults a.out) in
    let i = input (g.R.Source.left a.from) (g.R.Source.faults a.from) in
    let m = line (g.L.Link.talk c.send_all.new.link) (g.L.Link.faults c.send_all.new.link) (g.L.Link.ended c.send_all.new.link) in
    subst (λ x. Ended c.hear_all.result shown job (outside x.line before x.output x.input) c.hear_all.new.io) c.io.view_is
    (c.hear_all.ensures.ended shown job (outside l before o i)
    (started shown job moment before told c.args.client.now is (subst (λ x. Told before x.told (λ xs ys. ys ≡ xs ++ moment ∷ [])) (sym c.io.view_is) tick) o i (g.J.Job.stands c.args.command.now seen shown job i.left) c.send_all.new.client l m c.send_all.ensures.kept c.in-Ok.ensures.sent (subst (λ (left : Option (List ℕ)). g.J.Job.stands c.args.command.now seen shown job left Opening) (sym (ap (λ x. x.input.left) c.io.view_is)) there)))

pub returns-in-Ok-clause-read : goal.returns-in-Ok-clause-read
returns-in-Ok-clause-read g c = λ e shown job moment before is tick there.
    let seen : List Seen = seen_on (reading (λ s. s.channel) (λ s. (goal.View-dyn g (s.view.vtable, s.view.value)).held s.view.value) (λ s. (goal.View-dyn g (s.view.vtable, s.view.value)).step s.view.value) (λ s. (goal.View-dyn g (s.view.vtable, s.view.value)).shown s.view.value)) c.args.board.now.shelves.items in
    let a = c.io.inside in
    let l = line (g.L.Link.talk a.link) (g.L.Link.faults a.link) (g.L.Link.ended a.link) in
    let told = g.C.Clock.told a.clock in
    let o = output (g.W.Sink.held a.out) (g.W.Sink.faults a.out) in
    let i = input (g.R.Source.left a.from) (g.R.Source.faults a.from) in
    let m = line (g.L.Link.talk c.send_all.new.link) (g.L.Link.faults c.send_all.new.link) (g.L.Link.ended c.send_all.new.link) in
    c.hear_all.ensures.read e shown job (outside l before o i)
    (started shown job moment before told c.args.client.now is (subst (λ x. Told before x.told (λ xs ys. ys ≡ xs ++ moment ∷ [])) (sym c.io.view_is) tick) o i (g.J.Job.stands c.args.command.now seen shown job i.left) c.send_all.new.client l m c.send_all.ensures.kept c.in-Ok.ensures.sent (subst (λ (left : Option (List ℕ)). g.J.Job.stands c.args.command.now seen shown job left Opening) (sym (ap (λ x. x.input.left) c.io.view_is)) there))

pub returns-in-Ok-clause-why : goal.returns-in-Ok-clause-why
returns-in-Ok-clause-why g c =
    let a = c.io.inside in
    let l = line (g.L.Link.talk a.link) (g.L.Link.faults a.link) (g.L.Link.ended a.link) in
    let told = g.C.Clock.told a.clock in
    let o = output (g.W.Sink.held a.out) (g.W.Sink.faults a.out) in
    let i = input (g.R.Source.left a.from) (g.R.Source.faults a.from) in
    let m = line (g.L.Link.talk c.send_all.new.link) (g.L.Link.faults c.send_all.new.link) (g.L.Link.ended c.send_all.new.link) in
    subst (λ x. NoLess x c.hear_all.new.io × IsWhy c.hear_all.result x c.hear_all.new.io) c.io.view_is
    (stop_later c.hear_all.result (outside l told o i) (outside m told o i) c.hear_all.new.io (hears_less l m told o i c.send_all.ensures.kept) c.hear_all.ensures.why)

pub returns-in-Err-clause-ended : goal.returns-in-Err-clause-ended
returns-in-Err-clause-ended g c = λ shown job moment before is tick there.
    let a = c.io.inside in
    let l = line (g.L.Link.talk a.link) (g.L.Link.faults a.link) (g.L.Link.ended a.link) in
    let told = g.C.Clock.told a.clock in
    let o = output (g.W.Sink.held a.out) (g.W.Sink.faults a.out) in
    let i = input (g.R.Source.left a.from) (g.R.Source.faults a.from) in
    let m = line (g.L.Link.talk c.send_all.new.link) (g.L.Link.faults c.send_all.new.link) (g.L.Link.ended c.send_all.new.link) in
    subst (λ x. Ended (stop.Cut c.in-Err.cause) shown job (outside x.line before x.output x.input) (outside m told o i)) c.io.view_is
    (start_cut shown job moment before told c.args.client.now is (subst (λ x. Told before x.told (λ xs ys. ys ≡ xs ++ moment ∷ [])) (sym c.io.view_is) tick) o i c.in-Err.cause l m c.send_all.ensures.kept c.in-Err.ensures.sent c.in-Err.ensures.cause)

pub returns-in-Err-clause-why : goal.returns-in-Err-clause-why
returns-in-Err-clause-why g c =
    let a = c.io.inside in
    let l = line (g.L.Link.talk a.link) (g.L.Link.faults a.link) (g.L.Link.ended a.link) in
    let told = g.C.Clock.told a.clock in
    let o = output (g.W.Sink.held a.out) (g.W.Sink.faults a.out) in
    let i = input (g.R.Source.left a.from) (g.R.Source.faults a.from) in
    let m = line (g.L.Link.talk c.send_all.new.link) (g.L.Link.faults c.send_all.new.link) (g.L.Link.ended c.send_all.new.link) in
    let z = outside m told o i in
    subst (λ x. NoLess x z × IsWhy (stop.Cut c.in-Err.cause) x z) c.io.view_is
    (hears_less l m told o i c.send_all.ensures.kept, send_why told told o i c.in-Err.cause l m c.in-Err.ensures.cause)
