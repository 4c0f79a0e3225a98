use Rattle.std.proofs.Common.{ℕ, List, Option, ap, refl, subst, sym, ◌∙◌}
use Rattle.std.proofs.Math.Bool.{or-true}
use Rattle.client_forms.specs.Shown.{Seen, seen_on}
use Rattle.client_forms.specs.Work.{IsWhy, NoLess, Why, input, line, output, outside}
use Rattle.client_forms.specs.declared.stop.Cause.TheVariants as cause
use Rattle.client_forms.specs.declared.stop.Stop.TheVariants as stop
use Rattle.watch_views.specs.Boards.{reading}
use Rattle.client_forms.proofs.RunningLemmas.{cut_off, going_at, heard, left_alone, went_idle}
use Rattle.client_forms.proofs.WhyLemmas.{hears_less, why_later}
use Rattle.client_forms.proofs.run.turn.Goals as goal

pub returns-in-Got-clause-turns : goal.returns-in-Got-clause-turns
returns-in-Got-clause-turns g c = λ shown job x h.
    let seen : List Seen = seen_on (reading (λ s. s.channel) (λ s. (goal.View-dyn g (s.view.vtable, s.view.value)).held s.view.value) (λ s. (goal.View-dyn g (s.view.vtable, s.view.value)).step s.view.value) (λ s. (goal.View-dyn g (s.view.vtable, s.view.value)).shown s.view.value)) c.args.board.now.shelves.items in
    let a = c.io.inside in
    let l = line (g.L.Link.talk a.link) (g.L.Link.faults a.link) (g.L.Link.ended a.link) in
    let told = g.C.Clock.told a.clock in
    let o = output (g.W.Sink.held a.out) (g.W.Sink.faults a.out) in
    let i = input (g.R.Source.left a.from) (g.R.Source.faults a.from) in
    let m = line (g.L.Link.talk c.recv.new.self) (g.L.Link.faults c.recv.new.self) (g.L.Link.ended c.recv.new.self) in
    let k = going_at (g.J.Job.stands c.args.command.now seen shown job) shown job c.args.client.now x c.args.io.now (outside l told o i) c.io.view_is h in
    heard _ shown job c.args.client.now x (outside l told o i) k c.in-Got.message m (record { talk = c.in-Got.ensures.talk; kept = c.in-Got.ensures.kept }) c.on_message.result _ c.on_message.new.client c.on_message.new.io (c.on_message.ensures.steps shown job k.stage k.there)

pub returns-in-Idle-clause-turns : goal.returns-in-Idle-clause-turns
returns-in-Idle-clause-turns g c = λ shown job x h.
    let seen : List Seen = seen_on (reading (λ s. s.channel) (λ s. (goal.View-dyn g (s.view.vtable, s.view.value)).held s.view.value) (λ s. (goal.View-dyn g (s.view.vtable, s.view.value)).step s.view.value) (λ s. (goal.View-dyn g (s.view.vtable, s.view.value)).shown s.view.value)) c.args.board.now.shelves.items in
    let a = c.io.inside in
    let l = line (g.L.Link.talk a.link) (g.L.Link.faults a.link) (g.L.Link.ended a.link) in
    let told = g.C.Clock.told a.clock in
    let o = output (g.W.Sink.held a.out) (g.W.Sink.faults a.out) in
    let i = input (g.R.Source.left a.from) (g.R.Source.faults a.from) in
    let m = line (g.L.Link.talk c.recv.new.self) (g.L.Link.faults c.recv.new.self) (g.L.Link.ended c.recv.new.self) in
    let k = going_at (g.J.Job.stands c.args.command.now seen shown job) shown job c.args.client.now x c.args.io.now (outside l told o i) c.io.view_is h in
    went_idle _ shown job c.args.client.now x (outside l told o i) k m (record { talk = c.in-Idle.ensures.talk; kept = c.in-Idle.ensures.kept })

pub returns-in-End-clause-turns : goal.returns-in-End-clause-turns
returns-in-End-clause-turns g c = λ shown job x h.
    let seen : List Seen = seen_on (reading (λ s. s.channel) (λ s. (goal.View-dyn g (s.view.vtable, s.view.value)).held s.view.value) (λ s. (goal.View-dyn g (s.view.vtable, s.view.value)).step s.view.value) (λ s. (goal.View-dyn g (s.view.vtable, s.view.value)).shown s.view.value)) c.args.board.now.shelves.items in
    let a = c.io.inside in
    let l = line (g.L.Link.talk a.link) (g.L.Link.faults a.link) (g.L.Link.ended a.link) in
    let told = g.C.Clock.told a.clock in
    let o = output (g.W.Sink.held a.out) (g.W.Sink.faults a.out) in
    let i = input (g.R.Source.left a.from) (g.R.Source.faults a.from) in
    let m = line (g.L.Link.talk c.recv.new.self) (g.L.Link.faults c.recv.new.self) (g.L.Link.ended c.recv.new.self) in
    let k = going_at (g.J.Job.stands c.args.command.now seen shown job) shown job c.args.client.now x c.args.io.now (outside l told o i) c.io.view_is h in
    left_alone _ shown job c.args.client.now x (outside l told o i) k m c.in-End.ensures.talk c.in-End.ensures.kept (c.in-End.ensures.ended ∙ or-true (g.L.Link.ended a.link))

pub returns-in-Failed-clause-turns : goal.returns-in-Failed-clause-turns
returns-in-Failed-clause-turns g c = λ shown job x h.
    let seen : List Seen = seen_on (reading (λ s. s.channel) (λ s. (goal.View-dyn g (s.view.vtable, s.view.value)).held s.view.value) (λ s. (goal.View-dyn g (s.view.vtable, s.view.value)).step s.view.value) (λ s. (goal.View-dyn g (s.view.vtable, s.view.value)).shown s.view.value)) c.args.board.now.shelves.items in
    let a = c.io.inside in
    let l = line (g.L.Link.talk a.link) (g.L.Link.faults a.link) (g.L.Link.ended a.link) in
    let told = g.C.Clock.told a.clock in
    let o = output (g.W.Sink.held a.out) (g.W.Sink.faults a.out) in
    let i = input (g.R.Source.left a.from) (g.R.Source.faults a.from) in
    let m = line (g.L.Link.talk c.recv.new.self) (g.L.Link.faults c.recv.new.self) (g.L.Link.ended c.recv.new.self) in
    let k = going_at (g.J.Job.stands c.args.command.now seen shown job) shown job c.args.client.now x c.args.io.now (outside l told o i) c.io.view_is h in
    cut_off _ shown job c.args.client.now x (outside l told o i) k cause.Link m c.in-Failed.ensures.talk c.in-Failed.ensures.kept (c.in-Failed.ensures.cause refl)

pub returns-in-NoMemory-clause-turns : goal.returns-in-NoMemory-clause-turns
returns-in-NoMemory-clause-turns g c = λ shown job x h.
    let seen : List Seen = seen_on (reading (λ s. s.channel) (λ s. (goal.View-dyn g (s.view.vtable, s.view.value)).held s.view.value) (λ s. (goal.View-dyn g (s.view.vtable, s.view.value)).step s.view.value) (λ s. (goal.View-dyn g (s.view.vtable, s.view.value)).shown s.view.value)) c.args.board.now.shelves.items in
    let a = c.io.inside in
    let l = line (g.L.Link.talk a.link) (g.L.Link.faults a.link) (g.L.Link.ended a.link) in
    let told = g.C.Clock.told a.clock in
    let o = output (g.W.Sink.held a.out) (g.W.Sink.faults a.out) in
    let i = input (g.R.Source.left a.from) (g.R.Source.faults a.from) in
    let m = line (g.L.Link.talk c.recv.new.self) (g.L.Link.faults c.recv.new.self) (g.L.Link.ended c.recv.new.self) in
    let k = going_at (g.J.Job.stands c.args.command.now seen shown job) shown job c.args.client.now x c.args.io.now (outside l told o i) c.io.view_is h in
    cut_off _ shown job c.args.client.now x (outside l told o i) k cause.Memory m c.in-NoMemory.ensures.talk c.in-NoMemory.ensures.kept tt

pub returns-in-Got-clause-read : goal.returns-in-Got-clause-read
returns-in-Got-clause-read g c = λ e shown job stage there.
    let seen : List Seen = seen_on (reading (λ s. s.channel) (λ s. (goal.View-dyn g (s.view.vtable, s.view.value)).held s.view.value) (λ s. (goal.View-dyn g (s.view.vtable, s.view.value)).step s.view.value) (λ s. (goal.View-dyn g (s.view.vtable, s.view.value)).shown s.view.value)) c.args.board.now.shelves.items in
    c.on_message.ensures.read e shown job stage (subst (λ (left : Option (List ℕ)). g.J.Job.stands c.args.command.now seen shown job left stage) (sym (ap (λ x. x.input.left) c.io.view_is)) there)

pub returns-in-Got-clause-why : goal.returns-in-Got-clause-why
returns-in-Got-clause-why g c =
    let a = c.io.inside in
    let l = line (g.L.Link.talk a.link) (g.L.Link.faults a.link) (g.L.Link.ended a.link) in
    let told = g.C.Clock.told a.clock in
    let o = output (g.W.Sink.held a.out) (g.W.Sink.faults a.out) in
    let i = input (g.R.Source.left a.from) (g.R.Source.faults a.from) in
    let m = line (g.L.Link.talk c.recv.new.self) (g.L.Link.faults c.recv.new.self) (g.L.Link.ended c.recv.new.self) in
    subst (λ x. Why c.on_message.result x c.on_message.new.io) c.io.view_is
    (why_later c.on_message.result (outside l told o i) (outside m told o i) c.on_message.new.io (hears_less l m told o i c.in-Got.ensures.kept) c.on_message.ensures.why)

pub returns-in-Idle-clause-why : goal.returns-in-Idle-clause-why
returns-in-Idle-clause-why g c =
    let a = c.io.inside in
    let l = line (g.L.Link.talk a.link) (g.L.Link.faults a.link) (g.L.Link.ended a.link) in
    let told = g.C.Clock.told a.clock in
    let o = output (g.W.Sink.held a.out) (g.W.Sink.faults a.out) in
    let i = input (g.R.Source.left a.from) (g.R.Source.faults a.from) in
    let m = line (g.L.Link.talk c.recv.new.self) (g.L.Link.faults c.recv.new.self) (g.L.Link.ended c.recv.new.self) in
    subst (λ x. NoLess x (outside m told o i)) c.io.view_is (hears_less l m told o i c.in-Idle.ensures.kept)

pub returns-in-End-clause-why : goal.returns-in-End-clause-why
returns-in-End-clause-why g c =
    let a = c.io.inside in
    let l = line (g.L.Link.talk a.link) (g.L.Link.faults a.link) (g.L.Link.ended a.link) in
    let told = g.C.Clock.told a.clock in
    let o = output (g.W.Sink.held a.out) (g.W.Sink.faults a.out) in
    let i = input (g.R.Source.left a.from) (g.R.Source.faults a.from) in
    let m = line (g.L.Link.talk c.recv.new.self) (g.L.Link.faults c.recv.new.self) (g.L.Link.ended c.recv.new.self) in
    (subst (λ x. NoLess x (outside m told o i)) c.io.view_is (hears_less l m told o i c.in-End.ensures.kept), tt)

pub returns-in-Failed-clause-why : goal.returns-in-Failed-clause-why
returns-in-Failed-clause-why g c =
    let a = c.io.inside in
    let l = line (g.L.Link.talk a.link) (g.L.Link.faults a.link) (g.L.Link.ended a.link) in
    let told = g.C.Clock.told a.clock in
    let o = output (g.W.Sink.held a.out) (g.W.Sink.faults a.out) in
    let i = input (g.R.Source.left a.from) (g.R.Source.faults a.from) in
    let m = line (g.L.Link.talk c.recv.new.self) (g.L.Link.faults c.recv.new.self) (g.L.Link.ended c.recv.new.self) in
    let z = outside m told o i in
    subst (λ x. NoLess x z × IsWhy (stop.Cut cause.Link) x z) c.io.view_is (hears_less l m told o i c.in-Failed.ensures.kept, c.in-Failed.ensures.cause refl)

pub returns-in-NoMemory-clause-why : goal.returns-in-NoMemory-clause-why
returns-in-NoMemory-clause-why g c =
    let a = c.io.inside in
    let l = line (g.L.Link.talk a.link) (g.L.Link.faults a.link) (g.L.Link.ended a.link) in
    let told = g.C.Clock.told a.clock in
    let o = output (g.W.Sink.held a.out) (g.W.Sink.faults a.out) in
    let i = input (g.R.Source.left a.from) (g.R.Source.faults a.from) in
    let m = line (g.L.Link.talk c.recv.new.self) (g.L.Link.faults c.recv.new.self) (g.L.Link.ended c.recv.new.self) in
    (subst (λ x. NoLess x (outside m told o i)) c.io.view_is (hears_less l m told o i c.in-NoMemory.ensures.kept), tt)
