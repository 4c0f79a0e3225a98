use Rattle.std.proofs.Common.{inr, refl, rules, subst, sym, ◌∙◌, FitsSigned, w64, to_z-of_z}
use Rattle.client_forms.specs.Ctl.{Deleting, Following, Getting, Listing, Loading, Pinging, Putting, Ranging, Watching}
use Rattle.client_forms.specs.Shown.{Show, lines_after, seen_on, viewing}
use Rattle.client_forms.specs.Top.{dials, world}
use Rattle.client_forms.specs.Work.{input, output}
use Rattle.point_lines.specs.Lines.{lines_in}
use Rattle.watch_views.specs.Boards.{reading}
use Rattle.client_forms.proofs.FormLemmas.{delete_begins, follow_begins, get_begins, list_begins, no_memory, ping_begins, put_begins, ran_delete, ran_follow, ran_get, ran_load, ran_ping, ran_put, ran_range, ran_spaces, ran_watch, range_begins}
use Rattle.client_forms.proofs.LoadLemmas.{load_begins}
use Rattle.client_forms.proofs.WatchLemmas.{board_shows_first, watch_starts}
use Rattle.client_forms.proofs.run.run.Goals as goal

pub returns-in_default-clause-fulfils : goal.returns-in_default-clause-fulfils
returns-in_default-clause-fulfils g c = no_memory c.args.form.address c.args.form.command (lines_after (viewing (λ v. (goal.View-dyn g (v.vtable, v.value)).held v.value) (λ v. (goal.View-dyn g (v.vtable, v.value)).step v.value) (λ v. (goal.View-dyn g (v.vtable, v.value)).shown v.value)) c.args.views.items) (g.H.Host.content c.args.host.now) (world (input (g.R.Source.left c.args.streams.input) (g.R.Source.faults c.args.streams.input)) (output (g.W.Sink.held c.args.streams.out) (g.W.Sink.faults c.args.streams.out)) (g.C.Clock.told c.args.streams.clock) (dials (g.D.Dialer.backs c.args.dialer.now) (g.D.Dialer.ended c.args.dialer.now) (g.D.Dialer.faults c.args.dialer.now)))

pub returns-in-Ok-read_payload-clause-fulfils : goal.returns-in-Ok-read_payload-clause-fulfils
returns-in-Ok-read_payload-clause-fulfils g c =
    let w = world (input (g.R.Source.left c.args.streams.input) (g.R.Source.faults c.args.streams.input)) (output (g.W.Sink.held c.args.streams.out) (g.W.Sink.faults c.args.streams.out)) (g.C.Clock.told c.args.streams.clock) (dials (g.D.Dialer.backs c.args.dialer.now) (g.D.Dialer.ended c.args.dialer.now) (g.D.Dialer.faults c.args.dialer.now)) in
    let z = world (input (g.R.Source.left c.run_at.result.1.input) (g.R.Source.faults c.run_at.result.1.input)) (output (g.W.Sink.held c.run_at.result.1.out) (g.W.Sink.faults c.run_at.result.1.out)) (g.C.Clock.told c.run_at.result.1.clock) (dials (g.D.Dialer.backs c.run_at.new.dialer) (g.D.Dialer.ended c.run_at.new.dialer) (g.D.Dialer.faults c.run_at.new.dialer)) in
    ran_put c.run_at.result.0 c.args.form.address c.args.form.command (lines_after (viewing (λ v. (goal.View-dyn g (v.vtable, v.value)).held v.value) (λ v. (goal.View-dyn g (v.vtable, v.value)).step v.value) (λ v. (goal.View-dyn g (v.vtable, v.value)).shown v.value)) c.args.views.items) (g.H.Host.content c.args.host.now) w z c.in-Put.uri c.in-Put.file c.in-Put.is c.in-Ok-read_payload.payload c.in-Ok-read_payload.ensures.file.0 c.in-Ok-read_payload.ensures.file.1
    (c.run_at.ensures.runs (lines_after (viewing (λ v. (goal.View-dyn g (v.vtable, v.value)).held v.value) (λ v. (goal.View-dyn g (v.vtable, v.value)).step v.value) (λ v. (goal.View-dyn g (v.vtable, v.value)).shown v.value)) c.args.views.items) (Putting c.in-Put.uri c.in-Ok-read_payload.payload) (put_begins c.in-Put.uri c.new-command.result.uri c.in-Ok-read_payload.payload c.new-command.result.payload c.new-command.result.asked c.new-command.ensures))

pub returns-in-Ok-read_payload-clause-form : goal.returns-in-Ok-read_payload-clause-form
returns-in-Ok-read_payload-clause-form g c = c.run_at.ensures.why.form

pub returns-in-Ok-read_payload-clause-read_cause : goal.returns-in-Ok-read_payload-clause-read_cause
returns-in-Ok-read_payload-clause-read_cause g c = λ e. inr (c.run_at.ensures.why.read e)

pub returns-in-Ok-read_payload-clause-write_cause : goal.returns-in-Ok-read_payload-clause-write_cause
returns-in-Ok-read_payload-clause-write_cause g c = λ e. c.run_at.ensures.why.write e

pub returns-in-Ok-read_payload-clause-link_cause : goal.returns-in-Ok-read_payload-clause-link_cause
returns-in-Ok-read_payload-clause-link_cause g c = λ e. c.run_at.ensures.why.link e

pub returns-in-Get-clause-fulfils : goal.returns-in-Get-clause-fulfils
returns-in-Get-clause-fulfils g c =
    let w = world (input (g.R.Source.left c.args.streams.input) (g.R.Source.faults c.args.streams.input)) (output (g.W.Sink.held c.args.streams.out) (g.W.Sink.faults c.args.streams.out)) (g.C.Clock.told c.args.streams.clock) (dials (g.D.Dialer.backs c.args.dialer.now) (g.D.Dialer.ended c.args.dialer.now) (g.D.Dialer.faults c.args.dialer.now)) in
    let z = world (input (g.R.Source.left c.run_at-in-Get.result.1.input) (g.R.Source.faults c.run_at-in-Get.result.1.input)) (output (g.W.Sink.held c.run_at-in-Get.result.1.out) (g.W.Sink.faults c.run_at-in-Get.result.1.out)) (g.C.Clock.told c.run_at-in-Get.result.1.clock) (dials (g.D.Dialer.backs c.run_at-in-Get.new.dialer) (g.D.Dialer.ended c.run_at-in-Get.new.dialer) (g.D.Dialer.faults c.run_at-in-Get.new.dialer)) in
    ran_get c.run_at-in-Get.result.0 c.args.form.address c.args.form.command (lines_after (viewing (λ v. (goal.View-dyn g (v.vtable, v.value)).held v.value) (λ v. (goal.View-dyn g (v.vtable, v.value)).step v.value) (λ v. (goal.View-dyn g (v.vtable, v.value)).shown v.value)) c.args.views.items) (g.H.Host.content c.args.host.now) w z c.in-Get.uri c.in-Get.is
    (c.run_at-in-Get.ensures.runs (lines_after (viewing (λ v. (goal.View-dyn g (v.vtable, v.value)).held v.value) (λ v. (goal.View-dyn g (v.vtable, v.value)).step v.value) (λ v. (goal.View-dyn g (v.vtable, v.value)).shown v.value)) c.args.views.items) (Getting c.in-Get.uri) (get_begins c.in-Get.uri c.new-command-in-Get.result.uri c.new-command-in-Get.result.asked c.new-command-in-Get.ensures))

pub returns-in-Get-clause-form : goal.returns-in-Get-clause-form
returns-in-Get-clause-form g c = c.run_at-in-Get.ensures.why.form

pub returns-in-Get-clause-read_cause : goal.returns-in-Get-clause-read_cause
returns-in-Get-clause-read_cause g c = λ e. inr (c.run_at-in-Get.ensures.why.read e)

pub returns-in-Get-clause-write_cause : goal.returns-in-Get-clause-write_cause
returns-in-Get-clause-write_cause g c = λ e. c.run_at-in-Get.ensures.why.write e

pub returns-in-Get-clause-link_cause : goal.returns-in-Get-clause-link_cause
returns-in-Get-clause-link_cause g c = λ e. c.run_at-in-Get.ensures.why.link e

pub returns-in-Load-clause-fulfils : goal.returns-in-Load-clause-fulfils
returns-in-Load-clause-fulfils g c =
    let w = world (input (g.R.Source.left c.args.streams.input) (g.R.Source.faults c.args.streams.input)) (output (g.W.Sink.held c.args.streams.out) (g.W.Sink.faults c.args.streams.out)) (g.C.Clock.told c.args.streams.clock) (dials (g.D.Dialer.backs c.args.dialer.now) (g.D.Dialer.ended c.args.dialer.now) (g.D.Dialer.faults c.args.dialer.now)) in
    let z = world (input (g.R.Source.left c.run_at-in-Load.result.1.input) (g.R.Source.faults c.run_at-in-Load.result.1.input)) (output (g.W.Sink.held c.run_at-in-Load.result.1.out) (g.W.Sink.faults c.run_at-in-Load.result.1.out)) (g.C.Clock.told c.run_at-in-Load.result.1.clock) (dials (g.D.Dialer.backs c.run_at-in-Load.new.dialer) (g.D.Dialer.ended c.run_at-in-Load.new.dialer) (g.D.Dialer.faults c.run_at-in-Load.new.dialer)) in
    ran_load c.run_at-in-Load.result.0 c.args.form.address c.args.form.command (lines_after (viewing (λ v. (goal.View-dyn g (v.vtable, v.value)).held v.value) (λ v. (goal.View-dyn g (v.vtable, v.value)).step v.value) (λ v. (goal.View-dyn g (v.vtable, v.value)).shown v.value)) c.args.views.items) (g.H.Host.content c.args.host.now) w z c.in-Load.uri c.in-Load.is
    (λ bytes told. c.run_at-in-Load.ensures.runs (lines_after (viewing (λ v. (goal.View-dyn g (v.vtable, v.value)).held v.value) (λ v. (goal.View-dyn g (v.vtable, v.value)).step v.value) (λ v. (goal.View-dyn g (v.vtable, v.value)).shown v.value)) c.args.views.items) (Loading c.in-Load.uri (lines_in bytes)) (load_begins c.in-Load.uri c.new-command-in-Load.result.uri c.new-command-in-Load.result.stage c.new-command-in-Load.result.reader bytes (g.R.Source.left c.args.streams.input) c.new-command-in-Load.ensures.0 c.new-command-in-Load.ensures.1 c.new-command-in-Load.ensures.2 told))
    (λ bytes told e. c.run_at-in-Load.ensures.read e (lines_after (viewing (λ v. (goal.View-dyn g (v.vtable, v.value)).held v.value) (λ v. (goal.View-dyn g (v.vtable, v.value)).step v.value) (λ v. (goal.View-dyn g (v.vtable, v.value)).shown v.value)) c.args.views.items) (Loading c.in-Load.uri (lines_in bytes)) (load_begins c.in-Load.uri c.new-command-in-Load.result.uri c.new-command-in-Load.result.stage c.new-command-in-Load.result.reader bytes (g.R.Source.left c.args.streams.input) c.new-command-in-Load.ensures.0 c.new-command-in-Load.ensures.1 c.new-command-in-Load.ensures.2 told))

pub returns-in-Load-clause-form : goal.returns-in-Load-clause-form
returns-in-Load-clause-form g c = c.run_at-in-Load.ensures.why.form

pub returns-in-Load-clause-read_cause : goal.returns-in-Load-clause-read_cause
returns-in-Load-clause-read_cause g c = λ e. inr (c.run_at-in-Load.ensures.why.read e)

pub returns-in-Load-clause-write_cause : goal.returns-in-Load-clause-write_cause
returns-in-Load-clause-write_cause g c = λ e. c.run_at-in-Load.ensures.why.write e

pub returns-in-Load-clause-link_cause : goal.returns-in-Load-clause-link_cause
returns-in-Load-clause-link_cause g c = λ e. c.run_at-in-Load.ensures.why.link e

pub returns-in-Ping-clause-fulfils : goal.returns-in-Ping-clause-fulfils
returns-in-Ping-clause-fulfils g c =
    let w = world (input (g.R.Source.left c.args.streams.input) (g.R.Source.faults c.args.streams.input)) (output (g.W.Sink.held c.args.streams.out) (g.W.Sink.faults c.args.streams.out)) (g.C.Clock.told c.args.streams.clock) (dials (g.D.Dialer.backs c.args.dialer.now) (g.D.Dialer.ended c.args.dialer.now) (g.D.Dialer.faults c.args.dialer.now)) in
    let z = world (input (g.R.Source.left c.run_at-in-Ping.result.1.input) (g.R.Source.faults c.run_at-in-Ping.result.1.input)) (output (g.W.Sink.held c.run_at-in-Ping.result.1.out) (g.W.Sink.faults c.run_at-in-Ping.result.1.out)) (g.C.Clock.told c.run_at-in-Ping.result.1.clock) (dials (g.D.Dialer.backs c.run_at-in-Ping.new.dialer) (g.D.Dialer.ended c.run_at-in-Ping.new.dialer) (g.D.Dialer.faults c.run_at-in-Ping.new.dialer)) in
    ran_ping c.run_at-in-Ping.result.0 c.args.form.address c.args.form.command (lines_after (viewing (λ v. (goal.View-dyn g (v.vtable, v.value)).held v.value) (λ v. (goal.View-dyn g (v.vtable, v.value)).step v.value) (λ v. (goal.View-dyn g (v.vtable, v.value)).shown v.value)) c.args.views.items) (g.H.Host.content c.args.host.now) w z c.in-Ping.is
    (c.run_at-in-Ping.ensures.runs (lines_after (viewing (λ v. (goal.View-dyn g (v.vtable, v.value)).held v.value) (λ v. (goal.View-dyn g (v.vtable, v.value)).step v.value) (λ v. (goal.View-dyn g (v.vtable, v.value)).shown v.value)) c.args.views.items) Pinging (ping_begins c.new-command-in-Ping.result.asked c.new-command-in-Ping.ensures))

pub returns-in-Ping-clause-form : goal.returns-in-Ping-clause-form
returns-in-Ping-clause-form g c = c.run_at-in-Ping.ensures.why.form

pub returns-in-Ping-clause-read_cause : goal.returns-in-Ping-clause-read_cause
returns-in-Ping-clause-read_cause g c = λ e. inr (c.run_at-in-Ping.ensures.why.read e)

pub returns-in-Ping-clause-write_cause : goal.returns-in-Ping-clause-write_cause
returns-in-Ping-clause-write_cause g c = λ e. c.run_at-in-Ping.ensures.why.write e

pub returns-in-Ping-clause-link_cause : goal.returns-in-Ping-clause-link_cause
returns-in-Ping-clause-link_cause g c = λ e. c.run_at-in-Ping.ensures.why.link e

pub returns-in-Spaces-clause-fulfils : goal.returns-in-Spaces-clause-fulfils
returns-in-Spaces-clause-fulfils g c =
    let w = world (input (g.R.Source.left c.args.streams.input) (g.R.Source.faults c.args.streams.input)) (output (g.W.Sink.held c.args.streams.out) (g.W.Sink.faults c.args.streams.out)) (g.C.Clock.told c.args.streams.clock) (dials (g.D.Dialer.backs c.args.dialer.now) (g.D.Dialer.ended c.args.dialer.now) (g.D.Dialer.faults c.args.dialer.now)) in
    let z = world (input (g.R.Source.left c.run_at-in-Spaces.result.1.input) (g.R.Source.faults c.run_at-in-Spaces.result.1.input)) (output (g.W.Sink.held c.run_at-in-Spaces.result.1.out) (g.W.Sink.faults c.run_at-in-Spaces.result.1.out)) (g.C.Clock.told c.run_at-in-Spaces.result.1.clock) (dials (g.D.Dialer.backs c.run_at-in-Spaces.new.dialer) (g.D.Dialer.ended c.run_at-in-Spaces.new.dialer) (g.D.Dialer.faults c.run_at-in-Spaces.new.dialer)) in
    ran_spaces c.run_at-in-Spaces.result.0 c.args.form.address c.args.form.command (lines_after (viewing (λ v. (goal.View-dyn g (v.vtable, v.value)).held v.value) (λ v. (goal.View-dyn g (v.vtable, v.value)).step v.value) (λ v. (goal.View-dyn g (v.vtable, v.value)).shown v.value)) c.args.views.items) (g.H.Host.content c.args.host.now) w z c.in-Spaces.is
    (c.run_at-in-Spaces.ensures.runs (lines_after (viewing (λ v. (goal.View-dyn g (v.vtable, v.value)).held v.value) (λ v. (goal.View-dyn g (v.vtable, v.value)).step v.value) (λ v. (goal.View-dyn g (v.vtable, v.value)).shown v.value)) c.args.views.items) Listing (list_begins c.new-command-in-Spaces.result.asked c.new-command-in-Spaces.ensures))

pub returns-in-Spaces-clause-form : goal.returns-in-Spaces-clause-form
returns-in-Spaces-clause-form g c = c.run_at-in-Spaces.ensures.why.form

pub returns-in-Spaces-clause-read_cause : goal.returns-in-Spaces-clause-read_cause
returns-in-Spaces-clause-read_cause g c = λ e. inr (c.run_at-in-Spaces.ensures.why.read e)

pub returns-in-Spaces-clause-write_cause : goal.returns-in-Spaces-clause-write_cause
returns-in-Spaces-clause-write_cause g c = λ e. c.run_at-in-Spaces.ensures.why.write e

pub returns-in-Spaces-clause-link_cause : goal.returns-in-Spaces-clause-link_cause
returns-in-Spaces-clause-link_cause g c = λ e. c.run_at-in-Spaces.ensures.why.link e

pub returns-in-Range-clause-fulfils : goal.returns-in-Range-clause-fulfils
returns-in-Range-clause-fulfils g c =
    let from_fits : FitsSigned w64 c.in-Range.from = search rules in
    let to_fits : FitsSigned w64 c.in-Range.to = search rules in
    let w = world (input (g.R.Source.left c.args.streams.input) (g.R.Source.faults c.args.streams.input)) (output (g.W.Sink.held c.args.streams.out) (g.W.Sink.faults c.args.streams.out)) (g.C.Clock.told c.args.streams.clock) (dials (g.D.Dialer.backs c.args.dialer.now) (g.D.Dialer.ended c.args.dialer.now) (g.D.Dialer.faults c.args.dialer.now)) in
    let z = world (input (g.R.Source.left c.run_at-in-Range.result.1.input) (g.R.Source.faults c.run_at-in-Range.result.1.input)) (output (g.W.Sink.held c.run_at-in-Range.result.1.out) (g.W.Sink.faults c.run_at-in-Range.result.1.out)) (g.C.Clock.told c.run_at-in-Range.result.1.clock) (dials (g.D.Dialer.backs c.run_at-in-Range.new.dialer) (g.D.Dialer.ended c.run_at-in-Range.new.dialer) (g.D.Dialer.faults c.run_at-in-Range.new.dialer)) in
    ran_range c.run_at-in-Range.result.0 c.args.form.address c.args.form.command (lines_after (viewing (λ v. (goal.View-dyn g (v.vtable, v.value)).held v.value) (λ v. (goal.View-dyn g (v.vtable, v.value)).step v.value) (λ v. (goal.View-dyn g (v.vtable, v.value)).shown v.value)) c.args.views.items) (g.H.Host.content c.args.host.now) w z c.in-Range.uri c.in-Range.from c.in-Range.to c.in-Range.is
    (c.run_at-in-Range.ensures.runs (lines_after (viewing (λ v. (goal.View-dyn g (v.vtable, v.value)).held v.value) (λ v. (goal.View-dyn g (v.vtable, v.value)).step v.value) (λ v. (goal.View-dyn g (v.vtable, v.value)).shown v.value)) c.args.views.items) (Ranging c.in-Range.uri c.in-Range.from c.in-Range.to) (range_begins c.in-Range.uri c.new-command-in-Range.result.uri c.in-Range.from c.in-Range.to c.new-command-in-Range.result.from c.new-command-in-Range.result.to c.new-command-in-Range.result.stage c.new-command-in-Range.result.kind c.new-command-in-Range.ensures.0 (c.new-command-in-Range.ensures.1 ∙ to_z-of_z from_fits) (c.new-command-in-Range.ensures.2 ∙ to_z-of_z to_fits) c.new-command-in-Range.ensures.3))

pub returns-in-Range-clause-form : goal.returns-in-Range-clause-form
returns-in-Range-clause-form g c = c.run_at-in-Range.ensures.why.form

pub returns-in-Range-clause-read_cause : goal.returns-in-Range-clause-read_cause
returns-in-Range-clause-read_cause g c = λ e. inr (c.run_at-in-Range.ensures.why.read e)

pub returns-in-Range-clause-write_cause : goal.returns-in-Range-clause-write_cause
returns-in-Range-clause-write_cause g c = λ e. c.run_at-in-Range.ensures.why.write e

pub returns-in-Range-clause-link_cause : goal.returns-in-Range-clause-link_cause
returns-in-Range-clause-link_cause g c = λ e. c.run_at-in-Range.ensures.why.link e

pub returns-in-Delete-clause-fulfils : goal.returns-in-Delete-clause-fulfils
returns-in-Delete-clause-fulfils g c =
    let w = world (input (g.R.Source.left c.args.streams.input) (g.R.Source.faults c.args.streams.input)) (output (g.W.Sink.held c.args.streams.out) (g.W.Sink.faults c.args.streams.out)) (g.C.Clock.told c.args.streams.clock) (dials (g.D.Dialer.backs c.args.dialer.now) (g.D.Dialer.ended c.args.dialer.now) (g.D.Dialer.faults c.args.dialer.now)) in
    let z = world (input (g.R.Source.left c.run_at-in-Delete.result.1.input) (g.R.Source.faults c.run_at-in-Delete.result.1.input)) (output (g.W.Sink.held c.run_at-in-Delete.result.1.out) (g.W.Sink.faults c.run_at-in-Delete.result.1.out)) (g.C.Clock.told c.run_at-in-Delete.result.1.clock) (dials (g.D.Dialer.backs c.run_at-in-Delete.new.dialer) (g.D.Dialer.ended c.run_at-in-Delete.new.dialer) (g.D.Dialer.faults c.run_at-in-Delete.new.dialer)) in
    ran_delete c.run_at-in-Delete.result.0 c.args.form.address c.args.form.command (lines_after (viewing (λ v. (goal.View-dyn g (v.vtable, v.value)).held v.value) (λ v. (goal.View-dyn g (v.vtable, v.value)).step v.value) (λ v. (goal.View-dyn g (v.vtable, v.value)).shown v.value)) c.args.views.items) (g.H.Host.content c.args.host.now) w z c.in-Delete.uri c.in-Delete.is
    (c.run_at-in-Delete.ensures.runs (lines_after (viewing (λ v. (goal.View-dyn g (v.vtable, v.value)).held v.value) (λ v. (goal.View-dyn g (v.vtable, v.value)).step v.value) (λ v. (goal.View-dyn g (v.vtable, v.value)).shown v.value)) c.args.views.items) (Deleting c.in-Delete.uri) (delete_begins c.in-Delete.uri c.new-command-in-Delete.result.uri c.new-command-in-Delete.result.asked c.new-command-in-Delete.ensures))

pub returns-in-Delete-clause-form : goal.returns-in-Delete-clause-form
returns-in-Delete-clause-form g c = c.run_at-in-Delete.ensures.why.form

pub returns-in-Delete-clause-read_cause : goal.returns-in-Delete-clause-read_cause
returns-in-Delete-clause-read_cause g c = λ e. inr (c.run_at-in-Delete.ensures.why.read e)

pub returns-in-Delete-clause-write_cause : goal.returns-in-Delete-clause-write_cause
returns-in-Delete-clause-write_cause g c = λ e. c.run_at-in-Delete.ensures.why.write e

pub returns-in-Delete-clause-link_cause : goal.returns-in-Delete-clause-link_cause
returns-in-Delete-clause-link_cause g c = λ e. c.run_at-in-Delete.ensures.why.link e

pub returns-in-Follow-clause-fulfils : goal.returns-in-Follow-clause-fulfils
returns-in-Follow-clause-fulfils g c =
    let start_fits : FitsSigned w64 c.in-Follow.start = search rules in
    let w = world (input (g.R.Source.left c.args.streams.input) (g.R.Source.faults c.args.streams.input)) (output (g.W.Sink.held c.args.streams.out) (g.W.Sink.faults c.args.streams.out)) (g.C.Clock.told c.args.streams.clock) (dials (g.D.Dialer.backs c.args.dialer.now) (g.D.Dialer.ended c.args.dialer.now) (g.D.Dialer.faults c.args.dialer.now)) in
    let z = world (input (g.R.Source.left c.run_at-in-Follow.result.1.input) (g.R.Source.faults c.run_at-in-Follow.result.1.input)) (output (g.W.Sink.held c.run_at-in-Follow.result.1.out) (g.W.Sink.faults c.run_at-in-Follow.result.1.out)) (g.C.Clock.told c.run_at-in-Follow.result.1.clock) (dials (g.D.Dialer.backs c.run_at-in-Follow.new.dialer) (g.D.Dialer.ended c.run_at-in-Follow.new.dialer) (g.D.Dialer.faults c.run_at-in-Follow.new.dialer)) in
    ran_follow c.run_at-in-Follow.result.0 c.args.form.address c.args.form.command (lines_after (viewing (λ v. (goal.View-dyn g (v.vtable, v.value)).held v.value) (λ v. (goal.View-dyn g (v.vtable, v.value)).step v.value) (λ v. (goal.View-dyn g (v.vtable, v.value)).shown v.value)) c.args.views.items) (g.H.Host.content c.args.host.now) w z c.in-Follow.uri c.in-Follow.start c.in-Follow.is
    (c.run_at-in-Follow.ensures.runs (lines_after (viewing (λ v. (goal.View-dyn g (v.vtable, v.value)).held v.value) (λ v. (goal.View-dyn g (v.vtable, v.value)).step v.value) (λ v. (goal.View-dyn g (v.vtable, v.value)).shown v.value)) c.args.views.items) (Following c.in-Follow.uri c.in-Follow.start) (follow_begins c.in-Follow.uri c.new-command-in-Follow.result.uri c.in-Follow.start c.new-command-in-Follow.result.start c.new-command-in-Follow.result.stage c.new-command-in-Follow.ensures.0 (c.new-command-in-Follow.ensures.1 ∙ to_z-of_z start_fits) c.new-command-in-Follow.ensures.2))

pub returns-in-Follow-clause-form : goal.returns-in-Follow-clause-form
returns-in-Follow-clause-form g c = c.run_at-in-Follow.ensures.why.form

pub returns-in-Follow-clause-read_cause : goal.returns-in-Follow-clause-read_cause
returns-in-Follow-clause-read_cause g c = λ e. inr (c.run_at-in-Follow.ensures.why.read e)

pub returns-in-Follow-clause-write_cause : goal.returns-in-Follow-clause-write_cause
returns-in-Follow-clause-write_cause g c = λ e. c.run_at-in-Follow.ensures.why.write e

pub returns-in-Follow-clause-link_cause : goal.returns-in-Follow-clause-link_cause
returns-in-Follow-clause-link_cause g c = λ e. c.run_at-in-Follow.ensures.why.link e

pub returns-clause-fulfils : goal.returns-clause-fulfils
returns-clause-fulfils g c =
    let w = world (input (g.R.Source.left c.args.streams.input) (g.R.Source.faults c.args.streams.input)) (output (g.W.Sink.held c.args.streams.out) (g.W.Sink.faults c.args.streams.out)) (g.C.Clock.told c.args.streams.clock) (dials (g.D.Dialer.backs c.args.dialer.now) (g.D.Dialer.ended c.args.dialer.now) (g.D.Dialer.faults c.args.dialer.now)) in
    let z = world (input (g.R.Source.left c.run_at-in-Watch.result.1.input) (g.R.Source.faults c.run_at-in-Watch.result.1.input)) (output (g.W.Sink.held c.run_at-in-Watch.result.1.out) (g.W.Sink.faults c.run_at-in-Watch.result.1.out)) (g.C.Clock.told c.run_at-in-Watch.result.1.clock) (dials (g.D.Dialer.backs c.run_at-in-Watch.new.dialer) (g.D.Dialer.ended c.run_at-in-Watch.new.dialer) (g.D.Dialer.faults c.run_at-in-Watch.new.dialer)) in
    ran_watch c.run_at-in-Watch.result.0 c.args.form.address c.args.form.command (lines_after (viewing (λ v. (goal.View-dyn g (v.vtable, v.value)).held v.value) (λ v. (goal.View-dyn g (v.vtable, v.value)).step v.value) (λ v. (goal.View-dyn g (v.vtable, v.value)).shown v.value)) c.args.views.items) (g.H.Host.content c.args.host.now) w z c.in-Watch.uri c.in-Watch.count c.in-Watch.is
    (c.run_at-in-Watch.ensures.runs (lines_after (viewing (λ v. (goal.View-dyn g (v.vtable, v.value)).held v.value) (λ v. (goal.View-dyn g (v.vtable, v.value)).step v.value) (λ v. (goal.View-dyn g (v.vtable, v.value)).shown v.value)) c.args.views.items) (Watching c.in-Watch.uri c.in-Watch.count) (watch_starts c.in-Watch.uri c.new-command-in-Watch.result.uri c.in-Watch.count c.new-command-in-Watch.result.most c.new-command-in-Watch.result.stage c.new-command-in-Watch.result.count _ (lines_after (viewing (λ v. (goal.View-dyn g (v.vtable, v.value)).held v.value) (λ v. (goal.View-dyn g (v.vtable, v.value)).step v.value) (λ v. (goal.View-dyn g (v.vtable, v.value)).shown v.value)) c.args.views.items) c.new-command-in-Watch.ensures.0 c.new-command-in-Watch.ensures.1 c.new-command-in-Watch.ensures.2 c.new-command-in-Watch.ensures.3
    (subst (λ bs. Show (lines_after (viewing (λ v. (goal.View-dyn g (v.vtable, v.value)).held v.value) (λ v. (goal.View-dyn g (v.vtable, v.value)).step v.value) (λ v. (goal.View-dyn g (v.vtable, v.value)).shown v.value)) c.args.views.items) (seen_on (reading (λ s. s.channel) (λ s. (goal.View-dyn g (s.view.vtable, s.view.value)).held s.view.value) (λ s. (goal.View-dyn g (s.view.vtable, s.view.value)).step s.view.value) (λ s. (goal.View-dyn g (s.view.vtable, s.view.value)).shown s.view.value)) bs)) (sym c.in-Ok.ensures) (board_shows_first (viewing (λ v. (goal.View-dyn g (v.vtable, v.value)).held v.value) (λ v. (goal.View-dyn g (v.vtable, v.value)).step v.value) (λ v. (goal.View-dyn g (v.vtable, v.value)).shown v.value)) (reading (λ s. s.channel) (λ s. (goal.View-dyn g (s.view.vtable, s.view.value)).held s.view.value) (λ s. (goal.View-dyn g (s.view.vtable, s.view.value)).step s.view.value) (λ s. (goal.View-dyn g (s.view.vtable, s.view.value)).shown s.view.value)) _ (λ x. refl) (λ x. refl) (λ x. refl) c.args.views.items))))

pub returns-clause-form : goal.returns-clause-form
returns-clause-form g c = c.run_at-in-Watch.ensures.why.form

pub returns-clause-read_cause : goal.returns-clause-read_cause
returns-clause-read_cause g c = λ e. inr (c.run_at-in-Watch.ensures.why.read e)

pub returns-clause-write_cause : goal.returns-clause-write_cause
returns-clause-write_cause g c = λ e. c.run_at-in-Watch.ensures.why.write e

pub returns-clause-link_cause : goal.returns-clause-link_cause
returns-clause-link_cause g c = λ e. c.run_at-in-Watch.ensures.why.link e
