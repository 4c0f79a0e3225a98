use Rattle.std.proofs.Common.{◌≡◌, Bool, List, Option, Ok, subst, sym}
use Rattle.etp_outside.specs.Told.{Told}
use Rattle.etp_capture.specs.Capture.{end_at}
use Rattle.etp_capture.specs.Found.{next_found}
use Rattle.etp_capture.specs.Reader.{Answers}
use Rattle.etp_capture.specs.declared.frame.Frame.{Frame}
use Rattle.capture_run.specs.Form.{Takes}
use Rattle.capture_run.specs.Running.{Halts, between}
use Rattle.capture_run.specs.declared.form.Stop.{Stop}
use Rattle.capture_run.proofs.GoingLemmas.{halts_error, halts_end, halts_unclosed, halts_refused, halts_untaken, goes_on, halts_on}
use Rattle.capture_run.proofs.running.run_frame.Goals as goal

pub returns-in-Ok-clause-halts : goal.returns-in-Ok-clause-halts
returns-in-Ok-clause-halts g c left held going =
    let ends = subst (λ (x : Option Frame). Told (g.R.Source.left c.args.input.now) (g.R.Source.left c.next.new.source) (Answers (Ok x) (next_found c.args.reader.now.at))) c.in-Ok-None.field-0-is (c.in-Ok-None.ensures.bytes c.requires.fresh) in
    halts_end (g.F.Form.plan c.args.form.now) (g.F.Form.stands c.args.form.now) c.args.reader.now.at c.in-Ok.refused c.args.gathered.now.items c.close.new.into.items
    left (g.R.Source.left c.args.input.now) (g.R.Source.left c.next.new.source) held (g.W.Sink.held c.args.out.now) c.requires.begun ends c.in-Ok.ensures.closed going

pub returns-in-Err-close-clause-halts : goal.returns-in-Err-close-clause-halts
returns-in-Err-close-clause-halts g c left held going =
    let ends = subst (λ (x : Option Frame). Told (g.R.Source.left c.args.input.now) (g.R.Source.left c.next.new.source) (Answers (Ok x) (next_found c.args.reader.now.at))) c.in-Ok-None.field-0-is (c.in-Ok-None.ensures.bytes c.requires.fresh) in
    halts_unclosed (g.F.Form.plan c.args.form.now) (g.F.Form.stands c.args.form.now) c.args.reader.now.at c.args.gathered.now.items c.close.new.into.items
    left (g.R.Source.left c.args.input.now) (g.R.Source.left c.next.new.source) held (g.W.Sink.held c.args.out.now) c.requires.begun ends c.in-Err-close.ensures.err going

pub returns-in-Err-clause-halts : goal.returns-in-Err-clause-halts
returns-in-Err-clause-halts g c left held going =
    let before = g.R.Source.left c.args.input.now in
    let after = g.R.Source.left c.next.new.source in
    let out = g.W.Sink.held c.args.out.now in
    subst (λ (s : Stop). Halts s (g.F.Form.plan c.args.form.now) c.args.gathered.now.items (between left after) (between held out)) (sym c.stop_for.ensures)
    (halts_error c.in-Err.error (g.F.Form.plan c.args.form.now) (g.F.Form.stands c.args.form.now) c.args.reader.now.at c.args.gathered.now.items left before after held out c.requires.begun (c.in-Err.ensures.bytes c.requires.fresh) going)

pub returns-in-Ok-true-clause-halts : goal.returns-in-Ok-true-clause-halts
returns-in-Ok-true-clause-halts g c left held going =
    let next = subst (λ (x : Option Frame). Told (g.R.Source.left c.args.input.now) (g.R.Source.left c.next.new.source) (Answers (Ok x) (next_found c.args.reader.now.at))) c.in-Ok-Some.field-0-is (c.in-Ok-Some.ensures.bytes c.requires.fresh) in
    let stands = g.F.Form.stands c.args.form.now in
    let later = g.F.Form.stands c.take.new.self in
    let plan = g.F.Form.plan c.args.form.now in
    let taken = subst (λ (b : Bool). (fs : List Frame) → stands fs → end_at 8 fs ≡ c.at-offset.result → Takes b plan fs c.in-Ok-Some.frame later c.args.gathered.now.items c.take.new.into.items) c.in-Ok-true.field-0-test c.in-Ok-true.ensures.taken in
    halts_refused plan stands later c.args.reader.now.at c.at-offset.result c.in-Ok-Some.frame c.args.gathered.now.items c.take.new.into.items
    left (g.R.Source.left c.args.input.now) (g.R.Source.left c.next.new.source) held (g.W.Sink.held c.args.out.now) c.requires.begun c.at-offset.ensures.place next taken going

pub returns-in-Ok-false-clause-goes : goal.returns-in-Ok-false-clause-goes
returns-in-Ok-false-clause-goes g c =
    let next = subst (λ (x : Option Frame). Told (g.R.Source.left c.args.input.now) (g.R.Source.left c.next.new.source) (Answers (Ok x) (next_found c.args.reader.now.at))) c.in-Ok-Some.field-0-is (c.in-Ok-Some.ensures.bytes c.requires.fresh) in
    let stands = g.F.Form.stands c.args.form.now in
    let later = g.F.Form.stands c.take.new.self in
    let plan = g.F.Form.plan c.args.form.now in
    let taken = subst (λ (b : Bool). (fs : List Frame) → stands fs → end_at 8 fs ≡ c.at-offset.result → Takes b plan fs c.in-Ok-Some.frame later c.args.gathered.now.items c.take.new.into.items) c.in-Ok-false.field-0-test c.in-Ok-false.ensures.taken in
    goes_on c.write_gathered.result plan stands later c.args.reader.now c.next.new.self c.at-offset.result c.in-Ok-Some.frame c.args.gathered.now.items c.take.new.into.items c.write_gathered.new.gathered.items
    (g.R.Source.left c.args.input.now) (g.R.Source.left c.next.new.source) (g.W.Sink.held c.args.out.now) (g.W.Sink.held c.write_gathered.new.out) c.requires.begun c.at-offset.ensures.place c.in-Ok-Some.field-0 c.in-Ok-Some.field-0-is c.in-Ok-Some.ensures.state next taken c.write_gathered.ensures.bytes

pub returns-in-Ok-false-clause-halts : goal.returns-in-Ok-false-clause-halts
returns-in-Ok-false-clause-halts g c =
    let next = subst (λ (x : Option Frame). Told (g.R.Source.left c.args.input.now) (g.R.Source.left c.next.new.source) (Answers (Ok x) (next_found c.args.reader.now.at))) c.in-Ok-Some.field-0-is (c.in-Ok-Some.ensures.bytes c.requires.fresh) in
    let stands = g.F.Form.stands c.args.form.now in
    let later = g.F.Form.stands c.take.new.self in
    let plan = g.F.Form.plan c.args.form.now in
    let taken = subst (λ (b : Bool). (fs : List Frame) → stands fs → end_at 8 fs ≡ c.at-offset.result → Takes b plan fs c.in-Ok-Some.frame later c.args.gathered.now.items c.take.new.into.items) c.in-Ok-false.field-0-test c.in-Ok-false.ensures.taken in
    halts_on c.write_gathered.result plan stands later c.args.reader.now.at c.at-offset.result c.in-Ok-Some.frame c.args.gathered.now.items c.take.new.into.items c.write_gathered.new.gathered.items
    (g.R.Source.left c.args.input.now) (g.R.Source.left c.next.new.source) (g.W.Sink.held c.args.out.now) (g.W.Sink.held c.write_gathered.new.out) c.requires.begun c.at-offset.ensures.place next taken c.write_gathered.ensures.bytes

pub returns-clause-halts : goal.returns-clause-halts
returns-clause-halts g c left held going =
    let next = subst (λ (x : Option Frame). Told (g.R.Source.left c.args.input.now) (g.R.Source.left c.next.new.source) (Answers (Ok x) (next_found c.args.reader.now.at))) c.in-Ok-Some.field-0-is (c.in-Ok-Some.ensures.bytes c.requires.fresh) in
    halts_untaken (g.F.Form.plan c.args.form.now) (g.F.Form.stands c.args.form.now) c.args.reader.now.at c.in-Ok-Some.frame c.args.gathered.now.items c.take.new.into.items
    left (g.R.Source.left c.args.input.now) (g.R.Source.left c.next.new.source) held (g.W.Sink.held c.args.out.now) c.requires.begun next c.in-Err-take.ensures.err going
