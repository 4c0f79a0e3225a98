use Rattle.std.proofs.Common.{arith, ◌≡◌, ◌∙◌, ℕ, List, ap, sym, subst}
use Rattle.etp_capture.specs.Reader.{Reader}
use Rattle.capture_run.specs.Form.{Plan}
use Rattle.capture_run.specs.Running.{Going, Halts, Finishes, between}
use Rattle.capture_run.proofs.BegunLemmas.{magic_told, begun_reader}
use Rattle.capture_run.proofs.GoingLemmas.{going_first, stops_first, finished}
use Rattle.capture_run.proofs.running.run_frames.Goals as goal

pub loop-stop-init : goal.loop-stop-init
loop-stop-init g c =
    let begun = begun_reader c.new-reader.result c.begin.new.self c.begin.result c.in_default.field-0 c.new-reader.ensures c.in_default.is c.begin.ensures.state in
    let place : c.begin.new.self.at ≡ 8 = ap (λ (r : Reader). r.at) begun in
    let before = g.R.Source.left c.args.input.now in
    let after = g.R.Source.left c.begin.new.source in
    record {
      going = going_first (g.F.Form.plan c.args.form) (g.F.Form.stands c.args.form) c.begin.new.self.at c.new-gathered.result.items c.start.new.into.items c.write_now.new.gathered.items before after (g.W.Sink.held c.args.out.now) (g.W.Sink.held c.write_now.new.out)
          c.requires.stands c.requires.accepts place c.new-gathered.ensures.items c.in-Ok.ensures
          (magic_told c.new-reader.result c.begin.result c.in_default.field-0 before after c.new-reader.ensures c.in_default.is c.begin.ensures.bytes) c.in-None.ensures.bytes;
      plan = λ i. g.F.Form.plan c.args.form;
      fits = subst (λ (n : ℕ). g.F.Form.fits c.args.form n) (sym place) c.requires.fits;
      fresh = ap (λ (r : Reader). r.failed) begun;
      begun = omega (arith, place);
      within = omega (arith, place);
      read_kept = c.begin.ensures.kept;
      write_kept = c.write_now.ensures.kept;
    }

pub returns-in-Some-clause-runs : goal.returns-in-Some-clause-runs
returns-in-Some-clause-runs g c =
    let before = g.R.Source.left c.args.input.now in
    let after = g.R.Source.left c.begin.new.source in
    stops_first c.in-Some.stop (g.F.Form.plan c.args.form) c.new-gathered.result.items c.start.new.into.items c.write_now.new.gathered.items before after (g.W.Sink.held c.args.out.now) (g.W.Sink.held c.write_now.new.out)
    c.requires.accepts c.new-gathered.ensures.items c.in-Ok.ensures (magic_told c.new-reader.result c.begin.result c.in_default.field-0 before after c.new-reader.ensures c.in_default.is c.begin.ensures.bytes) c.in-Some.ensures.bytes

pub returns-in-Some-run_frame-clause-runs : goal.returns-in-Some-run_frame-clause-runs
returns-in-Some-run_frame-clause-runs g c =
    let left = g.R.Source.left c.args.input.now in
    let held = g.W.Sink.held c.args.out.now in
    let inv = c.loop-stop.invariant in
    let plan = g.F.Form.plan c.args.form in
    let stands = g.F.Form.stands c.loop-stop.form in
    let gathered = c.loop-stop.gathered.items in
    let going = subst (λ (p : Plan). Going p stands c.loop-stop.reader.at gathered (between left (g.R.Source.left c.loop-stop.input)) (between held (g.W.Sink.held c.loop-stop.out))) (sym inv.plan) inv.going in
    let halts = c.in-Some-run_frame.ensures.halts left held going in
    let there = subst (λ (p : Plan). Halts c.in-Some-run_frame.stop p c.run_frame.new.gathered.items (between left (g.R.Source.left c.run_frame.new.input)) (between held (g.W.Sink.held c.run_frame.new.out))) inv.plan halts in
    let rest = subst (λ (l : List ℕ). Finishes c.in-Some-run_frame.stop c.finish.result l (g.W.Sink.held c.run_frame.new.out) (g.W.Sink.held c.finish.new.out)) c.as_slice.ensures.value c.finish.ensures.bytes in
    finished c.in-Some-run_frame.stop c.finish.result plan c.run_frame.new.gathered.items (between left (g.R.Source.left c.run_frame.new.input)) held (g.W.Sink.held c.run_frame.new.out) (g.W.Sink.held c.finish.new.out) there rest

pub loop-stop-preserved : goal.loop-stop-preserved
loop-stop-preserved g c =
    let left = g.R.Source.left c.args.input.now in
    let held = g.W.Sink.held c.args.out.now in
    let inv = c.loop-stop.invariant in
    let step = c.in_default-run_frame.ensures in
    let stands = g.F.Form.stands c.loop-stop.form in
    let going = subst (λ (p : Plan). Going p stands c.loop-stop.reader.at c.loop-stop.gathered.items (between left (g.R.Source.left c.loop-stop.input)) (between held (g.W.Sink.held c.loop-stop.out))) (sym inv.plan) inv.going in
    let later = g.F.Form.stands c.run_frame.new.form in
    record {
      going = subst (λ (p : Plan). Going p later c.run_frame.new.reader.at c.run_frame.new.gathered.items (between left (g.R.Source.left c.run_frame.new.input)) (between held (g.W.Sink.held c.run_frame.new.out))) inv.plan (step.goes left held going);
      plan = step.plan ∙ inv.plan;
      fits = step.fits;
      fresh = step.fresh;
      begun = omega (arith, step.further, inv.begun);
      within = c.run_frame.ensures.within;
      read_kept = omega (arith, inv.read_kept, c.run_frame.ensures.read_kept);
      write_kept = omega (arith, inv.write_kept, c.run_frame.ensures.write_kept);
    }
