use Rattle.std.proofs.Common.{◌++◌, append_assoc}
use Rattle.etp_capture.specs.Frames.{frame_bytes}
use Rattle.gathered_text.proofs.GoingLemmas.{going_as, going_cut, going_pushed}
use Rattle.load_forms.proofs.writing.write_two.Goals as goal

pub returns-in-Ok-clause-goes : goal.returns-in-Ok-clause-goes
returns-in-Ok-clause-goes g c = λ whole rest before going.
    let a = frame_bytes c.args.first.now in
    let b = frame_bytes c.args.second.now in
    let old = c.args.text.now.items in
    let held = g.W.Sink.held c.args.out.now in
    c.pass_on.ensures.goes whole rest before
    (going_pushed whole old c.push_two.new.text.items (a ++ b) rest before held c.in-Ok.ensures
    (going_as whole old (a ++ (b ++ rest)) ((a ++ b) ++ rest) before held (append_assoc a b rest) going))

pub returns-in-Err-clause-goes : goal.returns-in-Err-clause-goes
returns-in-Err-clause-goes g c = λ whole rest before going.
    going_cut whole c.args.text.now.items (frame_bytes c.args.first.now ++ (frame_bytes c.args.second.now ++ rest)) before (g.W.Sink.held c.args.out.now) going
