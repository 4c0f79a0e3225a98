use Rattle.std.proofs.Common.{◌≡◌, ◌++◌, ap₂, sym}
use Rattle.etp_capture.specs.Capture.{frames_bytes}
use Rattle.etp_capture.specs.Frames.{magic}
use Rattle.generator.specs.Generator.{frames}
use Rattle.gathered_text.proofs.GoingLemmas.{going_start, nothing_written}
use Rattle.load_forms.proofs.writing.write_load.Goals as goal

pub returns-in-Ok-clause-written : goal.returns-in-Ok-clause-written
returns-in-Ok-clause-written g c =
    let whole = magic ++ frames_bytes (frames c.args.size) in
    let held = g.W.Sink.held c.args.out.now in
    let start : whole ≡ c.in-Ok.text.items ++ frames_bytes c.new.result = ap₂ (λ text left. text ++ frames_bytes left) (sym c.in-Ok.ensures) (sym c.new.ensures) in
    c.write_frames.ensures.written whole held (going_start whole c.in-Ok.text.items (frames_bytes c.new.result) held start)

pub returns-in-Err-clause-written : goal.returns-in-Err-clause-written
returns-in-Err-clause-written g c = nothing_written (magic ++ frames_bytes (frames c.args.size)) (g.W.Sink.held c.args.out.now)
