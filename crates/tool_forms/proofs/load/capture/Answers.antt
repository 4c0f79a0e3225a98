use Rattle.std.proofs.Common.{◌++◌}
use Rattle.etp_capture.specs.Capture.{frames_bytes}
use Rattle.etp_capture.specs.Frames.{magic}
use Rattle.generator.specs.Generator.{frames}
use Rattle.tool_forms.proofs.TellingLemmas.{tells, no_usage, no_read_fault, write_fault}
use Rattle.tool_forms.proofs.load.capture.Goals as goal

pub returns-clause-told : goal.returns-clause-told
returns-clause-told g c = λ input.
    tells (magic ++ frames_bytes (frames c.args.size)) c.write_load.result c.status_of.result input (g.W.Sink.held c.args.out.now) (g.W.Sink.held c.write_load.new.out) c.status_of.ensures c.write_load.ensures.written

pub returns-clause-form : goal.returns-clause-form
returns-clause-form g c = no_usage c.write_load.result c.status_of.result c.status_of.ensures

pub returns-clause-read_cause : goal.returns-clause-read_cause
returns-clause-read_cause g c = no_read_fault c.write_load.result c.status_of.result c.status_of.ensures

pub returns-clause-write_cause : goal.returns-clause-write_cause
returns-clause-write_cause g c = λ fault. c.write_load.ensures.cause (write_fault c.write_load.result c.status_of.result c.status_of.ensures fault)
