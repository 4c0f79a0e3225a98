use Rattle.server_forms.specs.Report.{report}
use Rattle.gathered_text.proofs.GoingLemmas.{nothing_written}
use Rattle.server_forms.proofs.report.write_report.Goals as goal

pub returns-in-Err-clause-written : goal.returns-in-Err-clause-written
returns-in-Err-clause-written g c = nothing_written (report c.args.store.now.journal) (g.W.Sink.held c.args.out.now)
