use Rattle.std.specs.Prelude.{OnOk}
use Rattle.std.proofs.Common.{sym, subst}
use Rattle.avro_bin.specs.Shape.{FitsTree}
use Rattle.msg_core.specs.Core.{core_body}
use Rattle.msg_core.specs.declared.core_messages.CoreMessage.{CoreMessage}
use Rattle.msg_core.proofs.core_messages.CoreMessage.write.Goals as goal

pub returns-in-RequestSession-clause-fits : goal.returns-in-RequestSession-clause-fits
returns-in-RequestSession-clause-fits c = subst (λ (m : CoreMessage). OnOk c.write.result (FitsTree (core_body m).value)) (sym c.in-RequestSession.is) c.write.ensures.fits

pub returns-in-OpenSession-clause-fits : goal.returns-in-OpenSession-clause-fits
returns-in-OpenSession-clause-fits c = subst (λ (m : CoreMessage). OnOk c.write-in-OpenSession.result (FitsTree (core_body m).value)) (sym c.in-OpenSession.is) c.write-in-OpenSession.ensures.fits
