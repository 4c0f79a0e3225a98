use Rattle.std.proofs.lemmas.Result.{on_ok_weaker}
use Rattle.etp_schema.proofs.PartLemmas.{none_holds, some_holds, on_ok}
use Rattle.etp_schema.proofs.many_on_wire.OptionOnWire.write.Goals as goal

pub returns-in-None-clause-typed : goal.returns-in-None-clause-typed
returns-in-None-clause-typed g c = rw c.in-None.is (on_ok c.put_number.result (none_holds g.T.Typed.form))

pub returns-in-Some-clause-typed : goal.returns-in-Some-clause-typed
returns-in-Some-clause-typed g c = rw c.in-Some.is (on_ok_weaker c.write_some.result (some_holds g.T.Typed.form _) c.write_some.ensures.typed)
