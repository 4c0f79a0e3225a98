use Rattle.etp_values.specs.SameUri.{same_uri, same_uri-equiv}
use Rattle.etp_values.proofs.LookupLemmas.{found_taken}
use Rattle.object_store.proofs.tables.drop_object.Goals as goal

pub returns-clause-each : goal.returns-clause-each
returns-clause-each c = λ q. found_taken same_uri same_uri-equiv c.args.uri.now q _ _ (c.swap_remove.ensures.updates.0 q)
