use Rattle.avro_bin.proofs.StepLemmas.{place_below}
use Rattle.etp_schema.proofs.reader.Reader.place.Goals as goal

pub returns-clause-below : goal.returns-clause-below
returns-clause-below c = place_below c.args.count c.args.self.now.rest.now c.in_ok-x.x c.in_ok-x.rest.now c.in_ok-x.ensures
