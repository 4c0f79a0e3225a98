use Rattle.avro_bin.specs.Schema.{schema}
use Rattle.avro_bin.specs.View.{value_of}
use Rattle.avro_bin.proofs.WrittenLemmas.{plain_spells}
use Rattle.avro_bin.proofs.encoding.encode.Goals as goal

pub returns-in-Ok-clause-spelled : goal.returns-in-Ok-clause-spelled
returns-in-Ok-clause-spelled c = λ h. plain_spells (schema c.args.table.now.nodes.now c.args.id) (value_of c.args.tree.now) h c.in-Ok.ensures.fits
