use Rattle.toml.specs.View.{table_view}
use Rattle.chan_defs.proofs.ReadingLemmas.{instance_refused}
use Rattle.chan_defs.proofs.keys.instance.Goals as goal

pub returns-in-Err : goal.returns-in-Err
returns-in-Err c = instance_refused (table_view c.args.table.now) c.in-Some.found.now c.in-Some.ensures c.in-Err.ensures.ok.1
