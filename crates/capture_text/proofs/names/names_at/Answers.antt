use Rattle.capture_text.specs.Names.{named, table_names, nothing, names_at}
use Rattle.capture_text.proofs.NameLemmas.{seen_at, unseen_at}
use Rattle.capture_text.proofs.names.names_at.Goals as goal

pub returns-in-Some : goal.returns-in-Some
unfolding names_at
returns-in-Some c = seen_at named c.schema_names.result.now table_names c.args.place c.in-Some.names.now nothing c.schema_names.ensures c.in-Some.ensures.lookup.3.0 c.in-Some.ensures.lookup.1

pub returns-in-None : goal.returns-in-None
unfolding names_at
returns-in-None c = unseen_at named c.schema_names.result.now table_names c.args.place nothing c.schema_names.ensures c.in-None.ensures.lookup.3
