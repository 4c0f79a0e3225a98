use Rattle.capture_text.proofs.TableLemmas.{fields_named, parts_are, messages_named, names_are, names_differ}
use Rattle.capture_text.proofs.laws.names_fit.Goals as goal

pub returns-clause-fields : goal.returns-clause-fields
returns-clause-fields c = fields_named

pub returns-clause-parts : goal.returns-clause-parts
returns-clause-parts c = parts_are

pub returns-clause-messages : goal.returns-clause-messages
returns-clause-messages c = messages_named

pub returns-clause-own : goal.returns-clause-own
returns-clause-own c = names_are

pub returns-clause-differ : goal.returns-clause-differ
returns-clause-differ c = names_differ
