use Rattle.config_file.proofs.TooLongLemmas.{unread_config}
use Rattle.config_file.proofs.reading.read_config.Goals as goal

pub returns-in-Err-clause-config : goal.returns-in-Err-clause-config
returns-in-Err-clause-config g c = unread_config c.unread_status.result c.in-Err.error _ _ _ c.in-File.ensures.file.0 c.in-Err.ensures.err c.unread_status.ensures
