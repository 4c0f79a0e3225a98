-- The commands of the code and those of the definitions.
use Rattle.std.specs.Prelude.{Option, None, Some}
use Rattle.server_forms.specs.Words.{Command}
use Rattle.server_forms.specs.declared.command.Command.{Command as Asked}

abbrev pub as_command : Asked → Command
as_command asked = record { config = asked.config.now; address = asked.address.now; sessions = asked.sessions }

abbrev pub as_option : Option Asked → Option Command
as_option None = None
as_option (Some asked) = Some (as_command asked)
