-- The commands of the code and those of the definitions.
use Rattle.std.specs.Prelude.{Option, None, Some}
use Rattle.tool_forms.specs.Words.{Command, Replay, Show, Check, Capture, Generate}
use Rattle.tool_forms.specs.declared.command.Command.{Command as Asked}
use Rattle.tool_forms.specs.declared.command.Command.TheVariants as asked

abbrev pub as_command : Asked → Command
as_command (asked.Replay name) = Replay name.now
as_command asked.Show = Show
as_command asked.Check = Check
as_command (asked.Capture size) = Capture size
as_command (asked.Generate size) = Generate size

-- the command, if there is one, as the definitions have it
abbrev pub as_option : Option Asked → Option Command
as_option None = None
as_option (Some asked) = Some (as_command asked)
