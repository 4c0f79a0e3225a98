-- The forms of the code and those of the definitions.
use Rattle.std.specs.Prelude.{Option, None, Some}
use Rattle.client_words.specs.Words.{Command, Form, Put, Get, Load, Watch, Ping, Spaces, Range, Delete, Follow}
use Rattle.client_words.specs.declared.words.Command.{Command as Asked}
use Rattle.client_words.specs.declared.words.Command.TheVariants as asked
use Rattle.client_words.specs.declared.words.Form.{Form as Asking}

abbrev pub as_command : Asked → Command
as_command (asked.Put uri file) = Put uri file.now
as_command (asked.Get uri) = Get uri
as_command (asked.Load uri) = Load uri
as_command (asked.Watch uri count) = Watch uri count
as_command asked.Ping = Ping
as_command asked.Spaces = Spaces
as_command (asked.Range uri from to) = Range uri from to
as_command (asked.Delete uri) = Delete uri
as_command (asked.Follow uri start) = Follow uri start

abbrev pub as_command_option : Option Asked → Option Command
as_command_option None = None
as_command_option (Some c) = Some (as_command c)

abbrev pub as_form : Asking → Form
as_form f = record { address = f.address; command = as_command f.command }

-- the form, if there is one, as the definitions have it
abbrev pub as_option : Option Asking → Option Form
as_option None = None
as_option (Some f) = Some (as_form f)
