-- What comes of reading a configuration.
use Rattle.std.specs.Prelude.{◌≡◌, ℕ, List, Option, IfSome, Result, Ok, Err}
use Rattle.chan_defs.specs.Config.{defs}
use Rattle.server_config.specs.declared.config.Config.{Config as Settings}
use Rattle.chan_defs.specs.declared.error.DefsError.{DefsError}
use Rattle.chan_defs.specs.declared.error.DefsError.TheVariants as defs_error
use Rattle.etp_outside.specs.declared.whole.Unread.{Unread}
use Rattle.etp_outside.specs.declared.whole.Unread.TheVariants as unread
use Rattle.etp_outside.specs.declared.status.Status.{Status}
use Rattle.etp_outside.specs.declared.status.Status.TheVariants.{Config, ReadFault, NoMemory}

-- the status of a configuration that is refused
abbrev pub refusal_status : DefsError → Status
refusal_status defs_error.TooLong = Config 1 0 0
refusal_status defs_error.Toml = Config 2 0 0
refusal_status (defs_error.Key channel key) = Config 3 channel key
refusal_status defs_error.TooMany = Config 4 0 0
refusal_status (defs_error.Uri channel) = Config 5 channel 0
refusal_status (defs_error.Kind channel) = Config 6 channel 0
refusal_status (defs_error.DoubleUri channel) = Config 7 channel 0
refusal_status defs_error.NoMemory = NoMemory

-- the status of a configuration that was not read whole
abbrev pub unread_status : Unread → Status
unread_status unread.TooLong = refusal_status defs_error.TooLong
unread_status unread.Failed = ReadFault
unread_status unread.NoMemory = NoMemory

-- the bytes of a configuration are refused with this status
abbrev pub Refuses : Status → List ℕ → Type 0
Refuses status bytes = (e : DefsError) × (defs bytes ≡ Err e) × (refusal_status e ≡ status)

-- why no run was begun: the configuration is refused, if its file is revealed, or it was not read
abbrev pub IsNoConfig : Status → Option (List ℕ) → Type 0
IsNoConfig (Config cause channel key) content = IfSome content (Refuses (Config cause channel key))
IsNoConfig ReadFault content = Unit {0}
IsNoConfig NoMemory content = Unit {0}
IsNoConfig status content = ⊥

-- the configuration in a file, or why there is none
abbrev pub IsConfig : Result Settings Status → Option (List ℕ) → Type 0
IsConfig (Ok config) content = IfSome content (λ bytes. defs bytes ≡ Ok config)
IsConfig (Err status) content = IsNoConfig status content
