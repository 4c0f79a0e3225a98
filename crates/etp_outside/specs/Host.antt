-- What opening a file gives.
use Rattle.std.specs.Prelude.{ℕ, ◌≡◌, List}
use Rattle.std.specs.Io.KnownBytes.{Keeps}
use Rattle.std.specs.declared.option.Option.{Option}
use Rattle.etp_outside.specs.Faults.{Rose}
use Rattle.etp_outside.specs.declared.host.Opened.{Opened}
use Rattle.etp_outside.specs.declared.host.Opened.TheVariants.{File, Failed, NoMemory}

-- a newly opened file has not failed, and has left to be read what the host reveals of it
abbrev pub Opens : {S : Type 0} → (S → Option (List ℕ)) → (S → ℕ) → Opened S → Option (List ℕ) → Type 0
Opens left faults (File file) content = Keeps content (left file) × (faults file ≡ 0)
Opens left faults Failed content = Unit {0}
Opens left faults NoMemory content = Unit {0}

-- opening fails only if the host's count rises
abbrev pub OpenCause : {S : Type 0} → Opened S → ℕ → ℕ → Type 0
OpenCause Failed before now = Rose before now
OpenCause (File file) before now = Unit {0}
OpenCause NoMemory before now = Unit {0}
