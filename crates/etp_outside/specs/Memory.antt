-- What the implementations in memory answer, and how they are afterwards.
use Rattle.std.specs.Prelude.{ℕ, ◌≡◌, ◌+◌, ◌-◌, ◌^◌, ◌<◌, ◌≤◌, ◌⊎◌, min, Bool, true, false, List, [], ◌∷◌, length, drop, None, Some, IsSome, nat_lt, ◌==◌, if◌then◌else◌}
use Rattle.std.specs.declared.option.Option.{Option}
use Rattle.std.specs.Option.{option_map}
use Rattle.std.specs.Str.{bytes_eq}
use Rattle.etp_outside.specs.Faults.{next_count}
use Rattle.etp_outside.specs.Calls.{new_script, fails_next, after_call}
use Rattle.etp_outside.specs.Input.{Input}
use Rattle.etp_outside.specs.Output.{Output}
use Rattle.etp_outside.specs.Folder.{Folder}
use Rattle.etp_outside.specs.declared.mem_host.MemFile.{MemFile}
use Rattle.etp_outside.specs.declared.source.ReadOutcome.{ReadOutcome}
use Rattle.etp_outside.specs.declared.source.ReadOutcome.TheVariants as Read
use Rattle.etp_outside.specs.declared.sink.WriteOutcome.{WriteOutcome}
use Rattle.etp_outside.specs.declared.sink.WriteOutcome.TheVariants as Wrote
use Rattle.etp_outside.specs.declared.host.Opened.{Opened}
use Rattle.etp_outside.specs.declared.host.Opened.TheVariants as Open

-- how many bytes a read that does not fail puts into a buffer of this size
abbrev pub read_count : Input → ℕ → ℕ
read_count s room = min (min room s.most) (length s.left)

-- the answer of the next read
abbrev pub read_answer : Input → ℕ → ReadOutcome
read_answer s room = if fails_next s.script then Read.Failed else (if length s.left == 0 then Read.End else Read.Got (read_count s room))

-- after the next read
abbrev pub after_read : Input → ℕ → Input
after_read s room = record {
  left = (if fails_next s.script then s.left else drop (read_count s room) s.left);
  most = s.most;
  script = after_call s.script (fails_next s.script);
}

-- a write of this many bytes fails if the call is listed, or if they don't fit and memory runs out
abbrev pub IsWriteAnswer : Output → ℕ → WriteOutcome → Type 0
IsWriteAnswer s len (Wrote.Took n) = (fails_next s.script ≡ false) × (n ≡ min len s.most)
IsWriteAnswer s len Wrote.Failed = (fails_next s.script ≡ true) ⊎ (s.room < length s.held + min len s.most)

-- a write failed
abbrev pub is_failed : WriteOutcome → Bool
is_failed (Wrote.Took n) = false
is_failed Wrote.Failed = true

-- what a write leaves apart from the bytes that are held
pub record AfterWrite (old : Output) (answer : WriteOutcome) (new : Output) : Type 0 where
  pub room : old.room ≤ new.room
  pub most : new.most ≡ old.most
  pub script : new.script ≡ after_call old.script (is_failed answer)

-- the first file of a name
abbrev pub find_file : List MemFile → List ℕ → Option MemFile
find_file [] name = None
find_file (f ∷ fs) name = if bytes_eq f.name name then Some f else find_file fs name

-- what a file contains
abbrev pub file_content : MemFile → List ℕ
file_content f = f.content

-- a file as it is opened
abbrev pub opened_file : MemFile → Input
opened_file f = record { left = f.content; most = 2 ^ 64 - 1; script = new_script f.fails }

-- opening fails if the call is listed or no file has the name, and otherwise gives the first file of that name
abbrev pub IsOpenAnswer : Folder → List ℕ → Opened Input → Type 0
IsOpenAnswer h name (Open.File s) = (fails_next h.script ≡ false) × (option_map opened_file (find_file h.files name) ≡ Some s)
IsOpenAnswer h name Open.Failed = (fails_next h.script ≡ true) ⊎ (find_file h.files name ≡ None)
IsOpenAnswer h name Open.NoMemory = (fails_next h.script ≡ false) × IsSome (find_file h.files name)

-- an opening failed
abbrev pub has_failed : Opened Input → Bool
has_failed (Open.File s) = false
has_failed Open.Failed = true
has_failed Open.NoMemory = false

-- after an opening
abbrev pub after_open : Folder → Opened Input → Folder
after_open h answer = record { files = h.files; script = after_call h.script (has_failed answer) }

-- after a file was taken back
abbrev pub after_close : Folder → Input → Folder
after_close h file = record {
  files = h.files;
  script = record { fails = h.script.fails; made = h.script.made; faults = (if nat_lt 0 file.script.faults then next_count h.script.faults else h.script.faults) };
}
