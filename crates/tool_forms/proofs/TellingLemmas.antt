-- What is written of a text, by the status of what came of it.
use Rattle.std.proofs.Common.{◌≡◌, List, ℕ, refl, Option}
use Rattle.std.proofs.KnownBytes.{Keeps-refl}
use Rattle.etp_outside.specs.declared.status.Status.{Status}
use Rattle.etp_outside.specs.declared.status.Status.TheVariants as status
use Rattle.capture_run.specs.Running.{between}
use Rattle.gathered_text.proofs.GoingLemmas.{nothing_written}
use Rattle.gathered_text.specs.Writing.{Writes}
use Rattle.gathered_text.specs.declared.writing.Wrote.{Wrote}
use Rattle.gathered_text.specs.declared.writing.Wrote.TheVariants.{Whole, WriteFault, NoMemory}
use Rattle.tool_forms.specs.Top.{Tells, status_of}

-- the text of which this came was written
pub tells : (text : List ℕ) (wrote : Wrote) (result : Status) (input old new : Option (List ℕ)) → result ≡ status_of wrote → Writes wrote text old new → Tells text result (between input input) (between old new)
tells text wrote result input old new is written = record { end = wrote; status_is = is; written = written; unread = Keeps-refl input }

-- memory ran out before anything was written
pub unwritten : (text : List ℕ) (input held : Option (List ℕ)) → Tells text status.NoMemory (between input input) (between held held)
unwritten text input held = tells text NoMemory status.NoMemory input held held refl (nothing_written text held)

pub no_usage : (wrote : Wrote) (result : Status) → result ≡ status_of wrote → result ≡ status.Usage → ⊥
no_usage Whole result is usage = (cc)
no_usage WriteFault result is usage = (cc)
no_usage NoMemory result is usage = (cc)

pub no_read_fault : (wrote : Wrote) (result : Status) → result ≡ status_of wrote → result ≡ status.ReadFault → ⊥
no_read_fault Whole result is fault = (cc)
no_read_fault WriteFault result is fault = (cc)
no_read_fault NoMemory result is fault = (cc)

-- a write fault came of the text
pub write_fault : (wrote : Wrote) (result : Status) → result ≡ status_of wrote → result ≡ status.WriteFault → wrote ≡ WriteFault
write_fault Whole result is fault = (cc)
write_fault WriteFault result is fault = refl
write_fault NoMemory result is fault = (cc)
