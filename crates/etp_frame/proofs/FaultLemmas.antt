-- What is refused for a fault is not refused because memory ran out, for the crates above too.
use Rattle.std.specs.Prelude.{◌≡◌}
use Rattle.std.proofs.Common.{subst}
use Rattle.etp_frame.specs.Joining.{IsJoinFault}
use Rattle.etp_frame.specs.Reading.{IsFault}
use Rattle.etp_frame.specs.declared.error.FrameError.{FrameError}
use Rattle.etp_frame.specs.declared.error.FrameError.TheVariants as frame
use Rattle.etp_frame.specs.declared.joining.JoinError.{JoinError}
use Rattle.etp_frame.specs.declared.joining.JoinError.TheVariants as join

pub fault_not_memory : (e : FrameError) → IsFault e → e ≡ frame.NoMemory → ⊥
fault_not_memory e fault is = subst IsFault is fault

pub join_fault_not_memory : (e : JoinError) → IsJoinFault e → e ≡ join.NoMemory → ⊥
join_fault_not_memory e fault is = subst IsJoinFault is fault
