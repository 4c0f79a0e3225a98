-- What a link shows of an end.
use Rattle.std.proofs.Common.{◌≡◌, ◌≤◌, ℕ, Bool, true, Some, refl}
use Rattle.etp_outside.proofs.FaultLemmas.{rose_later}
use Rattle.etp_outside.specs.Faults.{Rose}
use Rattle.etp_serve.specs.Ends.{HasCause}
use Rattle.etp_serve.specs.declared.ended.Ended.{Ended}
use Rattle.etp_serve.specs.declared.ended.Ended.TheVariants.{Closed, Refused, IdsSpent, PeerEnd, LinkFault, NoMemory}

-- what the link shows of an end, by what the call that gave it says
pub cause_by : (end : Ended) (before mid now : ℕ) (over : Bool) → before ≤ mid → (Some end ≡ Some LinkFault → Rose mid now) → (Some end ≡ Some PeerEnd → over ≡ true) → HasCause end before now over
cause_by Closed before mid now over kept fault peer = tt
cause_by (Refused code) before mid now over kept fault peer = tt
cause_by IdsSpent before mid now over kept fault peer = tt
cause_by PeerEnd before mid now over kept fault peer = peer refl
cause_by LinkFault before mid now over kept fault peer = rose_later before mid now kept (fault refl)
cause_by NoMemory before mid now over kept fault peer = tt
