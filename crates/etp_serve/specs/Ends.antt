-- How the serving of a session ends, and why.
use Rattle.std.specs.Prelude.{◌≡◌, ℕ, Bool, true, false, Some, None}
use Rattle.etp_outside.specs.Faults.{Rose}
use Rattle.session_core.specs.Run.{Course}
use Rattle.session_core.specs.Session.{end_of}
use Rattle.session_core.specs.declared.state.End.{End}
use Rattle.session_core.specs.declared.state.End.TheVariants as end
use Rattle.etp_serve.specs.declared.ended.Ended.{Ended}
use Rattle.etp_serve.specs.declared.ended.Ended.TheVariants.{Closed, Refused, IdsSpent, PeerEnd, LinkFault, NoMemory}

-- the end of the session's own
abbrev pub ended_of : End → Ended
ended_of end.Closed = Closed
ended_of (end.Refused code) = Refused code
ended_of end.IdsSpent = IdsSpent

-- the run ended this way, and each of its calls had a place. If the peer ended the link, the session had not ended; if the link failed, it
-- may have; and if memory ran out, the last call may have no place
abbrev pub EndsAs : Ended → Course → Type 0
EndsAs Closed r = (end_of r.state.phase ≡ Some end.Closed) × (r.short ≡ false)
EndsAs (Refused code) r = (end_of r.state.phase ≡ Some (end.Refused code)) × (r.short ≡ false)
EndsAs IdsSpent r = (end_of r.state.phase ≡ Some end.IdsSpent) × (r.short ≡ false)
EndsAs PeerEnd r = (end_of r.state.phase ≡ None) × (r.short ≡ false)
EndsAs LinkFault r = r.short ≡ false
EndsAs NoMemory r = Unit {0}

-- what the link shows of an end: its count of faults before and after, and whether it has reported that the peer ended it
abbrev pub HasCause : Ended → ℕ → ℕ → Bool → Type 0
HasCause Closed old new ended = Unit {0}
HasCause (Refused code) old new ended = Unit {0}
HasCause IdsSpent old new ended = Unit {0}
HasCause PeerEnd old new ended = ended ≡ true
HasCause LinkFault old new ended = Rose old new
HasCause NoMemory old new ended = Unit {0}
