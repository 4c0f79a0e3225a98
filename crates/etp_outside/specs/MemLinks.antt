-- What a link in memory answers.
use Rattle.std.specs.Prelude.{◌≡◌, ◌≤◌, ◌++◌, ℕ, Bool, true, false, List, [], length, None, Some}
use Rattle.std.specs.List.{slice_get}
use Rattle.etp_outside.specs.Calls.{fails_next, new_script}
use Rattle.etp_outside.specs.Line.{Line}
use Rattle.etp_outside.specs.Talk.{Talk}
use Rattle.etp_outside.specs.declared.link.Address.{Address}
use Rattle.etp_outside.specs.declared.link.Item.{Item}
use Rattle.etp_outside.specs.declared.link.Item.TheVariants.{Message, Idle}
use Rattle.etp_outside.specs.declared.link.Recv.{Recv}
use Rattle.etp_outside.specs.declared.link.Recv.TheVariants.{Got, Idle as NoneYet, End, Failed, NoMemory}
use Rattle.etp_outside.specs.declared.link.Sent.{Sent}
use Rattle.etp_outside.specs.declared.link.Sent.TheVariants.{Done, Failed as SendFailed, NoMemory as NoRoom}

-- what a link reveals before its first call
abbrev pub first_talk : List Item → Talk
first_talk items = record { coming = items; taken = []; sent = []; to = None }

-- the link before its first call
abbrev pub renewed : Line → Line
renewed l = record { talk = first_talk (l.talk.taken ++ l.talk.coming); ended = false; closed = false; script = new_script l.script.fails }

-- the link before its first call, if it was dialed to this address
abbrev pub dialed_to : Address → Line → Line
dialed_to address l = record {
  talk = record { coming = l.talk.taken ++ l.talk.coming; taken = []; sent = []; to = Some address };
  ended = false;
  closed = false;
  script = new_script l.script.fails;
}

-- the item at an index, as it is received
abbrev pub IsItemAt : List Item → ℕ → Recv → Type 0
IsItemAt items at (Got bytes) = slice_get items at ≡ Some (Message bytes)
IsItemAt items at NoneYet = slice_get items at ≡ Some Idle
IsItemAt items at End = length items ≤ at
IsItemAt items at Failed = ⊥
IsItemAt items at NoMemory = Unit {0}

-- receiving fails if the call is listed, and reports the end if nothing is to come
abbrev pub IsRecvAnswer : Line → Recv → Type 0
IsRecvAnswer l (Got bytes) = fails_next l.script ≡ false
IsRecvAnswer l NoneYet = fails_next l.script ≡ false
IsRecvAnswer l End = (fails_next l.script ≡ false) × (l.talk.coming ≡ [])
IsRecvAnswer l Failed = fails_next l.script ≡ true
IsRecvAnswer l NoMemory = fails_next l.script ≡ false

-- sending fails if the call is listed
abbrev pub IsSendAnswer : Line → Sent → Type 0
IsSendAnswer l Done = fails_next l.script ≡ false
IsSendAnswer l SendFailed = fails_next l.script ≡ true
IsSendAnswer l NoRoom = fails_next l.script ≡ false

-- a call failed
abbrev pub recv_failed : Recv → Bool
recv_failed (Got bytes) = false
recv_failed NoneYet = false
recv_failed End = false
recv_failed Failed = true
recv_failed NoMemory = false

abbrev pub send_failed : Sent → Bool
send_failed Done = false
send_failed SendFailed = true
send_failed NoRoom = false
