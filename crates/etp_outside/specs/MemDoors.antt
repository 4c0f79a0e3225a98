-- What a listener in memory answers, and how it is afterwards.
use Rattle.std.specs.Prelude.{◌≡◌, ◌+◌, ◌-◌, ◌==◌, ◌++◌, ◌∷◌, ℕ, true, false, List, [], drop, length, map, Some, if◌then◌else◌}
use Rattle.std.specs.List.{slice_get}
use Rattle.std.specs.Option.{option_map}
use Rattle.etp_outside.specs.Calls.{after_call, fails_next, new_script}
use Rattle.etp_outside.specs.Doors.{Back, back_of}
use Rattle.etp_outside.specs.Line.{Line}
use Rattle.etp_outside.specs.MemLinks.{renewed}
use Rattle.etp_outside.specs.Porch.{Porch}
use Rattle.etp_outside.specs.declared.listener.Listened.{Listened}
use Rattle.etp_outside.specs.declared.listener.Listened.TheVariants as Listen
use Rattle.etp_outside.specs.declared.listener.Next.{Next}
use Rattle.etp_outside.specs.declared.listener.Next.TheVariants.{Link, Stop, Failed, NoMemory}
use Rattle.etp_outside.specs.declared.mem_door.Returned.{Returned}

-- the listener before its first call
abbrev pub first_porch : List Line → List ℕ → Porch
first_porch lines fails = record { waiting = lines; back = []; out = 0; stopped = false; script = new_script fails }

-- how many links it has given out
abbrev pub given_by : Porch → ℕ
given_by d = length d.back + d.out

-- what is revealed of a link that came back
abbrev pub told_back : Returned → Back
told_back r = back_of r.number r.end r.link.script.faults r.link.ended (Some r.link.talk)

abbrev pub all_back : List Returned → List Back
all_back rs = map told_back rs

-- listening fails if the call is listed
abbrev pub IsListenAnswer : Porch → Listened → Type 0
IsListenAnswer d Listen.Done = fails_next d.script ≡ false
IsListenAnswer d Listen.Failed = fails_next d.script ≡ true

abbrev pub after_listen : Porch → Listened → Porch
after_listen d Listen.Done = record d { script = after_call d.script false }
after_listen d Listen.Failed = record d { script = after_call d.script true }

-- a call that is not listed gives out the next link in its state before its first call, or stops if none is left
abbrev pub IsNextAnswer : Porch → Next Line → Type 0
IsNextAnswer d (Link l) = (fails_next d.script ≡ false) × (option_map renewed (slice_get d.waiting 0) ≡ Some l)
IsNextAnswer d Stop = (fails_next d.script ≡ false) × (d.waiting ≡ [])
IsNextAnswer d Failed = fails_next d.script ≡ true
IsNextAnswer d NoMemory = ⊥

abbrev pub after_next : Porch → Next Line → Porch
after_next d (Link l) = record d { waiting = drop 1 d.waiting; out = d.out + 1; script = after_call d.script false }
after_next d Stop = record d { stopped = true; script = after_call d.script false }
after_next d Failed = record d { script = after_call d.script true }
after_next d NoMemory = d

-- a link comes back, if one is out
abbrev pub after_back : Porch → Line → ℕ → ℕ → Porch
after_back d link number end = if d.out == 0 then d else record d { back = d.back ++ record { link = link; number = number; end = end } ∷ []; out = d.out - 1 }
