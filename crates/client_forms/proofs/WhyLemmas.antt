-- Why commands stop, whatever the objects outside reveal.
use Rattle.std.proofs.Common.{◌≡◌, ◌≤◌, ℕ, ℤ, Bool, true, false, not, List, [], ◌++◌, Option, Result, Ok, Err, IfErr, arith, refl, ap}
use Rattle.etp_outside.proofs.FaultLemmas.{rose_later}
use Rattle.etp_outside.specs.declared.status.Status.{Status}
use Rattle.etp_outside.specs.declared.status.Status.TheVariants as status
use Rattle.client_forms.specs.Ctl.{Course, Place, breaks, fresh, is_opening, writes}
use Rattle.client_forms.specs.Jobs.{stage_of}
use Rattle.client_forms.specs.Plans.{GivesUp, acts, wanted}
use Rattle.client_forms.specs.Work.{Did, Ends, Input, IsCause, IsOwn, IsWhy, Line, NoLess, Outside, Output, Stops, Why, Works, outside}
use Rattle.client_forms.specs.declared.action.Action.{Action}
use Rattle.client_forms.specs.declared.action.Action.TheVariants as action
use Rattle.client_forms.specs.declared.stop.Cause.{Cause}
use Rattle.client_forms.specs.declared.stop.Cause.TheVariants as cause
use Rattle.client_forms.specs.declared.stop.Stop.{Stop}
use Rattle.client_forms.specs.declared.stop.Stop.TheVariants as stop
use Rattle.client_forms.proofs.OwnLemmas.{AreOwn, asks_own, breaks_own, closes_own, none_own}
use Rattle.client_forms.proofs.WorkLemmas.{no_less}

pub less_not : (x : Outside) → NoLess x x
less_not x = record { line = no_less x.line.faults; output = no_less x.output.faults; input = no_less x.input.faults }

pub less_both : (x y z : Outside) → NoLess x y → NoLess y z → NoLess x z
less_both x y z p q = record { line = omega (arith, p.line, q.line); output = omega (arith, p.output, q.output); input = omega (arith, p.input, q.input) }

did_less : (ms : List ℤ) (ss : List (List ℕ)) (bs : List ℕ) (x y : Outside) → Did ms ss bs x y → NoLess x y
did_less ms ss bs x y d = record { line = d.kept.line; output = d.kept.output; input = d.kept.input }

cause_behind : (e : Cause) (x y z : Outside) → NoLess x y → IsCause e y z → IsCause e x z
cause_behind cause.Link x y z k h = rose_later x.line.faults y.line.faults z.line.faults k.line h
cause_behind cause.Output x y z k h = rose_later x.output.faults y.output.faults z.output.faults k.output h
cause_behind cause.Input x y z k h = rose_later x.input.faults y.input.faults z.input.faults k.input h
cause_behind cause.Memory x y z k h = tt

why_is : (e : Stop) (x y z : Outside) → NoLess x y → IsWhy e y z → IsWhy e x z
why_is (stop.Over st) x y z k h = h
why_is (stop.Short st) x y z k h = h
why_is (stop.Cut e) x y z k h = cause_behind e x y z k h
why_is stop.Left x y z k h = tt

pub stop_later : (e : Stop) (x y z : Outside) → NoLess x y → NoLess y z × IsWhy e y z → NoLess x z × IsWhy e x z
stop_later e x y z k h = (less_both x y z k h.0, why_is e x y z k h.1)

-- a step after another
pub why_later : {A : Type 0} (r : Result A Stop) (x y z : Outside) → NoLess x y → Why r y z → Why r x z
why_later (Ok a) x y z k h = less_both x y z k h
why_later (Err e) x y z k h = stop_later e x y z k h

-- ---- what steps of courses say about it

abbrev pub Owns : (Course → Course) → Type 0
Owns f = (c : Course) → AreOwn c.status → AreOwn (f c).status

ends_own : (f : Course → Course) (st : Status) (p : Place) (x y : Outside) → Owns f → Ends f st p x y → IsOwn st
ends_own f st p x y own h =
    own (record (fresh (h.moments ++ [])) { at = p }) none_own st (ap (λ (d : Course). d.status) (h.course (record (fresh []) { at = p }) [] (record { here = refl; going = refl })))

pub stops_why : (e : Stop) (f : Course → Course) (p : Place) (x y : Outside) → Owns f → Stops e f p x y → NoLess x y × IsWhy e x y
stops_why (stop.Over st) f p x y own h = (did_less h.moments h.messages h.bytes x y h.did, ends_own f st p x y own h)
stops_why (stop.Short st) f p x y own h = (did_less h.0.moments h.0.messages h.0.bytes x y h.0.did, h.0.late)
stops_why (stop.Cut e) f p x y own h = (did_less h.0.moments h.0.messages h.0.bytes x y h.0.did, h.1)
stops_why stop.Left f p x y own h = absurd h

pub works_less : (f : Course → Course) (p q : Place) (x y : Outside) → Works (Ok tt) f p q x y → NoLess x y
works_less f p q x y h = did_less h.moments h.messages h.bytes x y h.did

pub acts_own : (a : Action) → Owns (acts a)
acts_own action.Wait c own = own
acts_own (action.Ask b) c own = asks_own b c own
acts_own (action.Write bytes) c own = own
acts_own (action.Report bytes) c own = closes_own status.Done (writes bytes c) tt own

pub breaks_own_by : (st : Status) → IsOwn st → Owns (breaks st)
breaks_own_by st own c before = breaks_own st c own before

pub shows_own : (bytes : List ℕ) → Owns (λ c. breaks status.Stopped (writes bytes c))
shows_own bytes c before = breaks_own status.Stopped (writes bytes c) tt before

-- ---- what commands say about it

given_up : (e : Stop) (l : Line) (told : Option (List ℤ)) (o : Output) (i j : Input) → GivesUp e i.faults j.faults → IsWhy e (outside l told o i) (outside l told o j)
given_up (stop.Over st) l told o i j h = h
given_up (stop.Short st) l told o i j h = absurd h
given_up (stop.Cut cause.Link) l told o i j h = absurd h
given_up (stop.Cut cause.Output) l told o i j h = absurd h
given_up (stop.Cut cause.Input) l told o i j h = h
given_up (stop.Cut cause.Memory) l told o i j h = tt
given_up stop.Left l told o i j h = absurd h

pub reads_less : (l : Line) (told : Option (List ℤ)) (o : Output) (i j : Input) → i.faults ≤ j.faults → NoLess (outside l told o i) (outside l told o j)
reads_less l told o i j less = record { line = no_less l.faults; output = no_less o.faults; input = less }

pub hears_less : (l m : Line) (told : Option (List ℤ)) (o : Output) (i : Input) → l.faults ≤ m.faults → NoLess (outside l told o i) (outside m told o i)
hears_less l m told o i less = record { line = less; output = no_less o.faults; input = no_less i.faults }

pub ticks_less : (l : Line) (told later : Option (List ℤ)) (o : Output) (i : Input) → NoLess (outside l told o i) (outside l later o i)
ticks_less l told later o i = record { line = no_less l.faults; output = no_less o.faults; input = no_less i.faults }

pub gives_up_why : (e : Stop) (l : Line) (told : Option (List ℤ)) (o : Output) (i j : Input) → i.faults ≤ j.faults → GivesUp e i.faults j.faults → NoLess (outside l told o i) (outside l told o j) × IsWhy e (outside l told o i) (outside l told o j)
gives_up_why e l told o i j less h = (reads_less l told o i j less, given_up e l told o i j h)

-- what is wanted next
pub wants_why : (r : Result Action Stop) (x : Outside) (l : Line) (told : Option (List ℤ)) (o : Output) (i j : Input) → NoLess x (outside l told o i) → i.faults ≤ j.faults → IfErr r (λ e. GivesUp e i.faults j.faults) → Why (wanted r) x (outside l told o j)
wants_why (Ok a) x l told o i j k less h = less_both x (outside l told o i) (outside l told o j) k (reads_less l told o i j less)
wants_why (Err e) x l told o i j k less h = stop_later e x (outside l told o i) (outside l told o j) k (gives_up_why e l told o i j less h)

-- a stage before which the session is open or not
pub opening_is : (b : Bool) → b ≡ is_opening (stage_of (not b))
opening_is true = refl
opening_is false = refl
