-- A command that is done has reported, and so has read what it was to read.
use Rattle.std.proofs.Common.{◌≡◌, ℕ, ℤ, List, [], ◌∷◌, ◌++◌, Option, None, Some, Result, Ok, Err, refl, ap, subst, sym, ◌∙◌}
use Rattle.std.proofs.lemmas.Option.{none-some}
use Rattle.etp_outside.specs.declared.status.Status.TheVariants as status
use Rattle.client_core.specs.Asking.{asked}
use Rattle.client_core.specs.State.{State}
use Rattle.client_core.specs.declared.ask.Ask.{Ask}
use Rattle.client_core.specs.declared.got.ClientError.{ClientError}
use Rattle.client_forms.specs.Ctl.{Course, Place, Stage, asks_at, by_ask, fresh}
use Rattle.client_forms.specs.Plans.{acts, wanted, Plans, PlanStops}
use Rattle.client_forms.specs.Work.{Outside, Ends, Stops}
use Rattle.client_forms.specs.declared.action.Action.{Action}
use Rattle.client_forms.specs.declared.action.Action.TheVariants as action
use Rattle.client_forms.specs.declared.stop.Stop.{Stop}
use Rattle.client_forms.specs.declared.stop.Stop.TheVariants as stop

-- ---- the stop of a result

abbrev pub act_err : Stop → Result (Option Action) Stop
act_err e = Err e

pub same_stop : (a b : Stop) → act_err a ≡ act_err b → a ≡ b
same_stop a b e = cc

abbrev pub all_err : Stop → Result (Unit {0}) Stop
all_err e = Err e

pub all_stop : (a b : Stop) → all_err a ≡ all_err b → a ≡ b
all_stop a b e = cc

-- ---- an ask never ends a command well

by_ask_undone : (r : Result ℤ ClientError) (s : State) (c : Course) → c.status ≡ None → (by_ask r s c).status ≡ Some status.Done → ⊥
by_ask_undone (Ok id) s c going e = none-some status.Done (sym going ∙ e)
by_ask_undone (Err x) s c going e = cc

asks_at_undone : (a : Ask) (ms : List ℤ) (c : Course) → c.status ≡ None → (asks_at a ms c).status ≡ Some status.Done → ⊥
asks_at_undone a [] c going e = none-some status.Done (sym going ∙ e)
asks_at_undone a (t ∷ ts) c going e = let s = asked c.at.client a t in by_ask_undone s.result s.state (record c { moments = ts }) going e

-- a course that is there
abbrev there : Place → List ℤ → Course
there p moments = record (fresh moments) { at = p }

-- so only a report does
reads_done : (a : Action) (read : Type 0) (p : Place) (x y : Outside) → ((bytes : List ℕ) → a ≡ action.Report bytes → read) → Ends (acts a) status.Done p x y → read
reads_done action.Wait read p x y reports h = absurd (none-some status.Done (ap (λ (d : Course). d.status) (h.course (there p []) [] (record { here = refl; going = refl }))))
reads_done (action.Ask b) read p x y reports h = absurd (asks_at_undone b (h.moments ++ []) (there p (h.moments ++ [])) refl (ap (λ (d : Course). d.status) (h.course (there p []) [] (record { here = refl; going = refl }))))
reads_done (action.Write b) read p x y reports h = absurd (none-some status.Done (ap (λ (d : Course). d.status) (h.course (there p []) [] (record { here = refl; going = refl }))))
reads_done (action.Report b) read p x y reports h = reports b refl

pub done_reads : (e : Stop) (a : Action) (read : Type 0) (p : Place) (x y : Outside) → e ≡ stop.Over status.Done → ((bytes : List ℕ) → a ≡ action.Report bytes → read) → Stops e (acts a) p x y → read
done_reads e a read p x y is reports h = reads_done a read p x y reports (subst (λ v. Stops v (acts a) p x y) is h)

-- ---- nor does what a command wants

pub plan_undone : (e : Stop) (f : Course → Course) (before : Stage) (x y : Outside) → PlanStops e f before x y → e ≡ stop.Over status.Done → ⊥
plan_undone e f before x y plan is = (subst (λ v. PlanStops v f before x y) is plan).0 refl

pub more_undone : (r : Result Action Stop) (owes : Stage → (Course → Course) → Type 0) (stands : Stage → Type 0) (read : Type 0) (f : Course → Course) (before : Stage) (x y : Outside) → Plans r owes stands read f before x y → wanted r ≡ act_err (stop.Over status.Done) → ⊥
more_undone (Ok a) owes stands read f before x y plan e = cc
more_undone (Err v) owes stands read f before x y plan e = plan_undone v f before x y plan (same_stop v (stop.Over status.Done) e)
