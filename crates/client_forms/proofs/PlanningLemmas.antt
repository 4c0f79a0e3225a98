-- What commands that wait after each step want done.
use Rattle.std.proofs.Common.{◌≡◌, ℕ, ℤ, List, [], Option, None, Some, Result, Ok, Err, refl, sym, subst}
use Rattle.channel_store.specs.declared.copy.ChangeMsg.{ChangeMsg}
use Rattle.client_core.specs.State.{State}
use Rattle.client_core.specs.declared.ask.Ask.{Ask}
use Rattle.client_core.specs.declared.got.Got.{Got}
use Rattle.etp_values.specs.declared.uri.StoreUri.{StoreUri}
use Rattle.client_forms.specs.Ctl.{Course, Job, Putting, Getting, Stage, goes_by, shows_all}
use Rattle.client_forms.specs.Jobs.{GivesLines, HasRead}
use Rattle.client_forms.specs.Plans.{acts, standing, Rests, Plan, Plans, GivesAction}
use Rattle.client_forms.specs.Work.{Fronts, Outside, place}
use Rattle.client_forms.specs.declared.action.Action.{Action}
use Rattle.client_forms.specs.declared.action.Action.TheVariants as action
use Rattle.etp_outside.specs.declared.status.Status.TheVariants as status
use Rattle.client_forms.specs.declared.stop.Cause.TheVariants as cause
use Rattle.client_forms.specs.declared.stop.Stop.{Stop}
use Rattle.client_forms.specs.declared.stop.Stop.TheVariants as stop
use Rattle.client_forms.proofs.CourseLemmas.{grows_not}
use Rattle.client_forms.proofs.GrowthLemmas.{goes_by_grows}
use Rattle.client_forms.proofs.WorkLemmas.{fronts_grown}

pub idle_rests : Rests (λ c. c)
idle_rests = record { same = λ st c. refl; kept = λ st c e. e; fronts = λ c. fronts_grown c c (grows_not c) }

pub plan_alone : (owes : Stage → (Course → Course) → Type 0) (stands : Stage → Type 0) (read : Type 0) (f : Course → Course) (before stage : Stage) (a : Action) → owes stage (λ c. c) → stands stage → read
    → ((s : State) (c : Course) → f (standing (place s before) c) ≡ acts a (standing (place s stage) c)) → Plan owes stands read f before a
plan_alone owes stands read f before stage a o h d same = record { stage = stage; rest = λ c. c; there = o; rests = idle_rests; waits = λ e. (h, λ c. refl); reads = λ bytes e. d; same = same }

pub plan_given : (r : Result Action Stop) (wanted : Action) (owes : Stage → (Course → Course) → Type 0) (stands : Stage → Type 0) (read : Type 0) (f : Course → Course) (before stage : Stage) (x : Outside) → GivesAction r wanted → owes stage (λ c. c) → stands stage → read
    → ((s : State) (c : Course) → f (standing (place s before) c) ≡ acts wanted (standing (place s stage) c)) → ((c : Course) → Fronts c [] [] (f c)) → Plans r owes stands read f before x x
plan_given (Ok a) wanted owes stands read f before stage x is o h d same fronts = subst (λ v. Plan owes stands read f before v) (sym is) (plan_alone owes stands read f before stage wanted o h d same)
plan_given (Err e) wanted owes stands read f before stage x is o h d same fronts = subst (λ v. Plans (Err v) owes stands read f before x x) (sym is) (fronts, tt)

pub goes_fronts : (shown : ℤ → List ChangeMsg → List ℕ) (job : Job) (g : Got) (c : Course) → Fronts c [] [] (goes_by shown job c.at.stage g c)
goes_fronts shown job g c = fronts_grown c (goes_by shown job c.at.stage g c) (goes_by_grows shown job c.at.stage g c)

pub put_reads : (job : Job) (left : Option (List ℕ)) (u : StoreUri) (b : List ℕ) → job ≡ Putting u b → HasRead job left
put_reads job left u b is = subst (λ j. HasRead j left) (sym is) tt

pub get_reads : (job : Job) (left : Option (List ℕ)) (u : StoreUri) → job ≡ Getting u → HasRead job left
get_reads job left u is = subst (λ j. HasRead j left) (sym is) tt

-- what a job has read is what that job has read
pub reads_as : (job j : Job) (left : Option (List ℕ)) → job ≡ j → HasRead j left → HasRead job left
reads_as job j left is read = subst (λ v. HasRead v left) (sym is) read

limit_done : status.Limit ≡ status.Done → ⊥
limit_done e = cc

-- lines are shown, or the command meets a limit
pub plan_lines : (r : Result Action Stop) (o : Option (List ℕ)) (owes : Stage → (Course → Course) → Type 0) (stands : Stage → Type 0) (read : Type 0) (f : Course → Course) (stage : Stage) (x : Outside) → GivesLines r o → owes stage (λ c. c) → stands stage → read
    → ((s : State) (c : Course) → f (standing (place s stage) c) ≡ shows_all o (standing (place s stage) c)) → ((c : Course) → Fronts c [] [] (f c)) → Plans r owes stands read f stage x x
plan_lines (Ok a) (Some text) owes stands read f stage x gives o h d same fronts = subst (λ v. Plan owes stands read f stage v) (sym gives) (plan_alone owes stands read f stage stage (action.Report text) o h d same)
plan_lines (Ok a) None owes stands read f stage x gives o h d same fronts = absurd gives
plan_lines (Err (stop.Over status.Limit)) None owes stands read f stage x gives o h d same fronts = (limit_done, same)
plan_lines (Err (stop.Cut cause.Memory)) lines owes stands read f stage x gives o h d same fronts = (fronts, tt)
plan_lines (Err e) lines owes stands read f stage x gives o h d same fronts = absurd gives

-- ---- commands that read before they are done

wait_reports : (bytes : List ℕ) → action.Wait ≡ action.Report bytes → ⊥
wait_reports bytes e = cc

pub plan_waits : (owes : Stage → (Course → Course) → Type 0) (stands : Stage → Type 0) (read : Type 0) (f : Course → Course) (stage : Stage) → owes stage (λ c. c) → stands stage
    → ((s : State) (c : Course) → f (standing (place s stage) c) ≡ standing (place s stage) c) → Plan owes stands read f stage action.Wait
plan_waits owes stands read f stage o h same = record { stage = stage; rest = λ c. c; there = o; rests = idle_rests; waits = λ e. (h, λ c. refl); reads = λ bytes e. absurd (wait_reports bytes e); same = same }

ask_waits : (a : Ask) → action.Ask a ≡ action.Wait → ⊥
ask_waits a e = cc

ask_reports : (a : Ask) (bytes : List ℕ) → action.Ask a ≡ action.Report bytes → ⊥
ask_reports a bytes e = cc

-- an ask after which something is left to do
pub plan_ask : (owes : Stage → (Course → Course) → Type 0) (stands : Stage → Type 0) (read : Type 0) (f : Course → Course) (before stage : Stage) (rest : Course → Course) (a : Ask) → owes stage rest → Rests rest
    → ((s : State) (c : Course) → f (standing (place s before) c) ≡ rest (acts (action.Ask a) (standing (place s stage) c))) → Plan owes stands read f before (action.Ask a)
plan_ask owes stands read f before stage rest a there rests same = record { stage = stage; rest = rest; there = there; rests = rests; waits = λ e. absurd (ask_waits a e); reads = λ bytes e. absurd (ask_reports a bytes e); same = same }

-- the same if making it may run out of memory, and the command then waits
pub given_ask : (r : Result Action Stop) (a : Ask) (owes : Stage → (Course → Course) → Type 0) (stands : Stage → Type 0) (read : Type 0) (f : Course → Course) (before stage : Stage) (x y : Outside) → GivesAction r (action.Ask a) → owes stage (λ c. c)
    → ((s : State) (c : Course) → f (standing (place s before) c) ≡ acts (action.Ask a) (standing (place s stage) c)) → ((c : Course) → Fronts c [] [] (f c)) → Plans r owes stands read f before x y
given_ask (Ok b) a owes stands read f before stage x y is o same fronts = subst (λ v. Plan owes stands read f before v) (sym is) (plan_ask owes stands read f before stage (λ c. c) a o idle_rests same)
given_ask (Err e) a owes stands read f before stage x y is o same fronts = subst (λ v. Plans (Err v) owes stands read f before x y) (sym is) (fronts, tt)
