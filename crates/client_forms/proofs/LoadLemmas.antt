-- What a command that loads wants done.
use Rattle.std.proofs.Common.{◌≡◌, ◌+◌, ℕ, ℤ, false, List, [], ◌∷◌, Option, None, Some, Result, Ok, Err, refl, ap, sym, subst, ◌∙◌}
use Rattle.std.specs.Io.KnownBytes.{IsAtEnd}
use Rattle.channel_store.specs.declared.copy.ChangeMsg.{ChangeMsg}
use Rattle.client_core.specs.State.{State}
use Rattle.client_core.specs.declared.ask.Ask.TheVariants as asked
use Rattle.client_core.specs.declared.got.Got.{Got}
use Rattle.client_core.specs.declared.got.Got.TheVariants as got
use Rattle.etp_outside.specs.declared.status.Status.{Status}
use Rattle.etp_values.specs.declared.point.Point.{Point}
use Rattle.etp_values.specs.declared.uri.StoreUri.{StoreUri}
use Rattle.point_lines.specs.Lines.{HasGiven, Reading, lines_in}
use Rattle.client_forms.specs.Ctl.{Course, Job, Loading, Stage, Opening, Asked, Loaded, ends, goes_by, loads, loads_all, loads_from, loads_last, pings}
use Rattle.client_forms.specs.Filling.{CutsRead, HasLoaded, Holds, IsFresh, IsFull, IsLoad, IsLoading, IsReady, OwesLoad, ReadsFor, StopsRead, WantsLast}
use Rattle.client_forms.specs.Jobs.{HasRead}
use Rattle.client_forms.specs.Loading.{Filled, filled, of_channel, read_lines}
use Rattle.client_forms.specs.Plans.{acts, standing, GivesAction, Plan, PlanStops, Plans, Rests}
use Rattle.client_forms.specs.Texts.{loaded_line}
use Rattle.client_forms.specs.Work.{Fronts, IsCause, Line, Outside, Output, input, outside, place}
use Rattle.client_forms.specs.declared.action.Action.{Action}
use Rattle.client_forms.specs.declared.action.Action.TheVariants as action
use Rattle.client_forms.specs.declared.batch.Batch.{Batch}
use Rattle.client_forms.specs.declared.loading.LoadStage.{LoadStage}
use Rattle.client_forms.specs.declared.loading.LoadStage.TheVariants as at
use Rattle.client_forms.specs.declared.loading.Reader.{Reader}
use Rattle.client_forms.specs.declared.stop.Cause.{Cause}
use Rattle.client_forms.specs.declared.stop.Cause.TheVariants as cause
use Rattle.client_forms.specs.declared.stop.Stop.{Stop}
use Rattle.client_forms.specs.declared.stop.Stop.TheVariants as stop
use Rattle.client_forms.proofs.GrowthLemmas.{loads_grows, pings_if_grows}
use Rattle.client_forms.proofs.LineLemmas.{first_reading}
use Rattle.client_forms.proofs.PlanningLemmas.{given_ask, goes_fronts, plan_alone, plan_ask, plan_given, plan_waits}
use Rattle.client_forms.proofs.WorkLemmas.{fronts_grown}

-- ---- loading changes nothing of a course that has ended

loads_all_ended : (channel : ℤ) (messages : List (List Point)) (st : Status) (c : Course) → loads_all channel messages (ends st c) ≡ ends st c
loads_all_ended channel [] st c = refl
loads_all_ended channel (ps ∷ later) st c = loads_all_ended channel later st c

loads_last_ended : (channel : ℤ) (ps : List Point) (st : Status) (c : Course) → loads_last channel ps (ends st c) ≡ ends st c
loads_last_ended channel [] st c = refl
loads_last_ended channel (p ∷ ps) st c = refl

loads_ended : (channel : ℤ) (o : Option Status) (f : Filled) (st : Status) (c : Course) → loads channel o f (ends st c) ≡ ends st c
loads_ended channel None f st c = ap (λ (d : Course). pings (loads_last channel f.last d)) (loads_all_ended channel f.closed st c) ∙ ap pings (loads_last_ended channel f.last st c)
loads_ended channel (Some other) f st c = ap (λ (d : Course). loads channel (Some other) (record { closed = []; last = [] }) d) (loads_all_ended channel f.closed st c)

ended_is : (st : Status) (c : Course) → c.status ≡ Some st → c ≡ ends st c
ended_is st c h = λ i. record c { status = h i }

-- so what has ended this way stays so
kept_by : (g : Course → Course) → ((st : Status) (c : Course) → g (ends st c) ≡ ends st c) → (st : Status) (c : Course) → c.status ≡ Some st → (g c).status ≡ Some st
kept_by g same st c h = ap (λ (d : Course). (g d).status) (ended_is st c h) ∙ ap (λ (d : Course). d.status) (same st c)

loads_rests : (channel : ℤ) (kind n : ℕ) (held : List Point) (lines : List (List ℕ)) → Rests (loads_from channel kind n held lines)
loads_rests channel kind n held lines =
    let r = read_lines kind n lines in
    let same : (st : Status) (c : Course) → loads_from channel kind n held lines (ends st c) ≡ ends st c = λ st c. loads_ended channel r.refused (filled held r.points) st c in
    record { same = same; kept = kept_by (loads_from channel kind n held lines) same; fronts = λ c. fronts_grown c (loads_from channel kind n held lines c) (loads_grows channel r.refused (filled held r.points) c) }

pings_ended : (st : Status) (c : Course) → pings (ends st c) ≡ ends st c
pings_ended st c = refl

pings_rests : Rests pings
pings_rests = record { same = pings_ended; kept = kept_by pings pings_ended; fronts = λ c. fronts_grown c (pings c) (pings_if_grows c.status c) }

rests_along : (f g : Course → Course) → Rests g → ((c : Course) → f c ≡ g c) → Rests f
rests_along f g h same = record {
  same = λ st c. same (ends st c) ∙ h.same st c;
  kept = λ st c e. ap (λ (d : Course). d.status) (same c) ∙ h.kept st c e;
  fronts = λ c. subst (λ (d : Course). Fronts c [] [] d) (sym (same c)) (h.fronts c);
}

pub reads_rests : (bytes : List ℕ) (left : Option (List ℕ)) (r : Reader) (f : Course → Course) → ReadsFor bytes left r f → Rests f
reads_rests bytes left r f h = rests_along f (loads_from r.batch.channel r.kind (r.count + 1) h.held h.later) (loads_rests r.batch.channel r.kind (r.count + 1) h.held h.later) h.same

-- ---- what is wanted

-- a full message
pub plan_full : (u : StoreUri) (r : Reader) (job : Job) (left : Option (List ℕ)) (bytes : List ℕ) (f : Course → Course) (full : Batch) (a : Action) → job ≡ Loading u (lines_in bytes) → IsFull bytes left r full f → a ≡ action.Ask (asked.Load full.points.items)
    → Plan (OwesLoad u at.Reading r job left) (IsLoad u at.Reading r job left) (HasRead job left) f Asked a
plan_full u r job left bytes f full a job_is h is =
    subst (λ (b : Action). Plan (OwesLoad u at.Reading r job left) (IsLoad u at.Reading r job left) (HasRead job left) f Asked b) (sym is)
    (plan_ask (OwesLoad u at.Reading r job left) (IsLoad u at.Reading r job left) (HasRead job left) f Asked Asked h.rest (asked.Load full.points.items)
    (record { bytes = bytes; job_is = job_is; reads = h.reads }, refl) (reads_rests bytes left r h.rest h.reads) (λ s c. h.same (standing (place s Asked) c)))

pub load_reads : (job : Job) (left : Option (List ℕ)) (u : StoreUri) (lines : List (List ℕ)) → job ≡ Loading u lines → IsAtEnd left → HasRead job left
load_reads job left u lines is end = subst (λ j. HasRead j left) (sym is) end

-- the Ping after all points
pub plan_ping : (u : StoreUri) (r : Reader) (job : Job) (left : Option (List ℕ)) (f : Course → Course) → HasLoaded u r job left → ((c : Course) → f c ≡ pings c)
    → Plan (OwesLoad u at.Loaded r job left) (IsLoad u at.Loaded r job left) (HasRead job left) f Asked (action.Ask asked.Ping)
plan_ping u r job left f h same =
    plan_alone (OwesLoad u at.Loaded r job left) (IsLoad u at.Loaded r job left) (HasRead job left) f Asked Loaded (action.Ask asked.Ping)
    ((h, refl), refl) (h, refl) (load_reads job left u h.lines h.job_is h.end) (λ s c. same (standing (place s Asked) c))

-- the last message, or the Ping
pub plan_last : (held : List Point) (u : StoreUri) (r : Reader) (job : Job) (left : Option (List ℕ)) (f : Course → Course) (a : Action) (now : LoadStage) (channel : ℤ) → HasLoaded u r job left → WantsLast a now channel held
    → ((c : Course) → f c ≡ pings (loads_last channel held c)) → Plan (OwesLoad u now r job left) (IsLoad u now r job left) (HasRead job left) f Asked a
plan_last [] u r job left f a now channel h wants same =
    subst (λ (b : Action). Plan (OwesLoad u now r job left) (IsLoad u now r job left) (HasRead job left) f Asked b) (sym wants.0)
    (subst (λ (v : LoadStage). Plan (OwesLoad u v r job left) (IsLoad u v r job left) (HasRead job left) f Asked (action.Ask asked.Ping)) (sym wants.1) (plan_ping u r job left f h same))
plan_last (p ∷ ps) u r job left f a now channel h wants same =
    subst (λ (b : Action). Plan (OwesLoad u now r job left) (IsLoad u now r job left) (HasRead job left) f Asked b) (sym wants.0)
    (subst (λ (v : LoadStage). Plan (OwesLoad u v r job left) (IsLoad u v r job left) (HasRead job left) f Asked (action.Ask (asked.Load (of_channel channel (p ∷ ps))))) (sym wants.1)
    (plan_ask (OwesLoad u at.Read r job left) (IsLoad u at.Read r job left) (HasRead job left) f Asked Asked pings (asked.Load (of_channel channel (p ∷ ps))) (h, refl, refl) pings_rests (λ s c. same (standing (place s Asked) c))))

-- ---- why it stops

cause_of : (e : Cause) (l : Line) (told : Option (List ℤ)) (o : Output) (a b : Option (List ℕ)) (x y : ℕ) → CutsRead e x y → IsCause e (outside l told o (input a x)) (outside l told o (input b y))
cause_of cause.Link l told o a b x y h = absurd h
cause_of cause.Output l told o a b x y h = absurd h
cause_of cause.Input l told o a b x y h = h
cause_of cause.Memory l told o a b x y h = tt

pub read_stops : (e : Stop) (f : Course → Course) (l : Line) (told : Option (List ℤ)) (o : Output) (a b : Option (List ℕ)) (x y : ℕ) → Rests f → StopsRead e f x y → PlanStops e f Asked (outside l told o (input a x)) (outside l told o (input b y))
read_stops (stop.Over st) f l told o a b x y rests h = (h.0, λ s c. h.1 (standing (place s Asked) c))
read_stops (stop.Short st) f l told o a b x y rests h = absurd h
read_stops (stop.Cut e) f l told o a b x y rests h = (rests.fronts, cause_of e l told o a b x y h)
read_stops stop.Left f l told o a b x y rests h = absurd h

-- ---- the first line

-- the reader of a channel that was not read from
pub first_loading : (u : StoreUri) (r now : Reader) (job : Job) (left : Option (List ℕ)) (channel : ℤ) (kind : ℕ) (h : IsReady u r job left) → now.kind ≡ kind → now.batch.channel ≡ channel → Holds now.batch [] → now.lines ≡ r.lines → now.count ≡ r.count
    → IsLoading u now job left (loads_from channel kind 1 [] (lines_in h.bytes))
first_loading u r now job left channel kind h kind_is channel_is holds lines_is count_is =
    let count : now.count ≡ 0 = count_is ∙ h.fresh.count in
    let start : Reading = record { line = []; ahead = []; over = false } in
    record {
      bytes = h.bytes;
      job_is = h.job_is;
      reads = record {
        held = [];
        later = lines_in h.bytes;
        read = record {
          given = [];
          gave = subst (λ (v : Option (List ℕ)). HasGiven (Some h.bytes) v now.lines []) (sym h.left_is)
              (subst (λ (v : Reading). HasGiven (Some h.bytes) (Some h.bytes) v []) (sym (lines_is ∙ h.fresh.lines)) (first_reading h.bytes));
          all = refl;
          count = sym count;
          holds = holds;
        };
        same = λ c. λ j. loads_from (sym channel_is j) (sym kind_is j) (sym count j + 1) [] (lines_in h.bytes) c;
      };
    }

-- what is wanted by an answer is what is wanted by the reading that it begins
pub plans_refit : (r : Result Action Stop) (owes : Stage → (Course → Course) → Type 0) (stands : Stage → Type 0) (read : Type 0) (f g : Course → Course) (stage : Stage) (x y : Outside) → stage ≡ Asked
    → ((s : State) (c : Course) → g (standing (place s Asked) c) ≡ f (standing (place s Asked) c)) → ((c : Course) → Fronts c [] [] (g c)) → Plans r owes stands read f Asked x y → Plans r owes stands read g stage x y
plans_refit r owes stands read f g stage x y is same fronts h = subst (λ (v : Stage). Plans r owes stands read g v x y) (sym is) (at_asked r h)
  where
    at_asked : (r : Result Action Stop) → Plans r owes stands read f Asked x y → Plans r owes stands read g Asked x y
    at_asked (Ok a) h = record { stage = h.stage; rest = h.rest; there = h.there; rests = h.rests; waits = h.waits; reads = h.reads; same = λ s c. same s c ∙ h.same s c }
    at_asked (Err (stop.Over st)) h = (h.0, λ s c. same s c ∙ h.1 s c)
    at_asked (Err (stop.Short st)) h = absurd h
    at_asked (Err (stop.Cut e)) h = (fronts, h.1)
    at_asked (Err stop.Left) h = absurd h

-- ---- what it knows about where it is

pub opening_is : (u : StoreUri) (now : LoadStage) (r : Reader) (job : Job) (left : Option (List ℕ)) (stage : Stage) → now ≡ at.Opening → IsLoad u now r job left stage → IsReady u r job left × (stage ≡ Opening)
opening_is u now r job left stage is h = subst (λ v. IsLoad u v r job left stage) is h

pub asked_is : (u : StoreUri) (now : LoadStage) (r : Reader) (job : Job) (left : Option (List ℕ)) (stage : Stage) → now ≡ at.Asked → IsLoad u now r job left stage → IsReady u r job left × (stage ≡ Asked)
asked_is u now r job left stage is h = subst (λ v. IsLoad u v r job left stage) is h

pub loaded_is : (u : StoreUri) (now : LoadStage) (r : Reader) (job : Job) (left : Option (List ℕ)) (stage : Stage) → now ≡ at.Loaded → IsLoad u now r job left stage → HasLoaded u r job left × (stage ≡ Loaded)
loaded_is u now r job left stage is h = subst (λ v. IsLoad u v r job left stage) is h

pub reading_is : (u : StoreUri) (now : LoadStage) (r : Reader) (job : Job) (left : Option (List ℕ)) (stage : Stage) (rest : Course → Course) → now ≡ at.Reading → OwesLoad u now r job left stage rest → IsLoading u r job left rest × (stage ≡ Asked)
reading_is u now r job left stage rest is h = subst (λ v. OwesLoad u v r job left stage rest) is h

-- ---- answers that it does not wait for

module _ (shown : ℤ → List ChangeMsg → List ℕ) (u : StoreUri) (lines : List (List ℕ)) where
  idle_opening : (g : Got) → ((x : _) → g ≡ got.Opened x → ⊥) → (c : Course) → goes_by shown (Loading u lines) Opening g c ≡ c
  idle_opening (got.Opened x) n c = absurd (n x refl)
  idle_opening (got.Done id) n c = refl
  idle_opening (got.Object id bytes) n c = refl
  idle_opening (got.Meta id channel kind) n c = refl
  idle_opening (got.Change x) n c = refl
  idle_opening (got.Points id points) n c = refl
  idle_opening (got.Spaces id spaces) n c = refl
  idle_opening (got.Pong t) n c = refl

  idle_asked : (g : Got) → ((id channel kind : _) → g ≡ got.Meta id channel kind → ⊥) → (c : Course) → goes_by shown (Loading u lines) Asked g c ≡ c
  idle_asked (got.Opened x) n c = refl
  idle_asked (got.Done id) n c = refl
  idle_asked (got.Object id bytes) n c = refl
  idle_asked (got.Meta id channel kind) n c = absurd (n id channel kind refl)
  idle_asked (got.Change x) n c = refl
  idle_asked (got.Points id points) n c = refl
  idle_asked (got.Spaces id spaces) n c = refl
  idle_asked (got.Pong t) n c = refl

  idle_loaded : (g : Got) → ((t : _) → g ≡ got.Pong t → ⊥) → (c : Course) → goes_by shown (Loading u lines) Loaded g c ≡ c
  idle_loaded (got.Opened x) n c = refl
  idle_loaded (got.Done id) n c = refl
  idle_loaded (got.Object id bytes) n c = refl
  idle_loaded (got.Meta id channel kind) n c = refl
  idle_loaded (got.Change x) n c = refl
  idle_loaded (got.Points id points) n c = refl
  idle_loaded (got.Spaces id spaces) n c = refl
  idle_loaded (got.Pong t) n c = absurd (n t refl)

module _ (shown : ℤ → List ChangeMsg → List ℕ) (g : Got) (u : StoreUri) (now : LoadStage) (r : Reader) (job : Job) (left : Option (List ℕ)) (stage : Stage) (h : IsLoad u now r job left stage) where
  load_idle : OwesLoad u now r job left stage (λ c. c) → ((c : Course) → goes_by shown job stage g c ≡ c) → Plan (OwesLoad u now r job left) (IsLoad u now r job left) (HasRead job left) (λ c. goes_by shown job c.at.stage g c) stage action.Wait
  load_idle o same = plan_waits (OwesLoad u now r job left) (IsLoad u now r job left) (HasRead job left) (λ c. goes_by shown job c.at.stage g c) stage o h (λ s c. same (standing (place s stage) c))

  pub waits_opening : now ≡ at.Opening → ((x : _) → g ≡ got.Opened x → ⊥) → Plan (OwesLoad u now r job left) (IsLoad u now r job left) (HasRead job left) (λ c. goes_by shown job c.at.stage g c) stage action.Wait
  waits_opening is n =
      let k = opening_is u now r job left stage is h in
      load_idle (subst (λ v. OwesLoad u v r job left stage (λ c. c)) (sym is) (k, refl)) (λ c. (λ i. goes_by shown (k.0.job_is i) (k.1 i) g c) ∙ idle_opening shown u (lines_in k.0.bytes) g n c)

  pub waits_asked : now ≡ at.Asked → ((id channel kind : _) → g ≡ got.Meta id channel kind → ⊥) → Plan (OwesLoad u now r job left) (IsLoad u now r job left) (HasRead job left) (λ c. goes_by shown job c.at.stage g c) stage action.Wait
  waits_asked is n =
      let k = asked_is u now r job left stage is h in
      load_idle (subst (λ v. OwesLoad u v r job left stage (λ c. c)) (sym is) (k, refl)) (λ c. (λ i. goes_by shown (k.0.job_is i) (k.1 i) g c) ∙ idle_asked shown u (lines_in k.0.bytes) g n c)

  pub waits_loaded : now ≡ at.Loaded → ((t : _) → g ≡ got.Pong t → ⊥) → Plan (OwesLoad u now r job left) (IsLoad u now r job left) (HasRead job left) (λ c. goes_by shown job c.at.stage g c) stage action.Wait
  waits_loaded is n =
      let k = loaded_is u now r job left stage is h in
      load_idle (subst (λ v. OwesLoad u v r job left stage (λ c. c)) (sym is) (k, refl)) (λ c. (λ i. goes_by shown (k.0.job_is i) (k.1 i) g c) ∙ idle_loaded shown u k.0.lines g n c)

  -- ---- and those that it waits for

  -- the session is open
  pub load_opened : (a : Result Action Stop) (id : _) (x : Outside) → now ≡ at.Opening → g ≡ got.Opened id → GivesAction a (action.Ask (asked.OpenChannel u)) → Plans a (OwesLoad u at.Asked r job left) (IsLoad u at.Asked r job left) (HasRead job left) (λ c. goes_by shown job c.at.stage g c) stage x x
  load_opened a id x is got_is gives =
      let k = opening_is u now r job left stage is h in
      given_ask a (asked.OpenChannel u) (OwesLoad u at.Asked r job left) (IsLoad u at.Asked r job left) (HasRead job left) (λ c. goes_by shown job c.at.stage g c) stage Asked x x gives ((k.0, refl), refl)
      (λ s c. λ i. goes_by shown (k.0.job_is i) (k.1 i) (got_is i) (standing (place s (k.1 i)) c)) (goes_fronts shown job g)

  -- the points have come
  pub load_done : (a : Result Action Stop) (t : _) (x : Outside) → now ≡ at.Loaded → g ≡ got.Pong t → GivesAction a (action.Report (loaded_line r.count)) → Plans a (OwesLoad u now r job left) (IsLoad u now r job left) (HasRead job left) (λ c. goes_by shown job c.at.stage g c) stage x x
  load_done a t x is got_is gives =
      let k = loaded_is u now r job left stage is h in
      plan_given a (action.Report (loaded_line r.count)) (OwesLoad u now r job left) (IsLoad u now r job left) (HasRead job left) (λ c. goes_by shown job c.at.stage g c) stage stage x gives
      (subst (λ v. OwesLoad u v r job left stage (λ c. c)) (sym is) (k, refl)) h (load_reads job left u k.0.lines k.0.job_is k.0.end)
      (λ s c. (λ i. goes_by shown (k.0.job_is i) (k.1 i) (got_is i) (standing (place s stage) c)) ∙ ap (λ n. acts (action.Report (loaded_line n)) (standing (place s stage) c)) k.0.count) (goes_fronts shown job g)

-- ---- the beginning

pub load_begins : (u v : StoreUri) (now : LoadStage) (r : Reader) (bytes : List ℕ) (left : Option (List ℕ)) → v ≡ u → now ≡ at.Opening → IsFresh r → left ≡ Some bytes → IsLoad v now r (Loading u (lines_in bytes)) left Opening
load_begins u v now r bytes left uri is fresh told =
    let ready : IsReady v r (Loading u (lines_in bytes)) left = record { bytes = bytes; left_is = told; job_is = ap (λ w. Loading w (lines_in bytes)) (sym uri); fresh = fresh } in
    subst (λ n. IsLoad v n r (Loading u (lines_in bytes)) left Opening) (sym is) (ready, refl)
