-- What a message does to a command, by what its client says about it.
use Rattle.std.proofs.Common.{◌≡◌, ◌<◌, ◌+◌, ℕ, ℤ, Bool, true, false, if◌then◌else◌, List, [], ◌∷◌, ◌++◌, Option, None, Some, Result, Ok, Err, fold, length, get_or, take, drop, refl, ap, sym, subst, ◌∙◌}
use Rattle.std.proofs.lemmas.List.{take-append-drop}
use Rattle.std.proofs.lemmas.List.Sums.{fold_more, fold-append}
use Rattle.std.proofs.lemmas.Option.{none-some, same_Some}
use Rattle.channel_store.specs.declared.copy.ChangeMsg.{ChangeMsg}
use Rattle.client_core.specs.State.{State}
use Rattle.client_core.specs.Taking.{FailsBy, takes}
use Rattle.client_core.specs.declared.got.ClientError.{ClientError}
use Rattle.client_core.specs.declared.got.ClientError.TheVariants as error
use Rattle.client_core.specs.declared.got.Got.{Got}
use Rattle.etp_outside.specs.declared.status.Status.{Status}
use Rattle.etp_outside.specs.declared.status.Status.TheVariants as status
use Rattle.client_core.specs.Asking.{asked}
use Rattle.client_core.specs.declared.ask.Ask.TheVariants as ask
use Rattle.client_forms.specs.Ctl.{Course, Job, Place, Stage, by_close, closes, closes_at, ends, fresh, goes_by, goes_on, hears, is_opening, showing, takes_message, unclosed, with_client, writes}
use Rattle.client_forms.specs.Plans.{Rests}
use Rattle.client_forms.specs.Work.{Outside, place, Ends, Stops, Comes, Steps, FailsOn}
use Rattle.client_forms.specs.declared.stop.Cause.TheVariants as cause
use Rattle.client_forms.specs.declared.stop.Stop.{Stop}
use Rattle.client_forms.specs.declared.stop.Stop.TheVariants as stop
use Rattle.client_forms.proofs.BreakingLemmas.{ends_at_once}
use Rattle.client_forms.proofs.ChainLemmas.{goes_goes, goes_stops, stops_later}
use Rattle.client_forms.proofs.CourseLemmas.{set_at}
use Rattle.client_forms.proofs.GrowthLemmas.{ended_stays, goes_on_all_grows, message_grows}
use Rattle.client_forms.proofs.WorkLemmas.{fronts_grown}
use Rattle.client_forms.proofs.RefitLemmas.{Refit, goes_nothing, breaks_at_once, works_refit, stops_refit}

module _ (shown : ℤ → List ChangeMsg → List ℕ) (job : Job) where
  abbrev pub all_of : List Got → Course → Course
  all_of gots c = fold (goes_on shown job) c gots

  -- what a command does with this answer
  abbrev pub on : Got → Course → Course
  on g c = goes_by shown job c.at.stage g c

  abbrev one_of : Got → Course → Course
  one_of g c = goes_on shown job c g

  one_is : (g : Got) (p : Place) → Refit (one_of g) (on g) p p
  one_is g p c = refl

  -- before the first answer
  pub gone_none : (S : Stage → Type 0) (gots : List Got) (stage : Stage) (s : State) (x : Outside) → S stage → Comes S (all_of (take 0 gots)) (place s stage) s x x
  gone_none S gots stage s x there = record { stage = stage; there = there; goes = goes_nothing (place s stage) x }

  take_more : (gots : List Got) (i : ℕ) (g : Got) → i < length gots → g ≡ get_or gots i g → (c : Course) → all_of (take (i + 1) gots) c ≡ one_of g (all_of (take i gots) c)
  take_more gots i g within is c = fold_more (goes_on shown job) c gots i g within ∙ ap (λ v. one_of v (all_of (take i gots) c)) (sym is)

  -- one more
  pub gone_more : (S T : Stage → Type 0) (gots : List Got) (i : ℕ) (g : Got) (stage : Stage) (s t u : State) (x y z : Outside) → i < length gots → g ≡ get_or gots i g → (h : Comes S (all_of (take i gots)) (place s stage) t x y) → Comes T (on g) (place t h.stage) u y z → Comes T (all_of (take (i + 1) gots)) (place s stage) u x z
  gone_more S T gots i g stage s t u x y z within is h k = record {
    stage = k.stage;
    there = k.there;
    goes = works_refit (Ok tt) (all_of (take (i + 1) gots)) (λ c. one_of g (all_of (take i gots) c)) (place s stage) (place s stage) (place u k.stage) x z (λ c. take_more gots i g within is (set_at (place s stage) c))
        (goes_goes (all_of (take i gots)) (one_of g) (place s stage) (place t h.stage) (place u k.stage) x y z h.goes
        (works_refit (Ok tt) (one_of g) (on g) (place t h.stage) (place t h.stage) (place u k.stage) y z (one_is g (place t h.stage)) k.goes));
  }

  rest_kept : (gots : List Got) (st : Status) (c : Course) → c.status ≡ Some st → (all_of gots c).status ≡ Some st
  rest_kept gots st c e =
      let same : ends st c ≡ c = λ i. record c { status = sym e i } in
      ap (λ (d : Course). d.status) (ap (all_of gots) (sym same) ∙ ended_stays shown job st gots c)

  rests : (gots : List Got) → Rests (all_of gots)
  rests gots = record { same = λ st c. ended_stays shown job st gots c; kept = rest_kept gots; fronts = λ c. fronts_grown c (all_of gots c) (goes_on_all_grows shown job gots c) }

  -- one that ends the command, with others after it
  pub gone_last : (S : Stage → Type 0) (e : Stop) (gots : List Got) (i : ℕ) (g : Got) (stage : Stage) (s t : State) (x y z : Outside) → i < length gots → g ≡ get_or gots i g → (h : Comes S (all_of (take i gots)) (place s stage) t x y) → Stops e (on g) (place t h.stage) y z → Stops e (all_of gots) (place s stage) x z
  gone_last S e gots i g stage s t x y z within is h k =
      let p = place s stage in
      let one = stops_refit e (one_of g) (on g) (place t h.stage) (place t h.stage) y z (one_is g (place t h.stage)) k in
      let front = goes_stops e (all_of (take i gots)) (one_of g) p (place t h.stage) x y z h.goes one in
      let rest = drop (i + 1) gots in
      let whole = stops_later e (λ c. one_of g (all_of (take i gots) c)) (all_of rest) p x z (rests rest) front in
      stops_refit e (all_of gots) (λ c. all_of rest (one_of g (all_of (take i gots) c))) p p x z
      (λ c. let d = set_at p c in
      ap (fold (goes_on shown job) d) (sym (take-append-drop (i + 1) gots)) ∙ fold-append (goes_on shown job) d (take (i + 1) gots) rest
      ∙ ap (all_of rest) (take_more gots i g within is d))
      whole

  -- all answers
  pub gone_all : (S : Stage → Type 0) (gots : List Got) (p : Place) (t : State) (x y : Outside) (n : ℕ) → take n gots ≡ gots → Comes S (all_of (take n gots)) p t x y → Comes S (all_of gots) p t x y
  gone_all S gots p t x y n e h = subst (λ (l : List Got). Comes S (all_of l) p t x y) e h

  pub steps_along : (S : Stage → Type 0) (r : Result (Unit {0}) Stop) (xs ys : List Got) (p : Place) (u : State) (x y : Outside) → xs ≡ ys → Steps r S (all_of xs) p u x y → Steps r S (all_of ys) p u x y
  steps_along S r xs ys p u x y e h = subst (λ (l : List Got). Steps r S (all_of l) p u x y) e h

  -- ---- what a client takes

  pub taken_is : (bytes : List ℕ) (s t : State) (stage : Stage) (r : Result (List Got) ClientError) → (takes s bytes).result ≡ r → t ≡ (takes s bytes).state → Refit (takes_message shown job bytes) (hears shown job r) (place s stage) (place t stage)
  taken_is bytes s t stage r is is_t c =
      let d = set_at (place s stage) c in
      ap (λ v. hears shown job v (with_client (takes s bytes).state d)) is ∙ ap (λ v. hears shown job r (with_client v d)) (sym is_t)

  pub comes_by : (S : Stage → Type 0) (bytes : List ℕ) (gots : List Got) (s t u : State) (stage : Stage) (x y : Outside) → (takes s bytes).result ≡ Ok gots → t ≡ (takes s bytes).state → Comes S (all_of gots) (place t stage) u x y → Comes S (takes_message shown job bytes) (place s stage) u x y
  comes_by S bytes gots s t u stage x y is is_t h = record {
    stage = h.stage;
    there = h.there;
    goes = works_refit (Ok tt) (takes_message shown job bytes) (all_of gots) (place s stage) (place t stage) (place u h.stage) x y (taken_is bytes s t stage (Ok gots) is is_t) h.goes;
  }

  pub steps_by : (S : Stage → Type 0) (r : Result (Unit {0}) Stop) (bytes : List ℕ) (gots : List Got) (s t u : State) (stage : Stage) (x y : Outside) → (takes s bytes).result ≡ Ok gots → t ≡ (takes s bytes).state → Steps r S (all_of gots) (place t stage) u x y → Steps r S (takes_message shown job bytes) (place s stage) u x y
  steps_by S (Ok v) bytes gots s t u stage x y is is_t h = comes_by S bytes gots s t u stage x y is is_t h
  steps_by S (Err e) bytes gots s t u stage x y is is_t h = stops_refit e (takes_message shown job bytes) (all_of gots) (place s stage) (place t stage) x y (taken_is bytes s t stage (Ok gots) is is_t) h

  abbrev pub by_error : ClientError → Course → Course
  by_error e c = hears shown job (Err e) c

  fails_by : (e : ClientError) (r : Stop) (bytes : List ℕ) (s t : State) (stage : Stage) (x y : Outside) → (takes s bytes).result ≡ Err e → t ≡ (takes s bytes).state → Stops r (by_error e) (place t stage) x y → Stops r (takes_message shown job bytes) (place s stage) x y
  fails_by e r bytes s t stage x y is is_t h = stops_refit r (takes_message shown job bytes) (by_error e) (place s stage) (place t stage) x y (taken_is bytes s t stage (Err e) is is_t) h

  no_memory : (r : Stop) (bytes : List ℕ) (p : Place) (x y : Outside) → (r ≡ stop.Cut cause.Memory) × (y ≡ x) → Stops r (takes_message shown job bytes) p x y
  no_memory r bytes p x y h =
      subst (λ v. Stops v (takes_message shown job bytes) p x y) (sym h.0) (subst (λ v. Stops (stop.Cut cause.Memory) (takes_message shown job bytes) p x v) (sym h.1) (breaks_at_once (takes_message shown job bytes) p x (message_grows shown job bytes), tt))

  pub stops_by : (e : ClientError) (r : Stop) (bytes : List ℕ) (s t : State) (stage : Stage) (x y : Outside) → FailsBy e (takes s bytes) s t → FailsOn e r by_error (place t stage) x y → Stops r (takes_message shown job bytes) (place s stage) x y
  stops_by error.NoMemory r bytes s t stage x y f h = no_memory r bytes (place s stage) x y h
  stops_by (error.Frame v) r bytes s t stage x y f h = fails_by (error.Frame v) r bytes s t stage x y f.0 f.1 h
  stops_by (error.Id v) r bytes s t stage x y f h = fails_by (error.Id v) r bytes s t stage x y f.0 f.1 h
  stops_by (error.Unasked v) r bytes s t stage x y f h = fails_by (error.Unasked v) r bytes s t stage x y f.0 f.1 h
  stops_by error.State r bytes s t stage x y f h = fails_by error.State r bytes s t stage x y f.0 f.1 h
  stops_by (error.Join v) r bytes s t stage x y f h = fails_by (error.Join v) r bytes s t stage x y f.0 f.1 h
  stops_by (error.Refused v w) r bytes s t stage x y f h = fails_by (error.Refused v w) r bytes s t stage x y f.0 f.1 h
  stops_by (error.Stopped v) r bytes s t stage x y f h = fails_by (error.Stopped v) r bytes s t stage x y f.0 f.1 h

  -- any other refusal ends the command at once
  pub other_fails : (e : ClientError) (p : Place) (x : Outside) → ((id : _) (code : _) → e ≡ error.Refused id code → ⊥) → ((v : _) → e ≡ error.Stopped v → ⊥) → (e ≡ error.NoMemory → ⊥) → FailsOn e (stop.Over status.Peer) by_error p x x
  other_fails error.NoMemory p x n m k = absurd (k refl)
  other_fails (error.Frame v) p x n m k = ends_at_once (by_error (error.Frame v)) status.Peer p x (λ c. refl)
  other_fails (error.Id v) p x n m k = ends_at_once (by_error (error.Id v)) status.Peer p x (λ c. refl)
  other_fails (error.Unasked v) p x n m k = ends_at_once (by_error (error.Unasked v)) status.Peer p x (λ c. refl)
  other_fails error.State p x n m k = ends_at_once (by_error error.State) status.Peer p x (λ c. refl)
  other_fails (error.Join v) p x n m k = ends_at_once (by_error (error.Join v)) status.Peer p x (λ c. refl)
  other_fails (error.Refused v w) p x n m k = absurd (n v w refl)
  other_fails (error.Stopped v) p x n m k = absurd (m v refl)

-- ---- a refusal never leaves a command done

none_done : (st : Status) → (st ≡ status.Done → ⊥) → (u : Option Status) → u ≡ Some st → u ≡ Some status.Done → ⊥
none_done st n u e f = n (same_Some st status.Done (sym e ∙ f))

module _ (st : Status) (n : st ≡ status.Done → ⊥) (m : unclosed st ≡ status.Done → ⊥) where
  by_close_undone : (r : Result ℤ ClientError) (s : State) (c : Course) → (by_close st r s c).status ≡ Some status.Done → ⊥
  by_close_undone (Ok id) s c e = none_done st n (Some st) refl e
  by_close_undone (Err x) s c e = none_done (unclosed st) m (Some (unclosed st)) refl e

  closes_undone : (ms : List ℤ) (c : Course) → c.status ≡ None → (closes_at st ms c).status ≡ Some status.Done → ⊥
  closes_undone [] c going e = none-some status.Done (sym going ∙ e)
  closes_undone (t ∷ ts) c going e = let s = asked c.at.client ask.Close t in by_close_undone s.result s.state (record c { moments = ts }) e

  breaks_undone : (b : Bool) (c : Course) → c.status ≡ None → (if b then ends st c else closes st c).status ≡ Some status.Done → ⊥
  breaks_undone true c going e = none_done st n (Some st) refl e
  breaks_undone false c going e = closes_undone c.moments c going e

module _ (shown : ℤ → List ChangeMsg → List ℕ) (job : Job) where
  by_error_undone : (e : ClientError) (c : Course) → c.status ≡ None → (e ≡ error.NoMemory → ⊥) → (hears shown job (Err e) c).status ≡ Some status.Done → ⊥
  by_error_undone (error.Refused id code) c going k h = breaks_undone (status.Refused code) (λ q. cc) (λ q. cc) (is_opening c.at.stage) c going h
  by_error_undone (error.Stopped reason) c going k h = breaks_undone status.Stopped (λ q. cc) (λ q. cc) (is_opening c.at.stage) (writes (showing shown c.at.stage) c) going h
  by_error_undone (error.Frame v) c going k h = cc
  by_error_undone (error.Id v) c going k h = cc
  by_error_undone (error.Unasked v) c going k h = cc
  by_error_undone error.State c going k h = cc
  by_error_undone (error.Join v) c going k h = cc
  by_error_undone error.NoMemory c going k h = absurd (k refl)

  ends_undone : (e : ClientError) (p : Place) (x y : Outside) → (e ≡ error.NoMemory → ⊥) → Ends (λ c. hears shown job (Err e) c) status.Done p x y → ⊥
  ends_undone e p x y k h =
      let c = record (fresh []) { at = p } in
      by_error_undone e (record c { moments = h.moments ++ [] }) refl k (ap (λ (d : Course). d.status) (h.course c [] (record { here = refl; going = refl })))

  pub undone : (e : ClientError) (r : Stop) (p : Place) (x y : Outside) → FailsOn e r (λ v c. hears shown job (Err v) c) p x y → r ≡ stop.Over status.Done → ⊥
  undone error.NoMemory r p x y h is = cut_over (sym h.0 ∙ is) where
    cut_over : stop.Cut cause.Memory ≡ stop.Over status.Done → ⊥
    cut_over q = cc
  undone (error.Frame v) r p x y h is = ends_undone (error.Frame v) p x y (λ q. cc) (subst (λ t. Stops t (λ c. hears shown job (Err (error.Frame v)) c) p x y) is h)
  undone (error.Id v) r p x y h is = ends_undone (error.Id v) p x y (λ q. cc) (subst (λ t. Stops t (λ c. hears shown job (Err (error.Id v)) c) p x y) is h)
  undone (error.Unasked v) r p x y h is = ends_undone (error.Unasked v) p x y (λ q. cc) (subst (λ t. Stops t (λ c. hears shown job (Err (error.Unasked v)) c) p x y) is h)
  undone error.State r p x y h is = ends_undone error.State p x y (λ q. cc) (subst (λ t. Stops t (λ c. hears shown job (Err error.State) c) p x y) is h)
  undone (error.Join v) r p x y h is = ends_undone (error.Join v) p x y (λ q. cc) (subst (λ t. Stops t (λ c. hears shown job (Err (error.Join v)) c) p x y) is h)
  undone (error.Refused v w) r p x y h is = ends_undone (error.Refused v w) p x y (λ q. cc) (subst (λ t. Stops t (λ c. hears shown job (Err (error.Refused v w)) c) p x y) is h)
  undone (error.Stopped v) r p x y h is = ends_undone (error.Stopped v) p x y (λ q. cc) (subst (λ t. Stops t (λ c. hears shown job (Err (error.Stopped v)) c) p x y) is h)

abbrev stopped_by : Stop → Result (Unit {0}) Stop
stopped_by e = Err e

pub err_same : (a b : Stop) → stopped_by a ≡ stopped_by b → a ≡ b
err_same a b e = cc
