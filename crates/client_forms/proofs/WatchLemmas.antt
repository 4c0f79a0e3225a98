-- Views that were fed the changes of a channel.
use Rattle.std.proofs.Common.{◌≡◌, ◌+◌, ◌==◌, ℕ, ℤ, Bool, true, false, List, [], ◌∷◌, ◌++◌, fold, map, length, if◌then◌else◌, Option, Result, refl, ap, sym, subst, ◌∙◌}
use Rattle.std.specs.Ordering.{int_eq}
use Rattle.std.proofs.lemmas.List.{length-append}
use Rattle.channel_store.specs.declared.copy.ChangeMsg.{ChangeMsg}
use Rattle.client_core.specs.declared.ask.Ask.TheVariants as asked
use Rattle.client_core.specs.declared.got.Got.{Got}
use Rattle.client_core.specs.declared.got.Got.TheVariants as got
use Rattle.etp_outside.specs.declared.status.Status.TheVariants as status
use Rattle.etp_values.specs.declared.uri.StoreUri.{StoreUri}
use Rattle.watch_views.specs.Boards.{AllFed, IsFed as IsFedOnce, Reading, lines_of}
use Rattle.watch_views.specs.Held.{Held}
use Rattle.client_forms.specs.Ctl.{Course, Job, Watching, Stage, Opening, Asked, Watched, closes, comes_to, feeds, from_first, goes_by, writes}
use Rattle.client_forms.specs.Jobs.{HasRead}
use Rattle.client_forms.specs.Plans.{acts, standing, GivesAction, Plan, PlanStops, Plans, Waits}
use Rattle.client_forms.specs.Shown.{Seen, Show, Viewing, WasFed, WereFed, kept, lines_after, seeing, seen, seen_on, steps, view_lines}
use Rattle.client_forms.specs.Watches.{IsFed, IsWatch, IsWatching, StandsAt}
use Rattle.client_forms.specs.Work.{Outside, place}
use Rattle.client_forms.specs.declared.action.Action.{Action}
use Rattle.client_forms.specs.declared.action.Action.TheVariants as action
use Rattle.client_forms.specs.declared.stop.Cause.TheVariants as cause
use Rattle.client_forms.specs.declared.stop.Stop.{Stop}
use Rattle.client_forms.specs.declared.stop.Stop.TheVariants as stop
use Rattle.client_forms.specs.declared.watching.WatchStage.{WatchStage}
use Rattle.client_forms.specs.declared.watching.WatchStage.TheVariants as at
use Rattle.client_forms.proofs.PlanningLemmas.{goes_fronts, plan_alone, plan_given}

fold_last : {A B : Type 0} (f : B → A → B) (b : B) (xs : List A) (x : A) → fold f b (xs ++ x ∷ []) ≡ f (fold f b xs) x
fold_last f b [] x = refl
fold_last f b (y ∷ ys) x = fold_last f (f b y) ys x

module _ {B : Type 0} (r : Reading B) (channel : ℤ) (fed : List ChangeMsg) where
  -- one more change
  one_more : (c : ChangeMsg) (a : Seen) (x y : B) → WasFed channel fed a (seen r x) → IsFedOnce r c x y → WasFed channel (fed ++ c ∷ []) a (seen r y)
  one_more c a x y h k = record {
    channel_is = k.channel_same ∙ h.channel_is;
    held_is = k.held_is ∙ (λ j. if int_eq (h.channel_is j) c.channel then r.step x (h.held_is j) c.what else h.held_is j)
        ∙ ap (λ v. if int_eq channel c.channel then v else kept seeing channel fed a) (h.step_same (kept seeing channel fed a) c.what)
        ∙ sym (fold_last (steps seeing channel a) a.held fed c);
    step_same = λ v w. k.step_same v w ∙ h.step_same v w;
    shown_same = λ v. k.shown_same v ∙ h.shown_same v;
  }

  pub fed_more : (c : ChangeMsg) (first : List Seen) (xs ys : List B) → WereFed channel fed first (seen_on r xs) → AllFed r c xs ys → WereFed channel (fed ++ c ∷ []) first (seen_on r ys)
  fed_more c [] [] [] h k = tt
  fed_more c [] [] (y ∷ ys) h k = absurd k
  fed_more c [] (x ∷ xs) ys h k = absurd h
  fed_more c (a ∷ later) [] ys h k = absurd h
  fed_more c (a ∷ later) (x ∷ xs) [] h k = absurd k
  fed_more c (a ∷ later) (x ∷ xs) (y ∷ ys) h k = (one_more c a x y h.0 k.0, fed_more c later xs ys h.1 k.1)

  -- the lines of the shelves are those of the views after these changes
  pub lines_fed : (first : List Seen) (xs : List B) → WereFed channel fed first (seen_on r xs) → lines_of r xs ≡ lines_after seeing first channel fed
  lines_fed [] [] h = refl
  lines_fed [] (x ∷ xs) h = absurd h
  lines_fed (a ∷ later) [] h = absurd h
  lines_fed (a ∷ later) (x ∷ xs) h =
      let line : r.shown x (r.held x) ≡ view_lines seeing channel fed a = h.0.shown_same (r.held x) ∙ ap a.shown h.0.held_is in
      (λ j. line j ++ lines_fed later xs h.1 j)

-- views that come to a channel were fed nothing of it
pub fed_none : {B : Type 0} (r : Reading B) (turn : B → B) (channel : ℤ) (xs : List B) → ((x : B) → WasFed channel [] (seen r x) (seen r (turn x))) → WereFed channel [] (seen_on r xs) (seen_on r (map turn xs))
fed_none r turn channel [] h = tt
fed_none r turn channel (x ∷ xs) h = (h x, fed_none r turn channel xs h)

-- the board that was fed one more change
pub fed_on : {B : Type 0} (r : Reading B) (shown : ℤ → List ChangeMsg → List ℕ) (channel : ℤ) (fed : List ChangeMsg) (c : ChangeMsg) (count next : ℕ) (xs ys : List B) → next ≡ count + 1 → IsFed shown channel fed count (seen_on r xs) → AllFed r c xs ys
    → IsFed shown channel (fed ++ c ∷ []) next (seen_on r ys)
fed_on r shown channel fed c count next xs ys more h k = record {
  first = h.first;
  shows = h.shows;
  fed_so = fed_more r channel fed c h.first xs ys h.fed_so k;
  count_is = length-append fed (c ∷ []) ∙ ap (λ n. n + 1) h.count_is ∙ sym more;
}

-- ---- the command

fed_acts : (b : Bool) (lines : List ℕ) (channel : ℤ) (fed : List ChangeMsg) (c : Course) → (if b then closes status.Done (writes lines (comes_to (Watched channel fed) c)) else comes_to (Watched channel fed) c) ≡ acts (if b then action.Report lines else action.Wait) (comes_to (Watched channel fed) c)
fed_acts true lines channel fed c = refl
fed_acts false lines channel fed c = refl

-- what a further change results in
pub feeds_acts : (shown : ℤ → List ChangeMsg → List ℕ) (most count : ℕ) (lines : List ℕ) (channel : ℤ) (fed : List ChangeMsg) (c : Course) → lines ≡ shown channel fed → length fed ≡ count
    → feeds shown most channel fed c ≡ acts (if count == most then action.Report lines else action.Wait) (comes_to (Watched channel fed) c)
feeds_acts shown most count lines channel fed c is many =
    fed_acts (length fed == most) (shown channel fed) channel fed c
    ∙ (λ j. acts (if many j == most then action.Report (sym is j) else action.Wait) (comes_to (Watched channel fed) c))

pub watch_reads : (job : Job) (left : Option (List ℕ)) (u : StoreUri) (most : ℕ) → job ≡ Watching u most → HasRead job left
watch_reads job left u most is = subst (λ j. HasRead j left) (sym is) tt

-- ---- what it knows about where it is

pub opening_is : (u : StoreUri) (most : ℕ) (now : WatchStage) (count : ℕ) (views : List Seen) (shown : ℤ → List ChangeMsg → List ℕ) (job : Job) (stage : Stage) → now ≡ at.Opening → IsWatch u most now count views shown job stage
    → (job ≡ Watching u most) × Show shown views × (count ≡ 0) × (stage ≡ Opening)
opening_is u most now count views shown job stage is h = let k = subst (λ v. StandsAt v count views shown stage) is h.1 in (h.0, k.0, k.1, k.2)

pub asked_is : (u : StoreUri) (most : ℕ) (now : WatchStage) (count : ℕ) (views : List Seen) (shown : ℤ → List ChangeMsg → List ℕ) (job : Job) (stage : Stage) → now ≡ at.Asked → IsWatch u most now count views shown job stage
    → (job ≡ Watching u most) × Show shown views × (count ≡ 0) × (stage ≡ Asked)
asked_is u most now count views shown job stage is h = let k = subst (λ v. StandsAt v count views shown stage) is h.1 in (h.0, k.0, k.1, k.2)

pub watched_is : (now : WatchStage) (count : ℕ) (views : List Seen) (shown : ℤ → List ChangeMsg → List ℕ) (stage : Stage) → now ≡ at.Watched → StandsAt now count views shown stage → IsWatching shown count views stage
watched_is now count views shown stage is h = subst (λ v. StandsAt v count views shown stage) is h

-- the lines of the board are those that are to be shown
pub board_shows : {B : Type 0} (r : Reading B) (shown : ℤ → List ChangeMsg → List ℕ) (channel : ℤ) (fed : List ChangeMsg) (count : ℕ) (xs : List B) → IsFed shown channel fed count (seen_on r xs) → lines_of r xs ≡ shown channel fed
board_shows r shown channel fed count xs h = lines_fed r channel fed h.first xs h.fed_so ∙ sym (h.shows channel fed)

-- ---- what it wants

module _ (shown : ℤ → List ChangeMsg → List ℕ) (g : Got) (u : StoreUri) (most : ℕ) (job : Job) (left : Option (List ℕ)) (stage : Stage) (job_is : job ≡ Watching u most) (x y : Outside) where
  -- a watch in this state
  abbrev standing_at : WatchStage → ℕ → List Seen → Stage → Type 0
  standing_at now count views v = IsWatch u most now count views shown job v

  abbrev owing_at : WatchStage → ℕ → List Seen → Stage → (Course → Course) → Type 0
  owing_at now count views v rest = standing_at now count views v × Waits rest

  pub watch_opened : (a : Result Action Stop) (id : _) (count : ℕ) (views : List Seen) → g ≡ got.Opened id → GivesAction a (action.Ask (asked.Meta u)) → stage ≡ Opening → Show shown views → count ≡ 0
      → Plans a (owing_at at.Asked count views) (standing_at at.Asked count views) (HasRead job left) (λ c. goes_by shown job c.at.stage g c) stage x x
  watch_opened a id count views got_is gives stage_is shows none =
      let now : standing_at at.Asked count views Asked = (job_is, (shows, none, refl)) in
      plan_given a (action.Ask (asked.Meta u)) (owing_at at.Asked count views) (standing_at at.Asked count views) (HasRead job left) (λ c. goes_by shown job c.at.stage g c) stage Asked x gives (now, refl) now (watch_reads job left u most job_is)
      (λ s c. λ i. goes_by shown (job_is i) (stage_is i) (got_is i) (standing (place s (stage_is i)) c)) (goes_fronts shown job g)

  pub watch_begins : (a : Action) (id channel : ℤ) (kind : ℕ) (count : ℕ) (first views : List Seen) → g ≡ got.Meta id channel kind → a ≡ action.Ask (asked.Subscribe channel from_first) → stage ≡ Asked → Show shown first → WereFed channel [] first views → count ≡ 0
      → Plan (owing_at at.Watched count views) (standing_at at.Watched count views) (HasRead job left) (λ c. goes_by shown job c.at.stage g c) stage a
  watch_begins a id channel kind count first views got_is is stage_is shows fed none =
      let here : IsWatching shown count views (Watched channel []) = record { channel = channel; fed = []; stage_is = refl; is_fed = record { first = first; shows = shows; fed_so = fed; count_is = sym none } } in
      let now : standing_at at.Watched count views (Watched channel []) = (job_is, here) in
      plan_alone (owing_at at.Watched count views) (standing_at at.Watched count views) (HasRead job left) (λ c. goes_by shown job c.at.stage g c) stage (Watched channel []) a (now, refl) now (watch_reads job left u most job_is)
      (λ s c. (λ i. goes_by shown (job_is i) (stage_is i) (got_is i) (standing (place s (stage_is i)) c)) ∙ ap (λ b. acts b (standing (place s (Watched channel [])) c)) (sym is))

  pub watch_feeds : (a : Result Action Stop) (now : WatchStage) (change : ChangeMsg) (channel : ℤ) (fed : List ChangeMsg) (count : ℕ) (lines : List ℕ) (views : List Seen) → now ≡ at.Watched → g ≡ got.Change change → stage ≡ Watched channel fed
      → IsFed shown channel (fed ++ change ∷ []) count views → lines ≡ shown channel (fed ++ change ∷ []) → GivesAction a (if count == most then action.Report lines else action.Wait)
      → Plans a (owing_at now count views) (standing_at now count views) (HasRead job left) (λ c. goes_by shown job c.at.stage g c) stage x x
  watch_feeds a now change channel fed count lines views is got_is stage_is is_fed lines_are gives =
      let more = fed ++ change ∷ [] in
      let here : IsWatching shown count views (Watched channel more) = record { channel = channel; fed = more; stage_is = refl; is_fed = is_fed } in
      let stands : standing_at now count views (Watched channel more) = (job_is, subst (λ v. StandsAt v count views shown (Watched channel more)) (sym is) here) in
      plan_given a (if count == most then action.Report lines else action.Wait) (owing_at now count views) (standing_at now count views) (HasRead job left) (λ c. goes_by shown job c.at.stage g c) stage (Watched channel more) x gives
      (stands, refl) stands (watch_reads job left u most job_is)
      (λ s c. (λ i. goes_by shown (job_is i) (stage_is i) (got_is i) (standing (place s (stage_is i)) c)) ∙ feeds_acts shown most count lines channel more (standing (place s (Watched channel fed)) c) lines_are is_fed.count_is)
      (goes_fronts shown job g)

  pub watch_fails : (e : Stop) → e ≡ stop.Cut cause.Memory → PlanStops e (λ c. goes_by shown job c.at.stage g c) stage x y
  watch_fails e is = subst (λ v. PlanStops v (λ c. goes_by shown job c.at.stage g c) stage x y) (sym is) (goes_fronts shown job g, tt)

-- ---- the beginning

pub watch_starts : (u v : StoreUri) (most n : ℕ) (now : WatchStage) (count : ℕ) (views : List Seen) (shown : ℤ → List ChangeMsg → List ℕ) → v ≡ u → n ≡ most → now ≡ at.Opening → count ≡ 0 → Show shown views
    → IsWatch v n now count views shown (Watching u most) Opening
watch_starts u v most n now count views shown uri many is none shows =
    (λ j. Watching (sym uri j) (sym many j), subst (λ w. StandsAt w count views shown Opening) (sym is) (shows, none, refl))

-- a board of views, each on a shelf of its own, shows the lines of the views
module _ {V B : Type 0} (v : Viewing V) (r : Reading B) (put : V → B) (held : (x : V) → r.held (put x) ≡ v.held x) (step : (x : V) → r.step (put x) ≡ v.step x) (shown : (x : V) → r.shown (put x) ≡ v.shown x) where
  same_line : (channel : ℤ) (fed : List ChangeMsg) (x : V) → view_lines v channel fed x ≡ view_lines seeing channel fed (seen r (put x))
  same_line channel fed x = λ j. sym (shown x) j (fold (λ (h : Held) (c : ChangeMsg). if int_eq channel c.channel then sym (step x) j h c.what else h) (sym (held x) j) fed)

  same_lines : (channel : ℤ) (fed : List ChangeMsg) (views : List V) → lines_after v views channel fed ≡ lines_after seeing (seen_on r (map put views)) channel fed
  same_lines channel fed [] = refl
  same_lines channel fed (x ∷ xs) = λ j. same_line channel fed x j ++ same_lines channel fed xs j

  pub board_shows_first : (views : List V) → Show (lines_after v views) (seen_on r (map put views))
  board_shows_first views = λ channel fed. same_lines channel fed views
