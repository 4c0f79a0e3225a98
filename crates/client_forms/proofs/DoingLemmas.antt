-- Doing what commands want done, one action after another.
use Rattle.std.proofs.Common.{◌≡◌, ◌≤◌, ℕ, ℤ, List, [], ◌++◌, Option, Some, Result, Ok, Err, refl, sym, subst, ap, ◌∙◌, append_assoc}
use Rattle.std.proofs.lemmas.List.{append-nil}
use mathlib.Core.List.{IsPrefix}
use Rattle.etp_values.proofs.PrefixLemmas.{prefix_trans}
use Rattle.etp_outside.specs.declared.status.Status.{Status}
use Rattle.client_core.specs.State.{State}
use Rattle.client_forms.specs.Ctl.{Course, Place, Stage, ends}
use Rattle.client_forms.specs.Plans.{acts, standing, wanted, ActsOn, Plan, Plans, PlanStops, Doing}
use Rattle.client_forms.specs.Work.{Line, Output, Input, Outside, outside, place, Did, IsAt, moved, Goes, Ends, Fronts, Breaks, Cuts, Stops}
use Rattle.client_forms.specs.declared.stop.Stop.{Stop}
use Rattle.client_forms.specs.declared.stop.Stop.TheVariants as stop
use Rattle.client_forms.specs.declared.action.Action.TheVariants as action
use Rattle.client_forms.specs.declared.action.Action.{Action}
use Rattle.client_forms.proofs.CourseLemmas.{Grows, at_path, set_at, stepped, nothing_moved, grows_not, asks_grows, report_grows, writes_grows}
use Rattle.client_forms.proofs.RefitLemmas.{did_nothing}
use Rattle.etp_outside.specs.declared.status.Status.TheVariants as status
use Rattle.std.proofs.KnownBytes.{Appends-nil}
use Rattle.etp_outside.proofs.ToldLemmas.{told_self}
use Rattle.client_forms.proofs.SendLemmas.{quiet}
use Rattle.client_forms.proofs.WorkLemmas.{no_less}
use Rattle.client_forms.proofs.ChainLemmas.{did_both, is_at_moved, moved_twice, fronts_moved, failed_later, cause_later, stops_later}

-- a course that moved by nothing
moved_none : (c : Course) (p q : Place) (later : List ℤ) → IsAt p c → standing q (record c { moments = later }) ≡ moved c q later [] []
moved_none c p q later here = (λ i. record c { at = q; moments = later; status = sym here.going i }) ∙ nothing_moved c q later

-- the beginning
pub first_doing : (owes : Stage → (Course → Course) → Type 0) (stands : Stage → Type 0) (read : Type 0) (f : Course → Course) (before : Stage) (s : State) (a : Action) (x y : Outside) → Did [] [] [] x y → Plan owes stands read f before a → Doing owes stands read f (place s before) s a x y
first_doing owes stands read f before s a x y did p = record {
  stage = p.stage;
  rest = p.rest;
  there = p.there;
  rests = p.rests;
  waits = p.waits;
  reads = p.reads;
  moments = [];
  messages = [];
  bytes = [];
  did = did;
  course = λ c later here.
      ap f (at_path (place s before) (record c { moments = later }) (record { here = here.here; going = here.going }))
      ∙ p.same s (record c { moments = later }) ∙ ap (λ d. p.rest (acts a d)) (moved_none c (place s before) (place s p.stage) later here);
}

-- one action was done, and the next one is wanted
pub next_doing : (owes1 owes2 : Stage → (Course → Course) → Type 0) (stands1 stands2 : Stage → Type 0) (read1 read2 : Type 0) (f : Course → Course) (p : Place) (s t : State) (a b : Action) (x y z w : Outside)
    → (h : Doing owes1 stands1 read1 f p s a x y) → Goes (acts a) (place s h.stage) (place t h.stage) y z → Did [] [] [] z w → Plan owes2 stands2 read2 h.rest h.stage b → Doing owes2 stands2 read2 f p t b x w
next_doing owes1 owes2 stands1 stands2 read1 read2 f p s t a b x y z w h k quiet plan = record {
  stage = plan.stage;
  rest = plan.rest;
  there = plan.there;
  rests = plan.rests;
  waits = plan.waits;
  reads = plan.reads;
  moments = h.moments ++ k.moments;
  messages = h.messages ++ k.messages;
  bytes = h.bytes ++ k.bytes;
  did = did_then_quiet;
  course = λ c later here.
      let mid = k.moments ++ later in
      let d = moved c (place s h.stage) mid h.messages h.bytes in
      let e = moved c (place t h.stage) later (h.messages ++ k.messages) (h.bytes ++ k.bytes) in
      let at_s : IsAt (place s h.stage) (moved c (place s h.stage) later h.messages h.bytes) = is_at_moved p (place s h.stage) c later h.messages h.bytes here in
      ap (λ ms. f (record c { moments = ms })) (append_assoc h.moments k.moments later) ∙ h.course c mid here
      ∙ ap h.rest (k.course (moved c (place s h.stage) later h.messages h.bytes) later at_s ∙ moved_twice c (place s h.stage) (place t h.stage) later later h.messages k.messages h.bytes k.bytes)
      ∙ ap h.rest (at_path (place t h.stage) e (record { here = refl; going = here.going })) ∙ plan.same t e
      ∙ ap (λ v. plan.rest (acts b v)) (sym (at_path (place t plan.stage) (record e { at = place t plan.stage }) (record { here = refl; going = here.going })));
} where
  no_more : {A : Type 0} (l : List A) → l ++ [] ≡ l
  no_more l = append-nil l

  did_then_quiet : Did (h.moments ++ k.moments) (h.messages ++ k.messages) (h.bytes ++ k.bytes) x w
  did_then_quiet =
      subst (λ v. Did v (h.messages ++ k.messages) (h.bytes ++ k.bytes) x w) (no_more (h.moments ++ k.moments))
      (subst (λ v. Did ((h.moments ++ k.moments) ++ []) v (h.bytes ++ k.bytes) x w) (no_more (h.messages ++ k.messages))
      (subst (λ v. Did ((h.moments ++ k.moments) ++ []) ((h.messages ++ k.messages) ++ []) v x w) (no_more (h.bytes ++ k.bytes))
      (did_both (h.moments ++ k.moments) [] (h.messages ++ k.messages) [] (h.bytes ++ k.bytes) [] x z w (did_both h.moments k.moments h.messages k.messages h.bytes k.bytes x y z h.did k.did) quiet)))

-- ---- a step that leads into another, which ends the command

record Leads (f k : Course → Course) (p q : Place) (x y : Outside) : Type 0 where
  pub moments : List ℤ
  pub messages : List (List ℕ)
  pub bytes : List ℕ
  pub did : Did moments messages bytes x y
  pub course : (c : Course) (later : List ℤ) → IsAt p c → f (record c { moments = moments ++ later }) ≡ k (moved c q later messages bytes)

leads_ends : (f k : Course → Course) (st : Status) (p q : Place) (x y z : Outside) → Leads f k p q x y → Ends k st q y z → Ends f st p x z
leads_ends f k st p q x y z h e = record {
  moments = h.moments ++ e.moments;
  messages = h.messages ++ e.messages;
  bytes = h.bytes ++ e.bytes;
  left = e.left;
  did = did_both h.moments e.moments h.messages e.messages h.bytes e.bytes x y z h.did e.did;
  course = λ c later here.
      let mid = e.moments ++ later in
      ap (λ ms. f (record c { moments = ms })) (append_assoc h.moments e.moments later) ∙ h.course c mid here
      ∙ e.course (moved c q mid h.messages h.bytes) later (is_at_moved p q c mid h.messages h.bytes here)
      ∙ ap (ends st) (moved_twice c q e.left mid later h.messages e.messages h.bytes e.bytes);
}

leads_fronts : (f k : Course → Course) (p q : Place) (x y : Outside) (h : Leads f k p q x y) (ms : List ℤ) (ss : List (List ℕ)) (bs : List ℕ) → ((c : Course) → IsAt q c → Fronts c ss bs (k (record c { moments = ms }))) → (c : Course) → IsAt p c → Fronts c (h.messages ++ ss) (h.bytes ++ bs) (f (record c { moments = h.moments ++ ms }))
leads_fronts f k p q x y h ms ss bs fronts c here =
    let d = moved c q ms h.messages h.bytes in
    subst (λ (r : Course). Fronts c (h.messages ++ ss) (h.bytes ++ bs) r) (sym (h.course c ms here))
    (fronts_moved c q ms h.messages ss h.bytes bs (k d) (fronts d (is_at_moved p q c ms h.messages h.bytes here)))

leads_breaks : (f k : Course → Course) (p q : Place) (x y z : Outside) → Leads f k p q x y → Breaks k q y z → Breaks f p x z
leads_breaks f k p q x y z h e = record {
  moments = h.moments ++ e.moments;
  messages = h.messages ++ e.messages;
  bytes = h.bytes ++ e.bytes;
  did = did_both h.moments e.moments h.messages e.messages h.bytes e.bytes x y z h.did e.did;
  course = leads_fronts f k p q x y h e.moments e.messages e.bytes e.course;
}

leads_cuts : (f k : Course → Course) (st : Status) (p q : Place) (x y z : Outside) → Leads f k p q x y → Cuts k st q y z → Cuts f st p x z
leads_cuts f k st p q x y z h e = record {
  moments = h.moments ++ e.moments;
  messages = h.messages ++ e.messages;
  bytes = h.bytes ++ e.bytes;
  did = did_both h.moments e.moments h.messages e.messages h.bytes e.bytes x y z h.did e.did;
  course = leads_fronts f k p q x y h e.moments e.messages e.bytes e.course;
  end = λ c here. subst (λ (r : Course). r.status ≡ Some st) (sym (h.course c e.moments here)) (e.end (moved c q e.moments h.messages h.bytes) (is_at_moved p q c e.moments h.messages h.bytes here));
  late = e.late;
}

leads_stops : (e : Stop) (f k : Course → Course) (p q : Place) (x y z : Outside) → Leads f k p q x y → Stops e k q y z → Stops e f p x z
leads_stops (stop.Over st) f k p q x y z h e = leads_ends f k st p q x y z h e
leads_stops (stop.Short st) f k p q x y z h e = (leads_cuts f k st p q x y z h e.0, failed_later x y z h.did.kept e.1)
leads_stops (stop.Cut why) f k p q x y z h e = (leads_breaks f k p q x y z h e.0, cause_later why x y z h.did.kept e.1)
leads_stops stop.Left f k p q x y z h e = absurd e

module _ (owes : Stage → (Course → Course) → Type 0) (stands : Stage → Type 0) (read : Type 0) (f : Course → Course) (p : Place) (s : State) (a : Action) (x y : Outside) (h : Doing owes stands read f p s a x y) where
  -- the action ended the command
  pub act_stops : (e : Stop) (z : Outside) → Stops e (acts a) (place s h.stage) y z → Stops e f p x z
  act_stops e z k =
      leads_stops e f (λ c. h.rest (acts a c)) p (place s h.stage) x y z (record { moments = h.moments; messages = h.messages; bytes = h.bytes; did = h.did; course = h.course })
      (stops_later e (acts a) h.rest (place s h.stage) y z h.rests k)

-- ---- the next action, or none

done_leads : (owes : Stage → (Course → Course) → Type 0) (stands : Stage → Type 0) (read : Type 0) (f : Course → Course) (p : Place) (s t : State) (a : Action) (x y z : Outside) → (h : Doing owes stands read f p s a x y) → Goes (acts a) (place s h.stage) (place t h.stage) y z → Leads f h.rest p (place t h.stage) x z
done_leads owes stands read f p s t a x y z h k = record {
  moments = h.moments ++ k.moments;
  messages = h.messages ++ k.messages;
  bytes = h.bytes ++ k.bytes;
  did = did_both h.moments k.moments h.messages k.messages h.bytes k.bytes x y z h.did k.did;
  course = λ c later here.
      let at_s : IsAt (place s h.stage) (moved c (place s h.stage) later h.messages h.bytes) = is_at_moved p (place s h.stage) c later h.messages h.bytes here in
      ap (λ ms. f (record c { moments = ms })) (append_assoc h.moments k.moments later) ∙ h.course c (k.moments ++ later) here
      ∙ ap h.rest (k.course (moved c (place s h.stage) later h.messages h.bytes) later at_s ∙ moved_twice c (place s h.stage) (place t h.stage) later later h.messages k.messages h.bytes k.bytes);
}

rest_ends : (rest : Course → Course) (st : Status) (q : Place) (z w : Outside) → Did [] [] [] z w → ((c : Course) → rest (standing q c) ≡ ends st (standing q c)) → Ends rest st q z w
rest_ends rest st q z w quiet same = record {
  moments = [];
  messages = [];
  bytes = [];
  left = q;
  did = quiet;
  course = stepped rest q q [] [] [] (ends st) (λ c later. same (record c { moments = later }) ∙ ap (ends st) (nothing_moved (set_at q c) q later));
}

rest_breaks : (rest : Course → Course) (q : Place) (z w : Outside) → Did [] [] [] z w → ((c : Course) → Fronts c [] [] (rest c)) → Breaks rest q z w
rest_breaks rest q z w quiet fronts = record {
  moments = [];
  messages = [];
  bytes = [];
  did = quiet;
  course = λ c here. let f = fronts (record c { moments = [] }) in record { sent = f.sent; written = f.written };
}

pub more_acts : (r : Result Action Stop) (owes1 owes2 : Stage → (Course → Course) → Type 0) (stands1 stands2 : Stage → Type 0) (read1 read2 : Type 0) (f : Course → Course) (p : Place) (s t : State) (a : Action) (x y z w : Outside)
    → (h : Doing owes1 stands1 read1 f p s a x y) → Goes (acts a) (place s h.stage) (place t h.stage) y z → Did [] [] [] z w → Plans r owes2 stands2 read2 h.rest h.stage z w → ActsOn (wanted r) owes2 stands2 read2 f p t x w
more_acts (Ok b) owes1 owes2 stands1 stands2 read1 read2 f p s t a x y z w h k quiet plan = next_doing owes1 owes2 stands1 stands2 read1 read2 f p s t a b x y z w h k quiet plan
more_acts (Err (stop.Over st)) owes1 owes2 stands1 stands2 read1 read2 f p s t a x y z w h k quiet plan =
    leads_ends f h.rest st p (place t h.stage) x z w (done_leads owes1 stands1 read1 f p s t a x y z h k) (rest_ends h.rest st (place t h.stage) z w quiet (plan.1 t))
more_acts (Err (stop.Short st)) owes1 owes2 stands1 stands2 read1 read2 f p s t a x y z w h k quiet plan = absurd plan
more_acts (Err (stop.Cut e)) owes1 owes2 stands1 stands2 read1 read2 f p s t a x y z w h k quiet plan =
    leads_stops (stop.Cut e) f h.rest p (place t h.stage) x z w (done_leads owes1 stands1 read1 f p s t a x y z h k) (rest_breaks h.rest (place t h.stage) z w quiet plan.0, plan.1)
more_acts (Err stop.Left) owes1 owes2 stands1 stands2 read1 read2 f p s t a x y z w h k quiet plan = absurd plan

-- an input that was read, and nothing else
pub read_quietly : (l : Line) (told : Option (List ℤ)) (o : Output) (i j : Input) → i.faults ≤ j.faults → Did [] [] [] (outside l told o i) (outside l told o j)
read_quietly l told o i j less = record {
  told = told_self told (λ xs ys. ys ≡ xs ++ []) (λ xs. sym (append-nil xs));
  said = quiet l.talk;
  written = Appends-nil o.held;
  kept = record { line = no_less l.faults; output = no_less o.faults; input = less; ended = refl };
}

acts_grows : (a : Action) (c : Course) → Grows c (acts a c)
acts_grows action.Wait c = grows_not c
acts_grows (action.Ask b) c = asks_grows b c
acts_grows (action.Write b) c = writes_grows b c
acts_grows (action.Report b) c = report_grows b status.Done c

fronts_both : (c d e : Course) → Grows c d → Fronts d [] [] e → Fronts c [] [] e
fronts_both c d e g f = record {
  sent = prefix_trans (c.sent ++ []) (d.sent ++ []) e.sent (subst (λ l. IsPrefix l (d.sent ++ [])) (sym (append-nil c.sent)) (subst (λ l. IsPrefix c.sent l) (sym (append-nil d.sent)) g.sent)) f.sent;
  written = prefix_trans (c.written ++ []) (d.written ++ []) e.written (subst (λ l. IsPrefix l (d.written ++ [])) (sym (append-nil c.written)) (subst (λ l. IsPrefix c.written l) (sym (append-nil d.written)) g.written)) f.written;
}

-- it is given up
pub gives_up : (owes : Stage → (Course → Course) → Type 0) (stands : Stage → Type 0) (read : Type 0) (f : Course → Course) (p : Place) (s : State) (a : Action) (x y : Outside) → Doing owes stands read f p s a x y → Breaks f p x y
gives_up owes stands read f p s a x y h =
    leads_breaks f (λ c. h.rest (acts a c)) p (place s h.stage) x y y (record { moments = h.moments; messages = h.messages; bytes = h.bytes; did = h.did; course = h.course })
    (rest_breaks (λ c. h.rest (acts a c)) (place s h.stage) y y (did_nothing y) (λ c. fronts_both c (acts a c) (h.rest (acts a c)) (acts_grows a c) (h.rests.fronts (acts a c))))

-- a command that stops before it wants anything done
pub plan_stops : (e : Stop) (f : Course → Course) (before : Stage) (s : State) (z w : Outside) → Did [] [] [] z w → PlanStops e f before z w → Stops e f (place s before) z w
plan_stops (stop.Over st) f before s z w quiet plan = rest_ends f st (place s before) z w quiet (plan.1 s)
plan_stops (stop.Short st) f before s z w quiet plan = absurd plan
plan_stops (stop.Cut e) f before s z w quiet plan = (rest_breaks f (place s before) z w quiet plan.0, plan.1)
plan_stops stop.Left f before s z w quiet plan = absurd plan
