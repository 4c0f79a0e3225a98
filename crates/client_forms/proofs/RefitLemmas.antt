-- Steps of a command that are steps of the same courses.
use Rattle.std.proofs.Common.{◌≡◌, ℤ, List, [], ◌++◌, Some, Result, Ok, Err, refl, sym, subst, ◌∙◌}
use Rattle.std.proofs.KnownBytes.{Appends-nil}
use Rattle.std.proofs.lemmas.List.{append-nil}
use Rattle.etp_outside.proofs.ToldLemmas.{told_self}
use Rattle.etp_outside.specs.declared.status.Status.{Status}
use Rattle.client_core.specs.State.{State}
use Rattle.client_forms.specs.Ctl.{Course, Place, Stage, ends}
use Rattle.client_forms.specs.Work.{Outside, Kept, Did, IsAt, Goes, Ends, Fronts, Breaks, Cuts, Steps, Stops, Works}
use Rattle.client_forms.specs.declared.stop.Stop.{Stop}
use Rattle.client_forms.specs.declared.stop.Stop.TheVariants as stop
use Rattle.client_forms.proofs.CourseLemmas.{stepped, at_path, set_at, nothing_moved, Grows}
use Rattle.client_forms.proofs.SendLemmas.{quiet}
use Rattle.client_forms.proofs.WorkLemmas.{no_less, fronts_grown}

kept_self : (x : Outside) → Kept x x
kept_self x = record { line = no_less x.line.faults; output = no_less x.output.faults; input = no_less x.input.faults; ended = refl }

pub did_nothing : (x : Outside) → Did [] [] [] x x
did_nothing x = record { told = told_self x.told (λ xs ys. ys ≡ xs ++ []) (λ xs. sym (append-nil xs)); said = quiet x.line.talk; written = Appends-nil x.output.held; kept = kept_self x }

-- no work
pub goes_nothing : (p : Place) (x : Outside) → Goes (λ c. c) p p x x
goes_nothing p x = record { moments = []; messages = []; bytes = []; did = did_nothing x; course = stepped (λ c. c) p p [] [] [] (λ d. d) (λ c later. nothing_moved (set_at p c) p later) }

-- what was not begun
pub breaks_at_once : (f : Course → Course) (p : Place) (x : Outside) → ((c : Course) → Grows c (f c)) → Breaks f p x x
breaks_at_once f p x grows = record {
  moments = [];
  messages = [];
  bytes = [];
  did = did_nothing x;
  course = λ c here. let d = record c { moments = [] } in let g = grows d in fronts_grown c (f d) (record { sent = g.sent; written = g.written });
}

-- a step that does at one place what another does at another one
abbrev pub Refit : (Course → Course) → (Course → Course) → Place → Place → Type 0
Refit f h p q = (c : Course) → f (set_at p c) ≡ h (set_at q c)

goes_refit : (f h : Course → Course) (p q r : Place) (x y : Outside) → Refit f h p q → Goes h q r x y → Goes f p r x y
goes_refit f h p q r x y e k = record {
  moments = k.moments;
  messages = k.messages;
  bytes = k.bytes;
  did = k.did;
  course = stepped f p r k.moments k.messages k.bytes (λ d. d)
      (λ c later. e (record c { moments = k.moments ++ later }) ∙ k.course (set_at q c) later (record { here = refl; going = refl }));
}

ends_refit : (f h : Course → Course) (st : Status) (p q : Place) (x y : Outside) → Refit f h p q → Ends h st q x y → Ends f st p x y
ends_refit f h st p q x y e k = record {
  moments = k.moments;
  messages = k.messages;
  bytes = k.bytes;
  left = k.left;
  did = k.did;
  course = stepped f p k.left k.moments k.messages k.bytes (ends st)
      (λ c later. e (record c { moments = k.moments ++ later }) ∙ k.course (set_at q c) later (record { here = refl; going = refl }));
}

-- a fact about the other's course is one about its own
refit_fact : (f h : Course → Course) (p q : Place) (moments : List ℤ) (P : Course → Type 0) → Refit f h p q → (c : Course) → IsAt p c → P (h (record (set_at q c) { moments = moments })) → P (f (record c { moments = moments }))
refit_fact f h p q moments P e c here k =
    subst (λ (d : Course). P (f (record d { moments = moments }))) (sym (at_path p c here)) (subst P (sym (e (record c { moments = moments }))) k)

breaks_refit : (f h : Course → Course) (p q : Place) (x y : Outside) → Refit f h p q → Breaks h q x y → Breaks f p x y
breaks_refit f h p q x y e k = record {
  moments = k.moments;
  messages = k.messages;
  bytes = k.bytes;
  did = k.did;
  course = λ c here. let front = k.course (set_at q c) (record { here = refl; going = refl }) in
      refit_fact f h p q k.moments (Fronts c k.messages k.bytes) e c here (record { sent = front.sent; written = front.written });
}

cuts_refit : (f h : Course → Course) (st : Status) (p q : Place) (x y : Outside) → Refit f h p q → Cuts h st q x y → Cuts f st p x y
cuts_refit f h st p q x y e k = record {
  moments = k.moments;
  messages = k.messages;
  bytes = k.bytes;
  did = k.did;
  course = λ c here. let front = k.course (set_at q c) (record { here = refl; going = refl }) in
      refit_fact f h p q k.moments (Fronts c k.messages k.bytes) e c here (record { sent = front.sent; written = front.written });
  end = λ c here. refit_fact f h p q k.moments (λ d. d.status ≡ Some st) e c here (k.end (set_at q c) (record { here = refl; going = refl }));
  late = k.late;
}

pub stops_refit : (e : Stop) (f h : Course → Course) (p q : Place) (x y : Outside) → Refit f h p q → Stops e h q x y → Stops e f p x y
stops_refit (stop.Over st) f h p q x y same k = ends_refit f h st p q x y same k
stops_refit (stop.Short st) f h p q x y same k = (cuts_refit f h st p q x y same k.0, k.1)
stops_refit (stop.Cut e) f h p q x y same k = (breaks_refit f h p q x y same k.0, k.1)
stops_refit stop.Left f h p q x y same k = absurd k

pub works_refit : (w : Result (Unit {0}) Stop) (f h : Course → Course) (p q r : Place) (x y : Outside) → Refit f h p q → Works w h q r x y → Works w f p r x y
works_refit (Ok u) f h p q r x y same k = goes_refit f h p q r x y same k
works_refit (Err e) f h p q r x y same k = stops_refit e f h p q x y same k

-- steps from what is the same outside
pub steps_from : (r : Result (Unit {0}) Stop) (stands : Stage → Type 0) (f : Course → Course) (p : Place) (s : State) (x y z : Outside) → x ≡ y → Steps r stands f p s x z → Steps r stands f p s y z
steps_from r stands f p s x y z same h = subst (λ v. Steps r stands f p s v z) same h
