-- Commands that are refused or stopped.
use Rattle.std.proofs.Common.{◌≡◌, ◌≤◌, ℕ, ℤ, Bool, true, false, List, [], ◌∷◌, ◌++◌, take, drop, Option, None, Some, if◌then◌else◌, Result, Ok, Err, inr, refl, ap, sym, subst, ◌∙◌, append_assoc}
use Rattle.std.proofs.lemmas.List.{append-nil, take-append-drop}
use Rattle.std.specs.Io.KnownBytes.{Appends}
use Rattle.std.proofs.lemmas.Option.{none-some, same_Some}
use mathlib.Core.List.{IsPrefix, prefix-append}
use Rattle.etp_values.proofs.PrefixLemmas.{prefix_self, prefix_trans}
use Rattle.etp_outside.specs.Faults.{Rose}
use Rattle.etp_outside.specs.Whole.{AppendsFront}
use Rattle.etp_outside.specs.declared.status.Status.{Status}
use Rattle.etp_outside.specs.declared.status.Status.TheVariants as status
use Rattle.client_core.specs.Asking.{asked}
use Rattle.client_core.specs.State.{State}
use Rattle.client_core.specs.declared.ask.Ask.TheVariants as ask
use Rattle.client_core.specs.declared.got.ClientError.{ClientError}
use Rattle.client_forms.specs.Ctl.{Course, Place, Stage, breaks, by_close, closes, closes_at, ends, fresh, is_opening, writes}
use Rattle.client_forms.specs.Sending.{shortened}
use Rattle.client_forms.specs.Work.{Line, Output, Input, Outside, outside, place, Did, IsAt, IsLate, moved, Ends, Fronts, Stops}
use Rattle.client_forms.specs.declared.stop.Stop.{Stop}
use Rattle.client_forms.specs.declared.stop.Stop.TheVariants as stop
use Rattle.client_forms.proofs.CourseLemmas.{stepped, set_at, nothing_moved, Grows, grows_trans, closes_grows, writes_grows}
use Rattle.client_forms.proofs.WorkLemmas.{written_kept}
use Rattle.client_forms.proofs.ChainLemmas.{kept_both, cause_later}
use Rattle.client_forms.proofs.RefitLemmas.{did_nothing, Refit}

-- ---- a session that is not open yet

pub ends_at_once : (f : Course → Course) (st : Status) (p : Place) (x : Outside) → ((c : Course) → f (set_at p c) ≡ ends st (set_at p c)) → Ends f st p x x
ends_at_once f st p x same = record {
  moments = [];
  messages = [];
  bytes = [];
  left = p;
  did = did_nothing x;
  course = stepped f p p [] [] [] (ends st) (λ c later. same (record c { moments = later }) ∙ ap (ends st) (nothing_moved (set_at p c) p later));
}

pub breaks_opening : (st : Status) (s : State) (stage : Stage) (x : Outside) → is_opening stage ≡ true → Ends (breaks st) st (place s stage) x x
breaks_opening st s stage x h = ends_at_once (breaks st) st (place s stage) x (λ c. ap (λ (b : Bool). if b then ends st (set_at (place s stage) c) else closes st (set_at (place s stage) c)) h)

pub breaks_open : (st : Status) (s : State) (stage : Stage) → is_opening stage ≡ false → Refit (breaks st) (closes st) (place s stage) (place s stage)
breaks_open st s stage h c = ap (λ (b : Bool). if b then ends st (set_at (place s stage) c) else closes st (set_at (place s stage) c)) h

breaks_grows_by : (b : Bool) (st : Status) (c : Course) → Grows c (if b then ends st c else closes st c)
breaks_grows_by true st c = record { sent = prefix_self c.sent; written = prefix_self c.written }
breaks_grows_by false st c = closes_grows st c

pub breaks_grows : (st : Status) (c : Course) → Grows c (breaks st c)
breaks_grows st c = breaks_grows_by (is_opening c.at.stage) st c

pub shown_grows : (bytes : List ℕ) (st : Status) (c : Course) → Grows c (breaks st (writes bytes c))
shown_grows bytes st c = grows_trans c (writes bytes c) (breaks st (writes bytes c)) (writes_grows bytes c) (breaks_grows st (writes bytes c))

-- ---- an output that took a prefix of what was to be shown, and a session that was closed then

front_written : (w bytes more : List ℕ) (n : ℕ) → IsPrefix (w ++ take n bytes) (w ++ bytes ++ more)
front_written w bytes more n =
    prefix_trans (w ++ take n bytes) (w ++ bytes) (w ++ bytes ++ more) (drop n bytes, append_assoc w (take n bytes) (drop n bytes) ∙ ap (λ l. w ++ l) (take-append-drop n bytes)) (prefix-append (w ++ bytes) more)

did_short : (n : ℕ) (ms : List ℤ) (ss : List (List ℕ)) (bytes more : List ℕ) (l m : Line) (told later : Option (List ℤ)) (o q : Output) (i : Input) → o.faults ≤ q.faults → (f : AppendsFront o.held q.held bytes) → f.0 ≡ n → Did ms ss more (outside l told q i) (outside m later q i) → Did ms ss (take n bytes) (outside l told o i) (outside m later q i)
did_short n ms ss bytes more l m told later o q i less f is d = record {
  told = d.told;
  said = d.said;
  written = subst (λ (k : ℕ). Appends o.held q.held (take k bytes)) is f.2;
  kept = kept_both (outside l told o i) (outside l told q i) (outside m later q i) (written_kept l told o q i less) d.kept;
}

module _ (g : Course → Course) (bytes : List ℕ) (n : ℕ) where
  short_fronts : (c : Course) (ms : List (List ℕ)) (bs : List ℕ) (r : Course) → Fronts (writes bytes c) ms bs r → Fronts c ms (take n bytes) r
  short_fronts c ms bs r f = record { sent = f.sent; written = prefix_trans (c.written ++ take n bytes) (c.written ++ bytes ++ bs) r.written (front_written c.written bytes bs n) f.written }

  -- the step before which all was to be written
  abbrev whole : Course → Course
  whole c = g (writes bytes c)

  ended_so : (st : Status) (p : Place) (x y : Outside) (h : Ends g st p x y) (c : Course) → IsAt p c → whole (record c { moments = h.moments }) ≡ ends st (moved (writes bytes c) h.left [] h.messages h.bytes)
  ended_so st p x y h c here =
      ap (λ ms. g (writes bytes (record c { moments = ms }))) (sym (append-nil h.moments)) ∙ h.course (writes bytes c) [] (record { here = here.here; going = here.going })

  end_fronts : (st : Status) (p : Place) (x y : Outside) (h : Ends g st p x y) (c : Course) → IsAt p c → Fronts c h.messages (take n bytes) (whole (record c { moments = h.moments }))
  end_fronts st p x y h c here =
      subst (λ (r : Course). Fronts c h.messages (take n bytes) r) (sym (ended_so st p x y h c here))
      (record { sent = prefix_self (c.sent ++ h.messages); written = front_written c.written bytes h.bytes n })

pub cut_short : (e : Stop) (g : Course → Course) → ((st : Status) (r : Place) (v w : Outside) → Ends g st r v w → IsLate st) → (bytes : List ℕ) (p : Place) (l m : Line) (told later : Option (List ℤ)) (o q : Output) (i : Input) → o.faults ≤ q.faults → AppendsFront o.held q.held bytes → Rose o.faults q.faults → Stops e g p (outside l told q i) (outside m later q i) → Stops (shortened e) (λ c. g (writes bytes c)) p (outside l told o i) (outside m later q i)
cut_short (stop.Over st) g late bytes p l m told later o q i less f rose h = (
  record {
    moments = h.moments;
    messages = h.messages;
    bytes = take f.0 bytes;
    did = did_short f.0 h.moments h.messages bytes h.bytes l m told later o q i less f refl h.did;
    course = λ c here. end_fronts g bytes f.0 st p (outside l told q i) (outside m later q i) h c here;
    end = λ c here. ap (λ (r : Course). r.status) (ended_so g bytes f.0 st p (outside l told q i) (outside m later q i) h c here);
    late = late st p (outside l told q i) (outside m later q i) h;
  },
  inr rose,
)
cut_short (stop.Short st) g late bytes p l m told later o q i less f rose h = (
  record {
    moments = h.0.moments;
    messages = h.0.messages;
    bytes = take f.0 bytes;
    did = did_short f.0 h.0.moments h.0.messages bytes h.0.bytes l m told later o q i less f refl h.0.did;
    course = λ c here. short_fronts g bytes f.0 c h.0.messages h.0.bytes (g (writes bytes (record c { moments = h.0.moments }))) (h.0.course (writes bytes c) (record { here = here.here; going = here.going }));
    end = λ c here. h.0.end (writes bytes c) (record { here = here.here; going = here.going });
    late = h.0.late;
  },
  inr rose,
)
cut_short (stop.Cut e) g late bytes p l m told later o q i less f rose h = (
  record {
    moments = h.0.moments;
    messages = h.0.messages;
    bytes = take f.0 bytes;
    did = did_short f.0 h.0.moments h.0.messages bytes h.0.bytes l m told later o q i less f refl h.0.did;
    course = λ c here. short_fronts g bytes f.0 c h.0.messages h.0.bytes (g (writes bytes (record c { moments = h.0.moments }))) (h.0.course (writes bytes c) (record { here = here.here; going = here.going }));
  },
  cause_later e (outside l told o i) (outside l told q i) (outside m later q i) (written_kept l told o q i less) h.1,
)
cut_short stop.Left g late bytes p l m told later o q i less f rose h = absurd h

-- ---- a command that was stopped ends this way

by_close_stopped : (r : Result ℤ ClientError) (s : State) (c : Course) (st : Status) → (by_close status.Stopped r s c).status ≡ Some st → status.Stopped ≡ st
by_close_stopped (Ok id) s c st e = same_Some status.Stopped st e
by_close_stopped (Err x) s c st e = same_Some status.Stopped st e

closes_stopped : (ms : List ℤ) (c : Course) (st : Status) → c.status ≡ None → (closes_at status.Stopped ms c).status ≡ Some st → status.Stopped ≡ st
closes_stopped [] c st going e = absurd (none-some st (sym going ∙ e))
closes_stopped (t ∷ ts) c st going e = let s = asked c.at.client ask.Close t in by_close_stopped s.result s.state (record c { moments = ts }) st e

breaks_stopped : (b : Bool) (c : Course) (st : Status) → c.status ≡ None → (if b then ends status.Stopped c else closes status.Stopped c).status ≡ Some st → status.Stopped ≡ st
breaks_stopped true c st going e = same_Some status.Stopped st e
breaks_stopped false c st going e = closes_stopped c.moments c st going e

pub stopped_late : (st : Status) (p : Place) (x y : Outside) → Ends (breaks status.Stopped) st p x y → IsLate st
stopped_late st p x y h =
    let c = record (fresh (h.moments ++ [])) { at = p } in
    subst IsLate (breaks_stopped (is_opening p.stage) c st refl (ap (λ (d : Course). d.status) (h.course (record (fresh []) { at = p }) [] (record { here = refl; going = refl })))) tt
