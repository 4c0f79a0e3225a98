-- A command that waits, and what comes over its link.
use Rattle.std.proofs.Common.{◌≡◌, ◌≤◌, ℕ, ℤ, true, List, [], ◌∷◌, ◌++◌, Option, Some, Result, Ok, Err, arith, inl, inr, refl, ap, sym, subst, ◌∙◌, append_assoc}
use Rattle.std.proofs.lemmas.List.{append-nil}
use Rattle.std.proofs.lemmas.List.Sums.{fold-append}
use Rattle.std.proofs.KnownBytes.{Appends-nil, Appends-trans}
use Rattle.client_forms.proofs.ChainLemmas.{told_both}
use Rattle.etp_outside.proofs.FaultLemmas.{rose_later}
use mathlib.Core.List.{IsPrefix}
use Rattle.etp_values.proofs.PrefixLemmas.{prefix_self}
use Rattle.channel_store.specs.declared.copy.ChangeMsg.{ChangeMsg}
use Rattle.client_core.specs.Asking.{begun}
use Rattle.client_core.specs.State.{State}
use Rattle.etp_outside.specs.Talk.{Takes, Talk}
use Rattle.etp_outside.specs.Told.{Told}
use Rattle.etp_outside.specs.declared.link.Item.{Item}
use Rattle.etp_outside.specs.declared.link.Item.TheVariants.{Message, Idle}
use Rattle.etp_outside.specs.declared.status.Status.{Status}
use Rattle.etp_outside.proofs.ToldLemmas.{told_self, told_trans, told_weaker}
use Rattle.client_forms.specs.Ctl.{Course, Job, Opening, Stage, ctl, drained, ends, happens, starts, takes_message}
use Rattle.client_forms.specs.Runs.{Came, EndsBy, Ended, Going, Talks, Turns, waiting}
use Rattle.client_forms.specs.Sending.{SendCause, SendsFront}
use Rattle.client_forms.specs.Top.{Front, Whole}
use Rattle.client_forms.specs.Work.{Breaks, Comes, Cuts, Did, Ends, Fronts, HasFailed, Input, IsAt, IsCause, Line, Outside, Output, Says, Steps, Stops, moved, outside, place}
use Rattle.client_forms.specs.declared.stop.Cause.{Cause}
use Rattle.client_forms.specs.declared.stop.Cause.TheVariants as cause
use Rattle.client_forms.specs.declared.stop.Stop.{Stop}
use Rattle.client_forms.specs.declared.stop.Stop.TheVariants as stop
use Rattle.client_forms.proofs.RefitLemmas.{did_nothing}
use Rattle.client_forms.proofs.SendLemmas.{quiet}
use Rattle.client_forms.proofs.WorkLemmas.{no_less}

-- ---- what came and went, in two steps

talks_both : (is js : List Item) (ms ns : List (List ℕ)) (x y z : Talk) → Talks is ms x y → Talks js ns y z → Talks (is ++ js) (ms ++ ns) x z
talks_both is js ms ns x y z p q = record {
  took = q.took ∙ ap (λ l. l ++ js) p.took ∙ append_assoc x.taken is js;
  said = q.said ∙ ap (λ l. l ++ ns) p.said ∙ append_assoc x.sent ms ns;
  to = q.to ∙ p.to;
}

pub came_both : (m1 m2 : List ℤ) (i1 i2 : List Item) (s1 s2 : List (List ℕ)) (b1 b2 : List ℕ) (x y z : Outside) → Came m1 i1 s1 b1 x y → Came m2 i2 s2 b2 y z → Came (m1 ++ m2) (i1 ++ i2) (s1 ++ s2) (b1 ++ b2) x z
came_both m1 m2 i1 i2 s1 s2 b1 b2 x y z p q = record {
  told = told_trans x.told y.told z.told (λ a b. b ≡ a ++ m1) (λ a b. b ≡ a ++ m2) (λ a b. b ≡ a ++ (m1 ++ m2)) (told_both m1 m2) p.told q.told;
  talked = told_trans x.line.talk y.line.talk z.line.talk (Talks i1 s1) (Talks i2 s2) (Talks (i1 ++ i2) (s1 ++ s2)) (talks_both i1 i2 s1 s2) p.talked q.talked;
  wrote = Appends-trans x.output.held y.output.held z.output.held b1 b2 p.wrote q.wrote;
  line = omega (arith, p.line, q.line);
  output = omega (arith, p.output, q.output);
  input = omega (arith, p.input, q.input);
}

-- an item was taken, and then this was done
talks_item : (item : Item) (ms : List (List ℕ)) (x y z : Talk) → Takes item x y → Says ms y z → Talks (item ∷ []) ms x z
talks_item item ms x y z p q = record { took = q.taken ∙ p.taken; said = q.sent ∙ ap (λ l. l ++ ms) p.sent; to = q.to ∙ p.to }

-- a link took an item
pub record TookItem (item : Item) (l m : Line) : Type 0 where
  pub talk : Told l.talk m.talk (Takes item)
  pub kept : l.faults ≤ m.faults

pub came_item : (item : Item) (ms : List ℤ) (ss : List (List ℕ)) (bs : List ℕ) (l m : Line) (told : Option (List ℤ)) (o : Output) (i : Input) (z : Outside) → TookItem item l m → Did ms ss bs (outside m told o i) z → Came ms (item ∷ []) ss bs (outside l told o i) z
came_item item ms ss bs l m told o i z t d = record {
  told = d.told;
  talked = told_trans l.talk m.talk z.line.talk (Takes item) (Says ss) (Talks (item ∷ []) ss) (λ a b c p q. talks_item item ss a b c p q) t.talk d.said;
  wrote = d.written;
  line = omega (arith, t.kept, d.kept.line);
  output = d.kept.output;
  input = d.kept.input;
}

-- nothing came and nothing was sent, but a link's count of faults may have risen
pub came_nothing : (l m : Line) (told : Option (List ℤ)) (o : Output) (i : Input) → Told l.talk m.talk (λ a b. b ≡ a) → l.faults ≤ m.faults → Came [] [] [] [] (outside l told o i) (outside m told o i)
came_nothing l m told o i same less = record {
  told = told_self told (λ xs ys. ys ≡ xs ++ []) (λ xs. sym (append-nil xs));
  talked = told_trans l.talk m.talk m.talk (λ a b. b ≡ a) (λ a b. b ≡ a) (Talks [] []) (λ a b c p q. record { took = ap (λ (t : Talk). t.taken) (q ∙ p) ∙ sym (append-nil a.taken); said = ap (λ (t : Talk). t.sent) (q ∙ p) ∙ sym (append-nil a.sent); to = ap (λ (t : Talk). t.to) (q ∙ p) }) same (told_self m.talk (λ a b. b ≡ a) (λ a. refl));
  wrote = Appends-nil o.held;
  line = less;
  output = no_less o.faults;
  input = no_less i.faults;
}

-- so what came before is what came
came_still : (ms : List ℤ) (is : List Item) (ss : List (List ℕ)) (bs : List ℕ) (x y z : Outside) → Came ms is ss bs x y → Came [] [] [] [] y z → Came ms is ss bs x z
came_still ms is ss bs x y z p q =
    subst (λ v. Came v is ss bs x z) (append-nil ms)
    (subst (λ v. Came (ms ++ []) v ss bs x z) (append-nil is)
    (subst (λ v. Came (ms ++ []) (is ++ []) v bs x z) (append-nil ss)
    (subst (λ v. Came (ms ++ []) (is ++ []) (ss ++ []) v x z) (append-nil bs)
    (came_both ms [] is [] ss [] bs [] x y z p q))))

-- ---- causes

later_cause : (e : Cause) (x y z : Outside) → x.line.faults ≤ y.line.faults → x.output.faults ≤ y.output.faults → x.input.faults ≤ y.input.faults → IsCause e y z → IsCause e x z
later_cause cause.Link x y z line output input h = rose_later x.line.faults y.line.faults z.line.faults line h
later_cause cause.Output x y z line output input h = rose_later x.output.faults y.output.faults z.output.faults output h
later_cause cause.Input x y z line output input h = rose_later x.input.faults y.input.faults z.input.faults input h
later_cause cause.Memory x y z line output input h = tt

later_failed : (x y z : Outside) → x.line.faults ≤ y.line.faults → x.output.faults ≤ y.output.faults → HasFailed y z → HasFailed x z
later_failed x y z line output (inl h) = inl (rose_later x.line.faults y.line.faults z.line.faults line h)
later_failed x y z line output (inr h) = inr (rose_later x.output.faults y.output.faults z.output.faults output h)

module _ (stands : Stage → Type 0) (shown : ℤ → List ChangeMsg → List ℕ) (job : Job) (s : State) (x y : Outside) (h : Going stands shown job s x y) where
  -- where it waits
  abbrev here : List ℤ → Course
  here later = waiting s h.stage later h.sent h.written

  -- the course so far, and one item more
  one_more : (item : Item) (more : List ℤ) → ctl shown job (h.moments ++ more) (h.taken ++ item ∷ []) ≡ happens shown job (here more) item
  one_more item more =
      fold-append (happens shown job) (starts (h.moments ++ more)) h.taken (item ∷ []) ∙ ap (λ c. happens shown job c item) (h.course more)

  -- nothing more happened
  no_more : ctl shown job h.moments h.taken ≡ here []
  no_more = ap (λ ms. ctl shown job ms h.taken) (sym (append-nil h.moments)) ∙ h.course []

  whole_so_far : (later : List ℤ) → Whole later h.sent h.written (ctl shown job (h.moments ++ later) h.taken)
  whole_so_far later = record {
    sent_is = sym (ap (λ (c : Course). c.sent) (h.course later));
    written_is = sym (ap (λ (c : Course). c.written) (h.course later));
    moments = ap (λ (c : Course). c.moments) (h.course later);
  }

  front_so_far : Front h.sent h.written (ctl shown job h.moments h.taken)
  front_so_far = record {
    sent_is = subst (λ (l : List (List ℕ)). IsPrefix h.sent l) (sym (ap (λ (c : Course). c.sent) no_more)) (prefix_self h.sent);
    written_is = subst (λ (l : List ℕ). IsPrefix h.written l) (sym (ap (λ (c : Course). c.written) no_more)) (prefix_self h.written);
  }

  -- ---- no message came

  came_idle : (m : Line) → TookItem Idle y.line m → Came h.moments (h.taken ++ Idle ∷ []) h.sent h.written x (outside m y.told y.output y.input)
  came_idle m t =
      let z = outside m y.told y.output y.input in
      subst (λ v. Came v (h.taken ++ Idle ∷ []) h.sent h.written x z) (append-nil h.moments)
      (subst (λ v. Came (h.moments ++ []) (h.taken ++ Idle ∷ []) v h.written x z) (append-nil h.sent)
      (subst (λ v. Came (h.moments ++ []) (h.taken ++ Idle ∷ []) (h.sent ++ []) v x z) (append-nil h.written)
      (came_both h.moments [] h.taken (Idle ∷ []) h.sent [] h.written [] x y z h.came (came_item Idle [] [] [] y.line m y.told y.output y.input z t (did_nothing z)))))

  pub went_idle : (m : Line) → TookItem Idle y.line m → Going stands shown job s x (outside m y.told y.output y.input)
  went_idle m t = record {
    stage = h.stage;
    there = h.there;
    moments = h.moments;
    taken = h.taken ++ Idle ∷ [];
    sent = h.sent;
    written = h.written;
    came = came_idle m t;
    course = λ later. one_more Idle later;
  }

  pub left_alone : (m : Line) → Told y.line.talk m.talk (λ a b. b ≡ a) → y.line.faults ≤ m.faults → m.ended ≡ true → Ended stop.Left shown job x (outside m y.told y.output y.input)
  left_alone m same less over = record {
    moments = h.moments;
    taken = h.taken;
    sent = h.sent;
    written = h.written;
    came = came_still h.moments h.taken h.sent h.written x y (outside m y.told y.output y.input) h.came (came_nothing y.line m y.told y.output y.input same less);
    end = (λ later. (whole_so_far later, ap (λ (c : Course). c.status) (h.course later)), over);
  }

  pub cut_off : (e : Cause) (m : Line) → Told y.line.talk m.talk (λ a b. b ≡ a) → y.line.faults ≤ m.faults → IsCause e y (outside m y.told y.output y.input) → Ended (stop.Cut e) shown job x (outside m y.told y.output y.input)
  cut_off e m same less why = record {
    moments = h.moments;
    taken = h.taken;
    sent = h.sent;
    written = h.written;
    came = came_still h.moments h.taken h.sent h.written x y (outside m y.told y.output y.input) h.came (came_nothing y.line m y.told y.output y.input same less);
    end = (front_so_far, later_cause e x y (outside m y.told y.output y.input) h.came.line h.came.output h.came.input why);
  }

  -- ---- a message came

  module _ (bytes : List ℕ) (m : Line) (t : TookItem (Message bytes) y.line m) where
    abbrev mid : Outside
    mid = outside m y.told y.output y.input

    abbrev on : Course → Course
    on c = takes_message shown job bytes c

    came_more : (ms : List ℤ) (ss : List (List ℕ)) (bs : List ℕ) (z : Outside) → Did ms ss bs mid z → Came (h.moments ++ ms) (h.taken ++ Message bytes ∷ []) (h.sent ++ ss) (h.written ++ bs) x z
    came_more ms ss bs z d = came_both h.moments ms h.taken (Message bytes ∷ []) h.sent ss h.written bs x y z h.came (came_item (Message bytes) ms ss bs y.line m y.told y.output y.input z t d)

    is_here : IsAt (place s h.stage) (here [])
    is_here = record { here = refl; going = refl }

    -- a fact about what the message makes of the course is one about the whole course
    by_step : (P : Course → Type 0) (ms : List ℤ) → P (on (here ms)) → P (ctl shown job (h.moments ++ ms) (h.taken ++ Message bytes ∷ []))
    by_step P ms k = subst P (sym (one_more (Message bytes) ms)) k

    heard_goes : (S : Stage → Type 0) (u : State) (z : Outside) → Comes S on (place s h.stage) u mid z → Going S shown job u x z
    heard_goes S u z k = record {
      stage = k.stage;
      there = k.there;
      moments = h.moments ++ k.goes.moments;
      taken = h.taken ++ Message bytes ∷ [];
      sent = h.sent ++ k.goes.messages;
      written = h.written ++ k.goes.bytes;
      came = came_more k.goes.moments k.goes.messages k.goes.bytes z k.goes.did;
      course = λ later.
          ap (λ ms. ctl shown job ms (h.taken ++ Message bytes ∷ [])) (append_assoc h.moments k.goes.moments later) ∙ one_more (Message bytes) (k.goes.moments ++ later) ∙ k.goes.course (here []) later is_here;
    }

    fronts_front : (ss : List (List ℕ)) (bs : List ℕ) (ms : List ℤ) → Fronts (here []) ss bs (on (here ms)) → Front (h.sent ++ ss) (h.written ++ bs) (ctl shown job (h.moments ++ ms) (h.taken ++ Message bytes ∷ []))
    fronts_front ss bs ms f = by_step (λ c. Front (h.sent ++ ss) (h.written ++ bs) c) ms (record { sent_is = f.sent; written_is = f.written })

    heard_over : (st : Status) (z : Outside) → Ends on st (place s h.stage) mid z → Ended (stop.Over st) shown job x z
    heard_over st z k = record {
      moments = h.moments ++ k.moments;
      taken = h.taken ++ Message bytes ∷ [];
      sent = h.sent ++ k.messages;
      written = h.written ++ k.bytes;
      came = came_more k.moments k.messages k.bytes z k.did;
      end = λ later.
          let is : ctl shown job ((h.moments ++ k.moments) ++ later) (h.taken ++ Message bytes ∷ []) ≡ ends st (moved (here []) k.left later k.messages k.bytes) =
          ap (λ ms. ctl shown job ms (h.taken ++ Message bytes ∷ [])) (append_assoc h.moments k.moments later) ∙ one_more (Message bytes) (k.moments ++ later) ∙ k.course (here []) later is_here in
          (record { sent_is = sym (ap (λ (c : Course). c.sent) is); written_is = sym (ap (λ (c : Course). c.written) is); moments = ap (λ (c : Course). c.moments) is }, ap (λ (c : Course). c.status) is);
    }

    heard_short : (st : Status) (z : Outside) → Cuts on st (place s h.stage) mid z → HasFailed mid z → Ended (stop.Short st) shown job x z
    heard_short st z k failed = record {
      moments = h.moments ++ k.moments;
      taken = h.taken ++ Message bytes ∷ [];
      sent = h.sent ++ k.messages;
      written = h.written ++ k.bytes;
      came = came_more k.moments k.messages k.bytes z k.did;
      end = (
        fronts_front k.messages k.bytes k.moments (k.course (here []) is_here),
        by_step (λ c. c.status ≡ Some st) k.moments (k.end (here []) is_here),
        later_failed x mid z (omega (arith, h.came.line, t.kept)) h.came.output failed,
        k.late,
      );
    }

    heard_cut : (e : Cause) (z : Outside) → Breaks on (place s h.stage) mid z → IsCause e mid z → Ended (stop.Cut e) shown job x z
    heard_cut e z k why = record {
      moments = h.moments ++ k.moments;
      taken = h.taken ++ Message bytes ∷ [];
      sent = h.sent ++ k.messages;
      written = h.written ++ k.bytes;
      came = came_more k.moments k.messages k.bytes z k.did;
      end = (fronts_front k.messages k.bytes k.moments (k.course (here []) is_here), later_cause e x mid z (omega (arith, h.came.line, t.kept)) h.came.output h.came.input why);
    }

    heard_stops : (e : Stop) (z : Outside) → Stops e on (place s h.stage) mid z → Ended e shown job x z
    heard_stops (stop.Over st) z k = heard_over st z k
    heard_stops (stop.Short st) z k = heard_short st z k.0 k.1
    heard_stops (stop.Cut e) z k = heard_cut e z k.0 k.1
    heard_stops stop.Left z k = absurd k

    pub heard : (r : Result (Unit {0}) Stop) (S : Stage → Type 0) (u : State) (z : Outside) → Steps r S on (place s h.stage) u mid z → Turns r S shown job u x z
    heard (Ok v) S u z k = heard_goes S u z k
    heard (Err e) S u z k = heard_stops e z k

-- ---- the beginning

pub send_why : (before after : Option (List ℤ)) (o : Output) (i : Input) (e : Cause) (l m : Line) → SendCause (Err e) l.faults m.faults → IsCause e (outside l before o i) (outside m after o i)
send_why before after o i cause.Link l m why = why
send_why before after o i cause.Output l m why = absurd why
send_why before after o i cause.Input l m why = absurd why
send_why before after o i cause.Memory l m why = tt

module _ (shown : ℤ → List ChangeMsg → List ℕ) (job : Job) (moment : ℤ) (before after : Option (List ℤ)) (s : State) (is : s ≡ begun moment) (tick : Told before after (λ xs ys. ys ≡ xs ++ moment ∷ [])) (o : Output) (i : Input) where
  said_first : (front : List (List ℕ)) (x y : Talk) → Says front x y → Talks [] front x y
  said_first front x y p = record { took = p.taken ∙ sym (append-nil x.taken); said = p.sent; to = p.to }

  first_came : (front : List (List ℕ)) (l m : Line) → l.faults ≤ m.faults → Told l.talk m.talk (Says front) → Came (moment ∷ []) [] front [] (outside l before o i) (outside m after o i)
  first_came front l m less said = record {
    told = tick;
    talked = told_weaker l.talk m.talk (Says front) (Talks [] front) (said_first front) said;
    wrote = Appends-nil o.held;
    line = less;
    output = no_less o.faults;
    input = no_less i.faults;
  }

  -- the first messages were sent
  pub started : (stands : Stage → Type 0) (t : State) (l m : Line) → l.faults ≤ m.faults → (t ≡ drained s) × Told l.talk m.talk (Says s.out) → stands Opening → Going stands shown job t (outside l before o i) (outside m after o i)
  started stands t l m less h there = record {
    stage = Opening;
    there = there;
    moments = moment ∷ [];
    taken = [];
    sent = s.out;
    written = [];
    came = first_came s.out l m less h.1;
    course = λ later. ap (λ (v : State). waiting (drained v) Opening later v.out []) (sym is) ∙ ap (λ (v : State). waiting v Opening later s.out []) (sym h.0);
  }

  start_ends : (e : Cause) (front : List (List ℕ)) (l m : Line) → l.faults ≤ m.faults → Told l.talk m.talk (Says front) → IsPrefix front (begun moment).out → IsCause e (outside l before o i) (outside m after o i) → Ended (stop.Cut e) shown job (outside l before o i) (outside m after o i)
  start_ends e front l m less said front_is why = record {
    moments = moment ∷ [];
    taken = [];
    sent = front;
    written = [];
    came = first_came front l m less said;
    end = (record { sent_is = front_is; written_is = prefix_self [] }, why);
  }

  -- or only a front of them
  pub start_cut : (e : Cause) (l m : Line) → l.faults ≤ m.faults → SendsFront s.out l.talk m.talk → SendCause (Err e) l.faults m.faults → Ended (stop.Cut e) shown job (outside l before o i) (outside m after o i)
  start_cut e l m less f why =
      start_ends e f.front l m less f.said (f.rest, f.whole ∙ ap (λ (v : State). v.out) is) (send_why before after o i e l m why)

-- memory ran out for the first message
pub not_begun : (shown : ℤ → List ChangeMsg → List ℕ) (job : Job) (moment : ℤ) (before after : Option (List ℤ)) → Told before after (λ xs ys. ys ≡ xs ++ moment ∷ []) → (l : Line) (o : Output) (i : Input) → Ended (stop.Cut cause.Memory) shown job (outside l before o i) (outside l after o i)
not_begun shown job moment before after tick l o i =
    start_ends shown job moment before after (begun moment) refl tick o i cause.Memory [] l l (no_less l.faults) (quiet l.talk) ((begun moment).out, refl) tt

-- what is the same outside
pub going_at : (stands : Option (List ℕ) → Stage → Type 0) (shown : ℤ → List ChangeMsg → List ℕ) (job : Job) (s : State) (x y z : Outside) → z ≡ y → Going (stands y.input.left) shown job s x y → Going (stands z.input.left) shown job s x z
going_at stands shown job s x y z same h = subst (λ v. Going (stands v.input.left) shown job s x v) (sym same) h
