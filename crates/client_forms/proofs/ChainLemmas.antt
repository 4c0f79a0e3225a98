-- Steps of a command, one after another.
use Rattle.std.proofs.Common.{◌≡◌, ℕ, ℤ, List, [], ◌++◌, Some, arith, inl, inr, refl, ap, sym, subst, ◌∙◌, append_assoc}
use Rattle.std.proofs.lemmas.List.{append-nil}
use Rattle.std.proofs.KnownBytes.{Appends-trans}
use Rattle.etp_outside.proofs.FaultLemmas.{rose_later}
use mathlib.Core.List.{IsPrefix}
use Rattle.etp_values.proofs.PrefixLemmas.{prefix_trans}
use Rattle.etp_outside.specs.Talk.{Talk}
use Rattle.etp_outside.specs.declared.status.Status.{Status}
use Rattle.etp_outside.proofs.ToldLemmas.{told_trans}
use Rattle.client_forms.specs.Ctl.{Course, Place, ends}
use Rattle.client_forms.specs.Plans.{Rests}
use Rattle.client_forms.specs.Work.{Outside, Says, Kept, Did, IsAt, moved, Goes, Ends, Fronts, Breaks, Cuts, IsCause, HasFailed, Stops}
use Rattle.client_forms.specs.declared.stop.Cause.{Cause}
use Rattle.client_forms.specs.declared.stop.Cause.TheVariants as cause
use Rattle.client_forms.specs.declared.stop.Stop.{Stop}
use Rattle.client_forms.specs.declared.stop.Stop.TheVariants as stop
use Rattle.client_forms.proofs.CourseLemmas.{Grows}

said_both : (ms ns : List (List ℕ)) (x y z : Talk) → Says ms x y → Says ns y z → Says (ms ++ ns) x z
said_both ms ns x y z p q = record {
  coming = q.coming ∙ p.coming;
  taken = q.taken ∙ p.taken;
  sent = q.sent ∙ ap (λ l. l ++ ns) p.sent ∙ append_assoc x.sent ms ns;
  to = q.to ∙ p.to;
}

pub told_both : (ms ns xs ys zs : List ℤ) → ys ≡ xs ++ ms → zs ≡ ys ++ ns → zs ≡ xs ++ (ms ++ ns)
told_both ms ns xs ys zs p q = q ∙ ap (λ l. l ++ ns) p ∙ append_assoc xs ms ns

pub kept_both : (x y z : Outside) → Kept x y → Kept y z → Kept x z
kept_both x y z p q = record { line = omega (arith, p.line, q.line); output = omega (arith, p.output, q.output); input = omega (arith, p.input, q.input); ended = q.ended ∙ p.ended }

pub did_both : (m1 m2 : List ℤ) (s1 s2 : List (List ℕ)) (b1 b2 : List ℕ) (x y z : Outside) → Did m1 s1 b1 x y → Did m2 s2 b2 y z → Did (m1 ++ m2) (s1 ++ s2) (b1 ++ b2) x z
did_both m1 m2 s1 s2 b1 b2 x y z p q = record {
  told = told_trans x.told y.told z.told (λ a b. b ≡ a ++ m1) (λ a b. b ≡ a ++ m2) (λ a b. b ≡ a ++ (m1 ++ m2)) (told_both m1 m2) p.told q.told;
  said = told_trans x.line.talk y.line.talk z.line.talk (Says s1) (Says s2) (Says (s1 ++ s2)) (said_both s1 s2) p.said q.said;
  written = Appends-trans x.output.held y.output.held z.output.held b1 b2 p.written q.written;
  kept = kept_both x y z p.kept q.kept;
}

-- ---- causes

pub cause_later : (e : Cause) (x y z : Outside) → Kept x y → IsCause e y z → IsCause e x z
cause_later cause.Link x y z k h = rose_later x.line.faults y.line.faults z.line.faults k.line h
cause_later cause.Output x y z k h = rose_later x.output.faults y.output.faults z.output.faults k.output h
cause_later cause.Input x y z k h = rose_later x.input.faults y.input.faults z.input.faults k.input h
cause_later cause.Memory x y z k h = tt

pub failed_later : (x y z : Outside) → Kept x y → HasFailed y z → HasFailed x z
failed_later x y z k (inl h) = inl (rose_later x.line.faults y.line.faults z.line.faults k.line h)
failed_later x y z k (inr h) = inr (rose_later x.output.faults y.output.faults z.output.faults k.output h)

-- ---- courses

-- a course that moved twice
pub moved_twice : (c : Course) (q r : Place) (mid later : List ℤ) (s1 s2 : List (List ℕ)) (b1 b2 : List ℕ) → moved (moved c q mid s1 b1) r later s2 b2 ≡ moved c r later (s1 ++ s2) (b1 ++ b2)
moved_twice c q r mid later s1 s2 b1 b2 =
    ap (λ m. record c { at = r; moments = later; sent = m; written = c.written ++ b1 ++ b2 }) (append_assoc c.sent s1 s2)
    ∙ ap (λ w. record c { at = r; moments = later; sent = c.sent ++ (s1 ++ s2); written = w }) (append_assoc c.written b1 b2)

pub is_at_moved : (p q : Place) (c : Course) (later : List ℤ) (ms : List (List ℕ)) (bs : List ℕ) → IsAt p c → IsAt q (moved c q later ms bs)
is_at_moved p q c later ms bs h = record { here = refl; going = h.going }

pub goes_goes : (f g : Course → Course) (p q r : Place) (x y z : Outside) → Goes f p q x y → Goes g q r y z → Goes (λ c. g (f c)) p r x z
goes_goes f g p q r x y z h k = record {
  moments = h.moments ++ k.moments;
  messages = h.messages ++ k.messages;
  bytes = h.bytes ++ k.bytes;
  did = did_both h.moments k.moments h.messages k.messages h.bytes k.bytes x y z h.did k.did;
  course = λ c later here.
      let mid = k.moments ++ later in
      ap (λ ms. g (f (record c { moments = ms }))) (append_assoc h.moments k.moments later) ∙ ap g (h.course c mid here)
      ∙ k.course (moved c q mid h.messages h.bytes) later (is_at_moved p q c mid h.messages h.bytes here)
      ∙ moved_twice c q r mid later h.messages k.messages h.bytes k.bytes;
}

goes_ends : (f g : Course → Course) (st : Status) (p q : Place) (x y z : Outside) → Goes f p q x y → Ends g st q y z → Ends (λ c. g (f c)) st p x z
goes_ends f g st p q x y z h k = record {
  moments = h.moments ++ k.moments;
  messages = h.messages ++ k.messages;
  bytes = h.bytes ++ k.bytes;
  left = k.left;
  did = did_both h.moments k.moments h.messages k.messages h.bytes k.bytes x y z h.did k.did;
  course = λ c later here.
      let mid = k.moments ++ later in
      ap (λ ms. g (f (record c { moments = ms }))) (append_assoc h.moments k.moments later) ∙ ap g (h.course c mid here)
      ∙ k.course (moved c q mid h.messages h.bytes) later (is_at_moved p q c mid h.messages h.bytes here)
      ∙ ap (ends st) (moved_twice c q k.left mid later h.messages k.messages h.bytes k.bytes);
}

-- what was sent and written of a course that had moved
pub fronts_moved : (c : Course) (q : Place) (later : List ℤ) (s1 s2 : List (List ℕ)) (b1 b2 : List ℕ) (r : Course) → Fronts (moved c q later s1 b1) s2 b2 r → Fronts c (s1 ++ s2) (b1 ++ b2) r
fronts_moved c q later s1 s2 b1 b2 r h = record {
  sent = subst (λ l. IsPrefix l r.sent) (append_assoc c.sent s1 s2) h.sent;
  written = subst (λ l. IsPrefix l r.written) (append_assoc c.written b1 b2) h.written;
}

-- a fact about the course of the second step, wherever that begins, is one about both
behind : (f g : Course → Course) (p q : Place) (x y : Outside) (P : Course → Type 0) (more : List ℤ) → (h : Goes f p q x y) → (c : Course) → IsAt p c → P (g (moved c q more h.messages h.bytes)) → P (g (f (record c { moments = h.moments ++ more })))
behind f g p q x y P more h c here k = subst (λ (d : Course). P (g d)) (sym (h.course c more here)) k

goes_breaks : (f g : Course → Course) (p q : Place) (x y z : Outside) → Goes f p q x y → Breaks g q y z → Breaks (λ c. g (f c)) p x z
goes_breaks f g p q x y z h k = record {
  moments = h.moments ++ k.moments;
  messages = h.messages ++ k.messages;
  bytes = h.bytes ++ k.bytes;
  did = did_both h.moments k.moments h.messages k.messages h.bytes k.bytes x y z h.did k.did;
  course = λ c here.
      let d = moved c q k.moments h.messages h.bytes in
      behind f g p q x y (Fronts c (h.messages ++ k.messages) (h.bytes ++ k.bytes)) k.moments h c here
      (fronts_moved c q k.moments h.messages k.messages h.bytes k.bytes (g d) (k.course d (is_at_moved p q c k.moments h.messages h.bytes here)));
}

goes_cuts : (f g : Course → Course) (st : Status) (p q : Place) (x y z : Outside) → Goes f p q x y → Cuts g st q y z → Cuts (λ c. g (f c)) st p x z
goes_cuts f g st p q x y z h k = record {
  moments = h.moments ++ k.moments;
  messages = h.messages ++ k.messages;
  bytes = h.bytes ++ k.bytes;
  did = did_both h.moments k.moments h.messages k.messages h.bytes k.bytes x y z h.did k.did;
  course = λ c here.
      let d = moved c q k.moments h.messages h.bytes in
      behind f g p q x y (Fronts c (h.messages ++ k.messages) (h.bytes ++ k.bytes)) k.moments h c here
      (fronts_moved c q k.moments h.messages k.messages h.bytes k.bytes (g d) (k.course d (is_at_moved p q c k.moments h.messages h.bytes here)));
  end = λ c here.
      let d = moved c q k.moments h.messages h.bytes in
      behind f g p q x y (λ e. e.status ≡ Some st) k.moments h c here (k.end d (is_at_moved p q c k.moments h.messages h.bytes here));
  late = k.late;
}

pub goes_stops : (e : Stop) (f g : Course → Course) (p q : Place) (x y z : Outside) → Goes f p q x y → Stops e g q y z → Stops e (λ c. g (f c)) p x z
goes_stops (stop.Over st) f g p q x y z h k = goes_ends f g st p q x y z h k
goes_stops (stop.Short st) f g p q x y z h k = (goes_cuts f g st p q x y z h k.0, failed_later x y z h.did.kept k.1)
goes_stops (stop.Cut e) f g p q x y z h k = (goes_breaks f g p q x y z h k.0, cause_later e x y z h.did.kept k.1)
goes_stops stop.Left f g p q x y z h k = absurd k

-- ---- a step after one that ended the command

fronts_later : (c r s : Course) (ms : List (List ℕ)) (bs : List ℕ) → Fronts c ms bs r → Grows r s → Fronts c ms bs s
fronts_later c r s ms bs f more = record {
  sent = prefix_trans (c.sent ++ ms) r.sent s.sent f.sent more.sent;
  written = prefix_trans (c.written ++ bs) r.written s.written f.written more.written;
}

fronts_grow : (c d : Course) → Fronts c [] [] d → Grows c d
fronts_grow c d f = record { sent = subst (λ l. IsPrefix l d.sent) (append-nil c.sent) f.sent; written = subst (λ l. IsPrefix l d.written) (append-nil c.written) f.written }

pub breaks_later : (f g : Course → Course) (p : Place) (x y : Outside) → ((c : Course) → Grows c (g c)) → Breaks f p x y → Breaks (λ c. g (f c)) p x y
breaks_later f g p x y grows h =
    record {
      moments = h.moments;
      messages = h.messages;
      bytes = h.bytes;
      did = h.did;
      course = λ c here. let d = f (record c { moments = h.moments }) in fronts_later c d (g d) h.messages h.bytes (h.course c here) (grows d);
    }

pub stops_later : (e : Stop) (f g : Course → Course) (p : Place) (x y : Outside) → Rests g → Stops e f p x y → Stops e (λ c. g (f c)) p x y
stops_later (stop.Over st) f g p x y w h =
    record { moments = h.moments; messages = h.messages; bytes = h.bytes; left = h.left; did = h.did; course = λ c later here. ap g (h.course c later here) ∙ w.same st (moved c h.left later h.messages h.bytes) }
stops_later (stop.Short st) f g p x y w h = (
  record {
    moments = h.0.moments;
    messages = h.0.messages;
    bytes = h.0.bytes;
    did = h.0.did;
    course = λ c here. let d = f (record c { moments = h.0.moments }) in fronts_later c d (g d) h.0.messages h.0.bytes (h.0.course c here) (fronts_grow d (g d) (w.fronts d));
    end = λ c here. w.kept st (f (record c { moments = h.0.moments })) (h.0.end c here);
    late = h.0.late;
  },
  h.1,
)
stops_later (stop.Cut e) f g p x y w h = (breaks_later f g p x y (λ c. fronts_grow c (g c) (w.fronts c)) h.0, h.1)
stops_later stop.Left f g p x y w h = absurd h
