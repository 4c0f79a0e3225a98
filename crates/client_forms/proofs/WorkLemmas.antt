-- Steps of a command: an ask, the close of its session, and bytes that it writes.
use Rattle.std.proofs.Common.{◌≡◌, ◌≤◌, ℕ, ℤ, List, [], ◌∷◌, ◌++◌, take, drop, Option, None, Some, Result, Ok, Err, arith, inl, refl, ap, sym, subst, ◌∙◌, append_assoc}
use Rattle.std.specs.Io.KnownBytes.{Appends}
use Rattle.std.proofs.KnownBytes.{Appends-nil}
use Rattle.std.proofs.lemmas.List.{append-nil, take-append-drop}
use mathlib.Core.List.{IsPrefix}
use Rattle.etp_outside.specs.Faults.{Rose}
use Rattle.etp_outside.specs.Told.{Told}
use Rattle.etp_outside.specs.Whole.{AppendsFront, WritesAll}
use Rattle.etp_outside.specs.declared.status.Status.{Status}
use Rattle.etp_outside.specs.declared.status.Status.TheVariants as status
use Rattle.etp_outside.specs.declared.whole.Written.{Written}
use Rattle.etp_outside.specs.declared.whole.Written.TheVariants as written
use Rattle.etp_outside.proofs.ToldLemmas.{told_self}
use Rattle.client_core.specs.Asking.{asked}
use Rattle.client_core.specs.State.{State}
use Rattle.client_core.specs.Taking.{FailsBy}
use Rattle.client_core.specs.declared.ask.Ask.{Ask}
use Rattle.client_core.specs.declared.ask.Ask.TheVariants as ask
use Rattle.client_core.specs.declared.got.ClientError.{ClientError}
use Rattle.client_core.specs.declared.got.ClientError.TheVariants as error
use Rattle.client_forms.specs.Ctl.{Course, Place, Stage, drained, ends, writes, asks, closes, unclosed}
use Rattle.client_forms.specs.Sending.{SendsAll, SendsFront, SendCause, sent_by, closed_by, short_by, unsent_by, refused_by, unclosed_by, written_by}
use Rattle.client_forms.specs.Work.{Line, Output, Input, outside, place, Says, Kept, Did, IsAt, IsLate, MayClose, moved, Goes, Ends, Fronts, Breaks, Cuts, Stops, Works}
use Rattle.client_forms.specs.declared.stop.Cause.{Cause}
use Rattle.client_forms.specs.declared.stop.Cause.TheVariants as cause
use Rattle.client_forms.specs.declared.stop.Stop.TheVariants as stop
use Rattle.client_forms.proofs.CourseLemmas.{stepped, set_at, ask_done, ask_refused, close_done, close_refused, asks_grows, closes_grows, Grows}
use Rattle.client_forms.proofs.SendLemmas.{quiet}

-- a clock returned one more moment
abbrev pub OneMoment : ℤ → Option (List ℤ) → Option (List ℤ) → Type 0
OneMoment moment old new = Told old new (λ xs ys. ys ≡ xs ++ moment ∷ [])

pub no_less : (n : ℕ) → n ≤ n
no_less n = omega arith

-- a link was sent to: its faults did not fall, and its peer has ended it no more than before
pub record Used (l m : Line) : Type 0 where
  pub kept : l.faults ≤ m.faults
  pub ended : m.ended ≡ l.ended

pub unused : (l : Line) → Used l l
unused l = record { kept = no_less l.faults; ended = refl }

used_kept : (l m : Line) (told later : Option (List ℤ)) (o : Output) (i : Input) → Used l m → Kept (outside l told o i) (outside m later o i)
used_kept l m told later o i u = record { line = u.kept; output = no_less o.faults; input = no_less i.faults; ended = u.ended }

did_ask : (moment : ℤ) (messages : List (List ℕ)) (l m : Line) (told later : Option (List ℤ)) (o : Output) (i : Input) → Told l.talk m.talk (Says messages) → Used l m → OneMoment moment told later → Did (moment ∷ []) messages [] (outside l told o i) (outside m later o i)
did_ask moment messages l m told later o i said used tick = record { told = tick; said = said; written = Appends-nil o.held; kept = used_kept l m told later o i used }

prefix_of_nothing : {X : Type 0} (xs ys : List X) → IsPrefix xs ys → IsPrefix (xs ++ []) ys
prefix_of_nothing xs ys p = subst (λ l. IsPrefix l ys) (sym (append-nil xs)) p

pub fronts_grown : (c d : Course) → Grows c d → Fronts c [] [] d
fronts_grown c d g = record { sent = prefix_of_nothing c.sent d.sent g.sent; written = prefix_of_nothing c.written d.written g.written }

-- a prefix of messages, before a course that has them all
front_sent : (c : Course) (q : Place) (end : Course → Course) (messages front rest : List (List ℕ)) (r : Course) → front ++ rest ≡ messages → ((d : Course) → (end d).sent ≡ d.sent) → ((d : Course) → (end d).written ≡ d.written) → r ≡ end (moved c q [] messages []) → Fronts c front [] r
front_sent c q end messages front rest r whole same_sent same_written e =
    subst (λ (d : Course). Fronts c front [] d) (sym e)
    (record {
      sent = (rest, append_assoc c.sent front rest ∙ ap (λ l. c.sent ++ l) whole ∙ sym (same_sent (moved c q [] messages [])));
      written = ([], append-nil (c.written ++ []) ∙ sym (same_written (moved c q [] messages [])));
    })

-- ---- an ask

-- it was done, and a prefix of it sent
ask_cut : (a : Ask) (moment id : ℤ) (s mid : State) (stage : Stage) (l m : Line) (told later : Option (List ℤ)) (o : Output) (i : Input) → (asked s a moment).result ≡ Ok id → mid ≡ (asked s a moment).state → SendsFront mid.out l.talk m.talk → Used l m → OneMoment moment told later → Breaks (asks a) (place s stage) (outside l told o i) (outside m later o i)
ask_cut a moment id s mid stage l m told later o i ok is_mid f used tick =
    record {
      moments = moment ∷ [];
      messages = f.front;
      bytes = [];
      did = did_ask moment f.front l m told later o i f.said used tick;
      course = λ c here. front_sent c (place (drained mid) stage) (λ d. d) mid.out f.front f.rest (asks a (record c { moments = moment ∷ [] })) f.whole (λ d. refl) (λ d. refl)
          (stepped (asks a) (place s stage) (place (drained mid) stage) (moment ∷ []) mid.out [] (λ d. d) (ask_done a s mid stage moment id ok is_mid) c [] here);
    }

pub ask_sent : (r : Result (Unit {0}) Cause) (a : Ask) (moment id : ℤ) (s mid t : State) (stage : Stage) (l m : Line) (told later : Option (List ℤ)) (o : Output) (i : Input) → (asked s a moment).result ≡ Ok id → mid ≡ (asked s a moment).state → SendsAll r mid t l.talk m.talk → SendCause r l.faults m.faults → Used l m → OneMoment moment told later → Works (sent_by r) (asks a) (place s stage) (place t stage) (outside l told o i) (outside m later o i)
ask_sent (Ok u) a moment id s mid t stage l m told later o i ok is_mid h why used tick =
    subst (λ v. Goes (asks a) (place s stage) (place v stage) (outside l told o i) (outside m later o i)) (sym h.0)
    (record {
      moments = moment ∷ [];
      messages = mid.out;
      bytes = [];
      did = did_ask moment mid.out l m told later o i h.1 used tick;
      course = stepped (asks a) (place s stage) (place (drained mid) stage) (moment ∷ []) mid.out [] (λ d. d) (ask_done a s mid stage moment id ok is_mid);
    })
ask_sent (Err cause.Link) a moment id s mid t stage l m told later o i ok is_mid h why used tick = (ask_cut a moment id s mid stage l m told later o i ok is_mid h used tick, why)
ask_sent (Err cause.Output) a moment id s mid t stage l m told later o i ok is_mid h why used tick = absurd why
ask_sent (Err cause.Input) a moment id s mid t stage l m told later o i ok is_mid h why used tick = absurd why
ask_sent (Err cause.Memory) a moment id s mid t stage l m told later o i ok is_mid h why used tick = (ask_cut a moment id s mid stage l m told later o i ok is_mid h used tick, tt)

-- memory ran out for a step that takes a moment first
at_moment : (f : Course → Course) (moment : ℤ) (p : Place) (l : Line) (told later : Option (List ℤ)) (o : Output) (i : Input) → ((c : Course) → Grows c (f c)) → OneMoment moment told later → Breaks f p (outside l told o i) (outside l later o i)
at_moment f moment p l told later o i grows tick =
    record {
      moments = moment ∷ [];
      messages = [];
      bytes = [];
      did = did_ask moment [] l l told later o i (quiet l.talk) (unused l) tick;
      course = λ c here. let g = grows (record c { moments = moment ∷ [] }) in fronts_grown c (f (record c { moments = moment ∷ [] })) (record { sent = g.sent; written = g.written });
    }

ask_ends : (a : Ask) (moment : ℤ) (e : ClientError) (s t : State) (stage : Stage) (l : Line) (told later : Option (List ℤ)) (o : Output) (i : Input) → (asked s a moment).result ≡ Err e → t ≡ (asked s a moment).state → OneMoment moment told later → Ends (asks a) status.Limit (place s stage) (outside l told o i) (outside l later o i)
ask_ends a moment e s t stage l told later o i err is_t tick =
    record {
      moments = moment ∷ [];
      messages = [];
      bytes = [];
      left = place t stage;
      did = did_ask moment [] l l told later o i (quiet l.talk) (unused l) tick;
      course = stepped (asks a) (place s stage) (place t stage) (moment ∷ []) [] [] (ends status.Limit) (ask_refused a s t stage moment e err is_t);
    }

-- the client refused it, or memory ran out
pub ask_failed : (e : ClientError) (a : Ask) (moment : ℤ) (s t : State) (stage : Stage) (l : Line) (told later : Option (List ℤ)) (o : Output) (i : Input) → FailsBy e (asked s a moment) s t → OneMoment moment told later → Stops (refused_by e) (asks a) (place s stage) (outside l told o i) (outside l later o i)
ask_failed error.NoMemory a moment s t stage l told later o i h tick = (at_moment (asks a) moment (place s stage) l told later o i (asks_grows a) tick, tt)
ask_failed (error.Frame x) a moment s t stage l told later o i h tick = ask_ends a moment (error.Frame x) s t stage l told later o i h.0 h.1 tick
ask_failed (error.Id x) a moment s t stage l told later o i h tick = ask_ends a moment (error.Id x) s t stage l told later o i h.0 h.1 tick
ask_failed (error.Unasked x) a moment s t stage l told later o i h tick = ask_ends a moment (error.Unasked x) s t stage l told later o i h.0 h.1 tick
ask_failed error.State a moment s t stage l told later o i h tick = ask_ends a moment error.State s t stage l told later o i h.0 h.1 tick
ask_failed (error.Join x) a moment s t stage l told later o i h tick = ask_ends a moment (error.Join x) s t stage l told later o i h.0 h.1 tick
ask_failed (error.Refused x y) a moment s t stage l told later o i h tick = ask_ends a moment (error.Refused x y) s t stage l told later o i h.0 h.1 tick
ask_failed (error.Stopped x) a moment s t stage l told later o i h tick = ask_ends a moment (error.Stopped x) s t stage l told later o i h.0 h.1 tick

-- ---- the close of a session

-- it was done, and a prefix of it sent
record CloseCut (st : Status) (p : Place) (front : List (List ℕ)) (moment : ℤ) : Type 0 where
  pub fronts : (c : Course) → IsAt p c → Fronts c front [] (closes st (record c { moments = moment ∷ [] }))
  pub end : (c : Course) → IsAt p c → (closes st (record c { moments = moment ∷ [] })).status ≡ Some st

close_front : (st : Status) (moment id : ℤ) (s mid : State) (stage : Stage) (front rest : List (List ℕ)) → (asked s ask.Close moment).result ≡ Ok id → mid ≡ (asked s ask.Close moment).state → front ++ rest ≡ mid.out → CloseCut st (place s stage) front moment
close_front st moment id s mid stage front rest ok is_mid whole =
    let all : (c : Course) → IsAt (place s stage) c → closes st (record c { moments = moment ∷ [] }) ≡ ends st (moved c (place (drained mid) stage) [] mid.out []) =
    λ c here. stepped (closes st) (place s stage) (place (drained mid) stage) (moment ∷ []) mid.out [] (ends st) (close_done st s mid stage moment id ok is_mid) c [] here in
    record {
      fronts = λ c here. front_sent c (place (drained mid) stage) (ends st) mid.out front rest (closes st (record c { moments = moment ∷ [] })) whole (λ d. refl) (λ d. refl) (all c here);
      end = λ c here. ap (λ (d : Course). d.status) (all c here);
    }

close_breaks : (st : Status) (moment id : ℤ) (s mid : State) (stage : Stage) (l m : Line) (told later : Option (List ℤ)) (o : Output) (i : Input) → (asked s ask.Close moment).result ≡ Ok id → mid ≡ (asked s ask.Close moment).state → SendsFront mid.out l.talk m.talk → Used l m → OneMoment moment told later → Breaks (closes st) (place s stage) (outside l told o i) (outside m later o i)
close_breaks st moment id s mid stage l m told later o i ok is_mid f used tick =
    let cut = close_front st moment id s mid stage f.front f.rest ok is_mid f.whole in
    record { moments = moment ∷ []; messages = f.front; bytes = []; did = did_ask moment f.front l m told later o i f.said used tick; course = cut.fronts }

close_cuts : (st : Status) → IsLate st → (moment id : ℤ) (s mid : State) (stage : Stage) (l m : Line) (told later : Option (List ℤ)) (o : Output) (i : Input) → (asked s ask.Close moment).result ≡ Ok id → mid ≡ (asked s ask.Close moment).state → SendsFront mid.out l.talk m.talk → Used l m → OneMoment moment told later → Cuts (closes st) st (place s stage) (outside l told o i) (outside m later o i)
close_cuts st late moment id s mid stage l m told later o i ok is_mid f used tick =
    let cut = close_front st moment id s mid stage f.front f.rest ok is_mid f.whole in
    record { moments = moment ∷ []; messages = f.front; bytes = []; did = did_ask moment f.front l m told later o i f.said used tick; course = cut.fronts; end = cut.end; late = late }

-- a command that ends with a status of its own, whose last message was not sent
close_short : (e : Cause) (st : Status) → IsLate st → (moment id : ℤ) (s mid : State) (stage : Stage) (l m : Line) (told later : Option (List ℤ)) (o : Output) (i : Input) → (asked s ask.Close moment).result ≡ Ok id → mid ≡ (asked s ask.Close moment).state → SendsFront mid.out l.talk m.talk → SendCause (Err e) l.faults m.faults → Used l m → OneMoment moment told later → Stops (short_by st e) (closes st) (place s stage) (outside l told o i) (outside m later o i)
close_short cause.Link st late moment id s mid stage l m told later o i ok is_mid f why used tick = (close_cuts st late moment id s mid stage l m told later o i ok is_mid f used tick, inl why)
close_short cause.Output st late moment id s mid stage l m told later o i ok is_mid f why used tick = absurd why
close_short cause.Input st late moment id s mid stage l m told later o i ok is_mid f why used tick = absurd why
close_short cause.Memory st late moment id s mid stage l m told later o i ok is_mid f why used tick = (close_breaks st moment id s mid stage l m told later o i ok is_mid f used tick, tt)

close_cut_off : (e : Cause) (moment id : ℤ) (s mid : State) (stage : Stage) (l m : Line) (told later : Option (List ℤ)) (o : Output) (i : Input) → (asked s ask.Close moment).result ≡ Ok id → mid ≡ (asked s ask.Close moment).state → SendsFront mid.out l.talk m.talk → SendCause (Err e) l.faults m.faults → Used l m → OneMoment moment told later → Stops (stop.Cut e) (closes status.Done) (place s stage) (outside l told o i) (outside m later o i)
close_cut_off cause.Link moment id s mid stage l m told later o i ok is_mid f why used tick = (close_breaks status.Done moment id s mid stage l m told later o i ok is_mid f used tick, why)
close_cut_off cause.Output moment id s mid stage l m told later o i ok is_mid f why used tick = absurd why
close_cut_off cause.Input moment id s mid stage l m told later o i ok is_mid f why used tick = absurd why
close_cut_off cause.Memory moment id s mid stage l m told later o i ok is_mid f why used tick = (close_breaks status.Done moment id s mid stage l m told later o i ok is_mid f used tick, tt)

close_unsent : (st : Status) → MayClose st → (e : Cause) (moment id : ℤ) (s mid : State) (stage : Stage) (l m : Line) (told later : Option (List ℤ)) (o : Output) (i : Input) → (asked s ask.Close moment).result ≡ Ok id → mid ≡ (asked s ask.Close moment).state → SendsFront mid.out l.talk m.talk → SendCause (Err e) l.faults m.faults → Used l m → OneMoment moment told later → Stops (unsent_by st e) (closes st) (place s stage) (outside l told o i) (outside m later o i)
close_unsent status.Done may e moment id s mid stage l m told later o i ok is_mid f why used tick = close_cut_off e moment id s mid stage l m told later o i ok is_mid f why used tick
close_unsent (status.Refused n) may e moment id s mid stage l m told later o i ok is_mid f why used tick = close_short e (status.Refused n) may moment id s mid stage l m told later o i ok is_mid f why used tick
close_unsent status.Stopped may e moment id s mid stage l m told later o i ok is_mid f why used tick = close_short e status.Stopped may moment id s mid stage l m told later o i ok is_mid f why used tick
close_unsent st may e moment id s mid stage l m told later o i ok is_mid f why used tick = absurd may

pub close_sent : (r : Result (Unit {0}) Cause) (st : Status) → MayClose st → (moment id : ℤ) (s mid t : State) (stage : Stage) (l m : Line) (told later : Option (List ℤ)) (o : Output) (i : Input) → (asked s ask.Close moment).result ≡ Ok id → mid ≡ (asked s ask.Close moment).state → SendsAll r mid t l.talk m.talk → SendCause r l.faults m.faults → Used l m → OneMoment moment told later → Stops (closed_by st r) (closes st) (place s stage) (outside l told o i) (outside m later o i)
close_sent (Ok u) st may moment id s mid t stage l m told later o i ok is_mid h why used tick =
    record {
      moments = moment ∷ [];
      messages = mid.out;
      bytes = [];
      left = place (drained mid) stage;
      did = did_ask moment mid.out l m told later o i h.1 used tick;
      course = stepped (closes st) (place s stage) (place (drained mid) stage) (moment ∷ []) mid.out [] (ends st) (close_done st s mid stage moment id ok is_mid);
    }
close_sent (Err e) st may moment id s mid t stage l m told later o i ok is_mid h why used tick = close_unsent st may e moment id s mid stage l m told later o i ok is_mid h why used tick

close_ends : (st : Status) (moment : ℤ) (e : ClientError) (s t : State) (stage : Stage) (l : Line) (told later : Option (List ℤ)) (o : Output) (i : Input) → (asked s ask.Close moment).result ≡ Err e → t ≡ (asked s ask.Close moment).state → OneMoment moment told later → Ends (closes st) (unclosed st) (place s stage) (outside l told o i) (outside l later o i)
close_ends st moment e s t stage l told later o i err is_t tick =
    record {
      moments = moment ∷ [];
      messages = [];
      bytes = [];
      left = place t stage;
      did = did_ask moment [] l l told later o i (quiet l.talk) (unused l) tick;
      course = stepped (closes st) (place s stage) (place t stage) (moment ∷ []) [] [] (ends (unclosed st)) (close_refused st s t stage moment e err is_t);
    }

pub close_failed : (e : ClientError) (st : Status) (moment : ℤ) (s t : State) (stage : Stage) (l : Line) (told later : Option (List ℤ)) (o : Output) (i : Input) → FailsBy e (asked s ask.Close moment) s t → OneMoment moment told later → Stops (unclosed_by st e) (closes st) (place s stage) (outside l told o i) (outside l later o i)
close_failed error.NoMemory st moment s t stage l told later o i h tick = (at_moment (closes st) moment (place s stage) l told later o i (closes_grows st) tick, tt)
close_failed (error.Frame x) st moment s t stage l told later o i h tick = close_ends st moment (error.Frame x) s t stage l told later o i h.0 h.1 tick
close_failed (error.Id x) st moment s t stage l told later o i h tick = close_ends st moment (error.Id x) s t stage l told later o i h.0 h.1 tick
close_failed (error.Unasked x) st moment s t stage l told later o i h tick = close_ends st moment (error.Unasked x) s t stage l told later o i h.0 h.1 tick
close_failed error.State st moment s t stage l told later o i h tick = close_ends st moment error.State s t stage l told later o i h.0 h.1 tick
close_failed (error.Join x) st moment s t stage l told later o i h tick = close_ends st moment (error.Join x) s t stage l told later o i h.0 h.1 tick
close_failed (error.Refused x y) st moment s t stage l told later o i h tick = close_ends st moment (error.Refused x y) s t stage l told later o i h.0 h.1 tick
close_failed (error.Stopped x) st moment s t stage l told later o i h tick = close_ends st moment (error.Stopped x) s t stage l told later o i h.0 h.1 tick

pub late_may : (st : Status) → IsLate st → MayClose st
late_may status.Done late = tt
late_may st late = late

-- ---- bytes that are written

pub written_kept : (l : Line) (told : Option (List ℤ)) (o q : Output) (i : Input) → o.faults ≤ q.faults → Kept (outside l told o i) (outside l told q i)
written_kept l told o q i less = record { line = no_less l.faults; output = less; input = no_less i.faults; ended = refl }

did_write : (bytes : List ℕ) (l : Line) (told : Option (List ℤ)) (o q : Output) (i : Input) → o.faults ≤ q.faults → Appends o.held q.held bytes → Did [] [] bytes (outside l told o i) (outside l told q i)
did_write bytes l told o q i less h = record { told = told_self told (λ xs ys. ys ≡ xs ++ []) (λ xs. sym (append-nil xs)); said = quiet l.talk; written = h; kept = written_kept l told o q i less }

wrote : (bytes : List ℕ) (p : Place) (c : Course) (later : List ℤ) → writes bytes (record c { at = p; status = None; moments = [] ++ later }) ≡ moved (set_at p c) p later [] bytes
wrote bytes p c later = ap (λ m. record c { at = p; status = None; moments = later; sent = m; written = c.written ++ bytes }) (sym (append-nil c.sent))

pub write_goes : (bytes : List ℕ) (p : Place) (l : Line) (told : Option (List ℤ)) (o q : Output) (i : Input) → o.faults ≤ q.faults → Appends o.held q.held bytes → Goes (writes bytes) p p (outside l told o i) (outside l told q i)
write_goes bytes p l told o q i less h =
    record { moments = []; messages = []; bytes = bytes; did = did_write bytes l told o q i less h; course = stepped (writes bytes) p p [] [] bytes (λ d. d) (wrote bytes p) }

pub write_breaks : (bytes : List ℕ) (p : Place) (l : Line) (told : Option (List ℤ)) (o q : Output) (i : Input) → o.faults ≤ q.faults → AppendsFront o.held q.held bytes → Breaks (writes bytes) p (outside l told o i) (outside l told q i)
write_breaks bytes p l told o q i less f =
    record {
      moments = [];
      messages = [];
      bytes = take f.0 bytes;
      did = did_write (take f.0 bytes) l told o q i less f.2;
      course = λ c here. record {
        sent = ([], append-nil (c.sent ++ []) ∙ append-nil c.sent);
        written = (drop f.0 bytes, append_assoc c.written (take f.0 bytes) (drop f.0 bytes) ∙ ap (λ w. c.written ++ w) (take-append-drop f.0 bytes));
      };
    }

-- what came of writing
pub write_works : (w : Written) (bytes : List ℕ) (p : Place) (l : Line) (told : Option (List ℤ)) (o q : Output) (i : Input) → o.faults ≤ q.faults → WritesAll w bytes o.held q.held → (w ≡ written.Failed → Rose o.faults q.faults) → Works (written_by w) (writes bytes) p p (outside l told o i) (outside l told q i)
write_works written.Done bytes p l told o q i less h why = write_goes bytes p l told o q i less h
write_works written.Failed bytes p l told o q i less h why = (write_breaks bytes p l told o q i less h, why refl)
