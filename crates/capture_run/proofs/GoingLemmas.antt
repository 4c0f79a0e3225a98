-- A run begins, continues and stops.
use Rattle.std.proofs.Common.{◌≡◌, ℕ, ◌+◌, ◌≤◌, inl, inr, true, false, if◌then◌else◌, List, [], ◌∷◌, ◌++◌, length, take, refl, ap, sym, ◌∙◌, subst, arith, Option, None, Some, IfNone, IfSome, Ok, append_assoc, append-nil}
use Rattle.std.specs.Io.KnownBytes.{Keeps, Appends}
use Rattle.std.proofs.KnownBytes.{Appends-trans, Appends-kept}
use Rattle.std.proofs.lemmas.Bool.Decides.{nat_tests}
use Rattle.etp_outside.specs.Told.{Told}
use Rattle.etp_outside.specs.Whole.{AppendsFront}
use Rattle.etp_outside.proofs.ToldLemmas.{told_weaker, told_trans}
use Rattle.etp_capture.specs.Frames.{magic}
use Rattle.etp_capture.specs.Found.{Whole, Bad, found, next_found}
use Rattle.etp_capture.specs.Capture.{end_at}
use Rattle.etp_capture.specs.Reader.{Reader, after, Answers, Shows, IsNoFrame, IsOneAtMost}
use Rattle.etp_capture.specs.declared.frame.Frame.{Frame}
use Rattle.etp_capture.specs.declared.reader.CaptureError.{CaptureError}
use Rattle.etp_capture.specs.declared.reader.CaptureError.TheVariants as error
use Rattle.capture_run.specs.Form.{Plan, Takes, Closes}
use Rattle.capture_run.specs.Running.{Stream, between, stop_for, stop_of, Leaves, all_of, Stops, Runs, Going, Unwritten, Halts, WritesGathered, Finishes}
use Rattle.capture_run.specs.declared.form.Stop.{Stop}
use Rattle.capture_run.specs.declared.form.Stop.TheVariants.{End, Fault, Refused, Limit, ReadFault, WriteFault, NoMemory}
use Rattle.capture_run.proofs.FrontLemmas.{end_at-more, read_more, moved, more_front}

-- ---- a run begins

-- the magic was read, and what is written before the first frame was written or is still to be
pub going_first : (plan : Plan) (Stands : List Frame → Type 0) (at : ℕ) (nothing first gathered : List ℕ) (a b h k : Option (List ℕ)) → Stands [] → plan.accepts [] ≡ true → at ≡ 8 → nothing ≡ [] → first ≡ nothing ++ plan.written []
    → Told a b (λ xs ys. xs ≡ magic ++ ys) → WritesGathered None first gathered h k → Going plan Stands at gathered (between a b) (between h k)
going_first plan Stands at nothing first gathered a b h k stands accepted place nil is read writes = record {
  frames = [];
  sent = writes.0;
  stands = stands;
  accepted = accepted;
  read = told_weaker a b _ _ (λ xs ys e. (ys, e, refl)) read;
  place = sym place;
  bytes = sym (is ∙ ap (λ l. l ++ plan.written []) nil) ∙ writes.2;
  written = writes.1;
}

-- or it could not be written
pub stops_first : (stop : Stop) (plan : Plan) (nothing first gathered : List ℕ) (a b h k : Option (List ℕ)) → plan.accepts [] ≡ true → nothing ≡ [] → first ≡ nothing ++ plan.written []
    → Told a b (λ xs ys. xs ≡ magic ++ ys) → WritesGathered (Some stop) first gathered h k → Runs stop plan (between a b) (between h k)
stops_first stop plan nothing first gathered a b h k accepted nil is read writes =
    subst (λ (s : Stop). Runs s plan (between a b) (between h k)) (sym writes.0) (
      WriteFault,
      record {
        frames = [];
        accepted = accepted;
        read = told_weaker a b _ _ (λ xs ys e. (ys, (ys, e, refl), refl)) read;
        written = subst (AppendsFront h k) (is ∙ ap (λ l. l ++ plan.written []) nil) writes.1;
      },
    )

-- ---- a run continues

-- what a reader finds after the magic
next_is : (at : ℕ) (xs : List ℕ) → 8 ≤ at → next_found at xs ≡ found at xs
next_is at xs begun = grind (arith, nat_tests)

-- one more frame was taken, and what was gathered was written or is still to be
pub going_more : (plan : Plan) (Old New : List Frame → Type 0) (at offset : ℕ) (f : Frame) (gathered more rest : List ℕ) (a b c h k m : Option (List ℕ)) → 8 ≤ at → offset ≡ at → Told b c (Answers (Ok (Some f)) (next_found at))
    → ((fs : List Frame) → Old fs → end_at 8 fs ≡ offset → Takes false plan fs f New gathered more) → WritesGathered None more rest k m
    → Going plan Old at gathered (between a b) (between h k) → Going plan New (at + (17 + length f.bytes)) rest (between a c) (between h m)
going_more plan Old New at offset f gathered more rest a b c h k m begun here next takes writes going =
    let taken = takes going.frames going.stands (going.place ∙ sym here) in
    record {
      frames = going.frames ++ f ∷ [];
      sent = going.sent ++ writes.0;
      stands = taken.1;
      accepted = taken.0;
      read = read_more a b c going.frames f at going.place going.read (told_weaker b c _ _ (λ xs ys e. sym (next_is at xs begun) ∙ e) next);
      place = end_at-more 8 going.frames f ∙ ap (λ n. n + (17 + length f.bytes)) going.place;
      bytes = taken.2.2 ∙ ap (λ l. l ++ taken.2.0) going.bytes ∙ moved going.sent gathered taken.2.0 writes.0 rest (sym taken.2.1 ∙ writes.2);
      written = Appends-trans h k m going.sent writes.0 going.written writes.1;
    }

-- ---- a run stops

-- what is found after the frames of a run
behind : (plan : Plan) (Stands : List Frame → Type 0) (at : ℕ) (gathered xs : List ℕ) (i o : Stream) (going : Going plan Stands at gathered i o) → 8 ≤ at → next_found at xs ≡ found (end_at 8 going.frames) xs
behind plan Stands at gathered xs i o going begun = next_is at xs begun ∙ ap (λ n. found n xs) (sym going.place)

-- a run stops with nothing more to be written than it has gathered
stopped : (stop : Stop) (plan : Plan) (Stands : List Frame → Type 0) (at : ℕ) (gathered : List ℕ) (a b c h k : Option (List ℕ)) (going : Going plan Stands at gathered (between a b) (between h k)) → all_of stop plan going.frames ≡ plan.written going.frames
    → Told b c (λ ys zs. Leaves stop plan going.frames ys zs) → Unwritten plan stop gathered (between a c) (between h k)
stopped stop plan Stands at gathered a b c h k going same leaves = record {
  sent = going.sent;
  written = going.written;
  stops = record {
    frames = going.frames;
    accepted = going.accepted;
    read = told_trans a b c _ _ _ (λ xs ys zs q v. (ys, q, v)) going.read leaves;
    written = same ∙ going.bytes;
  };
}

-- the bytes stop it
stops_bad : (e : CaptureError) (plan : Plan) (Stands : List Frame → Type 0) (at : ℕ) (gathered : List ℕ) (a b c h k : Option (List ℕ)) → 8 ≤ at → Told b c (λ xs ys. next_found at xs ≡ Bad e)
    → (going : Going plan Stands at gathered (between a b) (between h k)) → Told b c (λ ys zs. stop_of plan going.frames (found (end_at 8 going.frames) ys) ≡ Some (stop_for e))
stops_bad e plan Stands at gathered a b c h k begun told going =
    told_weaker b c _ _ (λ ys zs e. ap (stop_of plan going.frames) (sym (behind plan Stands at gathered ys _ _ going begun) ∙ e)) told

-- an error of the reader stops it
pub halts_error : (e : CaptureError) (plan : Plan) (Stands : List Frame → Type 0) (at : ℕ) (gathered : List ℕ) (a b c h k : Option (List ℕ)) → 8 ≤ at → Told b c (Shows e (next_found at))
    → Going plan Stands at gathered (between a b) (between h k) → Halts (stop_for e) plan gathered (between a c) (between h k)
halts_error error.Magic plan Stands at gathered a b c h k begun told going = stopped (Fault 0) plan Stands at gathered a b c h k going refl (stops_bad error.Magic plan Stands at gathered a b c h k begun told going)
halts_error (error.Kind n) plan Stands at gathered a b c h k begun told going = stopped (Fault n) plan Stands at gathered a b c h k going refl (stops_bad (error.Kind n) plan Stands at gathered a b c h k begun told going)
halts_error (error.Length n) plan Stands at gathered a b c h k begun told going = stopped (Fault n) plan Stands at gathered a b c h k going refl (stops_bad (error.Length n) plan Stands at gathered a b c h k begun told going)
halts_error (error.Cut n) plan Stands at gathered a b c h k begun told going = stopped (Fault n) plan Stands at gathered a b c h k going refl (stops_bad (error.Cut n) plan Stands at gathered a b c h k begun told going)
halts_error error.Limit plan Stands at gathered a b c h k begun told going = stopped Limit plan Stands at gathered a b c h k going refl (stops_bad error.Limit plan Stands at gathered a b c h k begun told going)
halts_error error.ReadFault plan Stands at gathered a b c h k begun told going =
    stopped ReadFault plan Stands at gathered a b c h k going refl
    (told_weaker b c _ _ (λ ys zs t. (t.0, t.1, subst IsNoFrame (behind plan Stands at gathered t.0 _ _ going begun) t.2)) told)
halts_error error.NoMemory plan Stands at gathered a b c h k begun told going =
    stopped NoMemory plan Stands at gathered a b c h k going refl
    (told_weaker b c _ _ (λ ys zs t. inl (t.0, t.1, subst IsOneAtMost (behind plan Stands at gathered t.0 _ _ going begun) t.2)) told)

-- the capture was read to its end
pub halts_end : (plan : Plan) (Stands : List Frame → Type 0) (at refused : ℕ) (gathered all : List ℕ) (a b c h k : Option (List ℕ)) → 8 ≤ at → Told b c (Answers (Ok None) (next_found at))
    → ((fs : List Frame) → Stands fs → Closes plan fs refused gathered all) → Going plan Stands at gathered (between a b) (between h k) → Halts (End refused) plan all (between a c) (between h k)
halts_end plan Stands at refused gathered all a b c h k begun ends closes going =
    let closed = closes going.frames going.stands in
    record {
      sent = going.sent;
      written = going.written;
      stops = record {
        frames = going.frames;
        accepted = going.accepted;
        read = told_trans a b c _ _ _ (λ xs ys zs q v. (ys, q, (closed.count, sym (behind plan Stands at gathered ys _ _ going begun) ∙ v.0, v.1))) going.read ends;
        written = ap (λ l. l ++ plan.last going.frames) going.bytes ∙ append_assoc going.sent gathered (plan.last going.frames) ∙ ap (λ l. going.sent ++ l) (sym closed.bytes);
      };
    }

-- memory ran out at the capture's end
pub halts_unclosed : (plan : Plan) (Stands : List Frame → Type 0) (at : ℕ) (gathered all : List ℕ) (a b c h k : Option (List ℕ)) → 8 ≤ at → Told b c (Answers (Ok None) (next_found at)) → all ≡ gathered
    → Going plan Stands at gathered (between a b) (between h k) → Halts NoMemory plan all (between a c) (between h k)
halts_unclosed plan Stands at gathered all a b c h k begun ends same going =
    subst (λ l. Unwritten plan NoMemory l (between a c) (between h k)) (sym same)
    (stopped NoMemory plan Stands at gathered a b c h k going refl
    (told_weaker b c _ _ (λ ys zs v. inl (ys, sym (append-nil ys) ∙ ap (λ l. ys ++ l) (sym v.1), subst IsOneAtMost (sym v.0 ∙ behind plan Stands at gathered ys _ _ going begun) tt)) ends))

-- the form refuses the frame that was read
pub halts_refused : (plan : Plan) (Old New : List Frame → Type 0) (at offset : ℕ) (f : Frame) (gathered all : List ℕ) (a b c h k : Option (List ℕ)) → 8 ≤ at → offset ≡ at → Told b c (Answers (Ok (Some f)) (next_found at))
    → ((fs : List Frame) → Old fs → end_at 8 fs ≡ offset → Takes true plan fs f New gathered all) → Going plan Old at gathered (between a b) (between h k) → Halts (Refused offset) plan all (between a c) (between h k)
halts_refused plan Old New at offset f gathered all a b c h k begun here next takes going =
    let taken = takes going.frames going.stands (going.place ∙ sym here) in
    let stop : stop_of plan going.frames (Whole f []) ≡ Some (Refused offset) = ap (λ t. if t then None else Some (Refused (end_at 8 going.frames))) taken.0 ∙ ap (λ n. Some (Refused n)) (going.place ∙ sym here) in
    subst (λ l. Unwritten plan (Refused offset) l (between a c) (between h k)) (sym taken.1)
    (stopped (Refused offset) plan Old at gathered a b c h k going refl
    (told_weaker b c _ _ (λ ys zs v. ap (stop_of plan going.frames) (sym (behind plan Old at gathered ys _ _ going begun) ∙ v) ∙ stop) next))

-- memory ran out at the frame that was read
pub halts_untaken : (plan : Plan) (Stands : List Frame → Type 0) (at : ℕ) (f : Frame) (gathered all : List ℕ) (a b c h k : Option (List ℕ)) → 8 ≤ at → Told b c (Answers (Ok (Some f)) (next_found at)) → all ≡ gathered
    → Going plan Stands at gathered (between a b) (between h k) → Halts NoMemory plan all (between a c) (between h k)
halts_untaken plan Stands at f gathered all a b c h k begun next same going =
    subst (λ l. Unwritten plan NoMemory l (between a c) (between h k)) (sym same)
    (stopped NoMemory plan Stands at gathered a b c h k going refl
    (told_weaker b c _ _ (λ ys zs v. inr (f, sym (behind plan Stands at gathered ys _ _ going begun) ∙ v)) next))

-- what was gathered with the frame that was read could not be written
pub halts_unsent : (stop : Stop) (plan : Plan) (Old New : List Frame → Type 0) (at offset : ℕ) (f : Frame) (gathered more rest : List ℕ) (a b c h k m : Option (List ℕ)) → 8 ≤ at → offset ≡ at → Told b c (Answers (Ok (Some f)) (next_found at))
    → ((fs : List Frame) → Old fs → end_at 8 fs ≡ offset → Takes false plan fs f New gathered more) → WritesGathered (Some stop) more rest k m
    → Going plan Old at gathered (between a b) (between h k) → Halts stop plan rest (between a c) (between h m)
halts_unsent stop plan Old New at offset f gathered more rest a b c h k m begun here next takes writes going =
    let taken = takes going.frames going.stands (going.place ∙ sym here) in
    let bytes : plan.written (going.frames ++ f ∷ []) ≡ going.sent ++ more = taken.2.2 ∙ ap (λ l. l ++ taken.2.0) going.bytes ∙ append_assoc going.sent gathered taken.2.0 ∙ ap (λ l. going.sent ++ l) (sym taken.2.1) in
    let found_next = told_weaker b c _ _ (λ xs ys e. sym (next_is at xs begun) ∙ e) next in
    subst (λ (s : Stop). Halts s plan rest (between a c) (between h m)) (sym writes.0) (
      WriteFault,
      record {
        frames = going.frames ++ f ∷ [];
        accepted = taken.0;
        read = told_weaker a c _ _ (λ xs ys q. (ys, q, refl)) (read_more a b c going.frames f at going.place going.read found_next);
        written = subst (AppendsFront h m) (sym bytes) (more_front h k m going.sent more going.written writes.1);
      },
    )

-- a run that is at a frame's offset continues after the frame
pub goes_on : (x : Option Stop) (plan : Plan) (Old New : List Frame → Type 0) (r q : Reader) (offset : ℕ) (f : Frame) (gathered more rest : List ℕ) (b c k m : Option (List ℕ)) → 8 ≤ r.at → offset ≡ r.at
    → (y : Option Frame) → y ≡ Some f → q ≡ after r (Ok y) → Told b c (Answers (Ok (Some f)) (next_found r.at))
    → ((fs : List Frame) → Old fs → end_at 8 fs ≡ offset → Takes false plan fs f New gathered more) → WritesGathered x more rest k m
    → IfNone x ((left held : Option (List ℕ)) → Going plan Old r.at gathered (between left b) (between held k) → Going plan New q.at rest (between left c) (between held m))
goes_on None plan Old New r q offset f gathered more rest b c k m begun here y is state next takes writes =
    λ left held going.
    let place : q.at ≡ r.at + (17 + length f.bytes) = ap (λ (s : Reader). s.at) (state ∙ ap (λ (z : Option Frame). after r (Ok z)) is) ∙ grind arith in
    subst (λ n. Going plan New n rest (between left c) (between held m)) (sym place)
    (going_more plan Old New r.at offset f gathered more rest left b c held k m begun here next takes writes going)
goes_on (Some stop) plan Old New r q offset f gathered more rest b c k m begun here y is state next takes writes = tt

-- or stops there, if what was gathered could not be written
pub halts_on : (x : Option Stop) (plan : Plan) (Old New : List Frame → Type 0) (at offset : ℕ) (f : Frame) (gathered more rest : List ℕ) (b c k m : Option (List ℕ)) → 8 ≤ at → offset ≡ at → Told b c (Answers (Ok (Some f)) (next_found at))
    → ((fs : List Frame) → Old fs → end_at 8 fs ≡ offset → Takes false plan fs f New gathered more) → WritesGathered x more rest k m
    → IfSome x (λ stop. (left held : Option (List ℕ)) → Going plan Old at gathered (between left b) (between held k) → Halts stop plan rest (between left c) (between held m))
halts_on None plan Old New at offset f gathered more rest b c k m begun here next takes writes = tt
halts_on (Some stop) plan Old New at offset f gathered more rest b c k m begun here next takes writes =
    λ left held going.
    halts_unsent stop plan Old New at offset f gathered more rest left b c held k m begun here next takes writes going

-- ---- what was gathered is written at last

written_all : (stop : Stop) (plan : Plan) (gathered : List ℕ) (input : Stream) (h k m : Option (List ℕ)) → Unwritten plan stop gathered input (between h k) → Appends k m gathered → Stops plan stop input (Appends h m)
written_all stop plan gathered input h k m u rest = record {
  frames = u.stops.frames;
  accepted = u.stops.accepted;
  read = u.stops.read;
  written = subst (Appends h m) (sym u.stops.written) (Appends-trans h k m u.sent gathered u.written rest);
}

written_front : (stop : Stop) (plan : Plan) (gathered : List ℕ) (input : Stream) (h k m : Option (List ℕ)) → Unwritten plan stop gathered input (between h k) → AppendsFront k m gathered → Stops plan stop input (AppendsFront h m)
written_front stop plan gathered input h k m u rest = record {
  frames = u.stops.frames;
  accepted = u.stops.accepted;
  read = u.stops.read;
  written = subst (AppendsFront h m) (sym u.stops.written) (more_front h k m u.sent gathered u.written rest);
}

written_before : (stop : Stop) (plan : Plan) (input : Stream) (h k m : Option (List ℕ)) → Keeps k m → Stops plan stop input (AppendsFront h k) → Stops plan stop input (AppendsFront h m)
written_before stop plan input h k m kept s = record {
  frames = s.frames;
  accepted = s.accepted;
  read = s.read;
  written = (s.written.0, s.written.1, Appends-kept h k m (take s.written.0 (all_of stop plan s.frames)) s.written.2 kept);
}

-- a run that has stopped is answered by its stop or, if a write fails in the end, by WriteFault
pub finished : (stop answer : Stop) (plan : Plan) (gathered : List ℕ) (input : Stream) (h k m : Option (List ℕ)) → Halts stop plan gathered input (between h k) → Finishes stop answer gathered k m → Runs answer plan input (between h m)
finished (End n) answer plan gathered input h k m halts (inl e) = subst (λ (s : Stop). Runs s plan input (between h m)) (sym e.0) (inl (written_all (End n) plan gathered input h k m halts e.1))
finished (End n) answer plan gathered input h k m halts (inr e) = subst (λ (s : Stop). Runs s plan input (between h m)) (sym e.0) (End n, written_front (End n) plan gathered input h k m halts e.1)
finished (Fault n) answer plan gathered input h k m halts (inl e) = subst (λ (s : Stop). Runs s plan input (between h m)) (sym e.0) (inl (written_all (Fault n) plan gathered input h k m halts e.1))
finished (Fault n) answer plan gathered input h k m halts (inr e) = subst (λ (s : Stop). Runs s plan input (between h m)) (sym e.0) (Fault n, written_front (Fault n) plan gathered input h k m halts e.1)
finished (Refused n) answer plan gathered input h k m halts (inl e) = subst (λ (s : Stop). Runs s plan input (between h m)) (sym e.0) (inl (written_all (Refused n) plan gathered input h k m halts e.1))
finished (Refused n) answer plan gathered input h k m halts (inr e) = subst (λ (s : Stop). Runs s plan input (between h m)) (sym e.0) (Refused n, written_front (Refused n) plan gathered input h k m halts e.1)
finished Limit answer plan gathered input h k m halts (inl e) = subst (λ (s : Stop). Runs s plan input (between h m)) (sym e.0) (inl (written_all Limit plan gathered input h k m halts e.1))
finished Limit answer plan gathered input h k m halts (inr e) = subst (λ (s : Stop). Runs s plan input (between h m)) (sym e.0) (Limit, written_front Limit plan gathered input h k m halts e.1)
finished ReadFault answer plan gathered input h k m halts (inl e) = subst (λ (s : Stop). Runs s plan input (between h m)) (sym e.0) (inl (written_all ReadFault plan gathered input h k m halts e.1))
finished ReadFault answer plan gathered input h k m halts (inr e) = subst (λ (s : Stop). Runs s plan input (between h m)) (sym e.0) (ReadFault, written_front ReadFault plan gathered input h k m halts e.1)
finished NoMemory answer plan gathered input h k m halts (inl e) = subst (λ (s : Stop). Runs s plan input (between h m)) (sym e.0) (inl (written_all NoMemory plan gathered input h k m halts e.1))
finished NoMemory answer plan gathered input h k m halts (inr e) = subst (λ (s : Stop). Runs s plan input (between h m)) (sym e.0) (NoMemory, written_front NoMemory plan gathered input h k m halts e.1)
finished WriteFault answer plan gathered input h k m halts e = subst (λ (s : Stop). Runs s plan input (between h m)) (sym e.0) (halts.0, written_before halts.0 plan input h k m e.1 halts.1)
