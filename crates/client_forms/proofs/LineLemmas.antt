-- What reading a line leaves of a reader.
use Rattle.std.proofs.Common.{◌≡◌, ◌≢◌, ◌+◌, ◌<◌, ◌≤◌, ℕ, false, List, [], ◌∷◌, ◌++◌, length, Option, None, Some, Result, Ok, Err, refl, ap, sym, ◌∙◌, append_assoc, arith}
use Rattle.std.proofs.lemmas.List.{append-nil, append_cancel_left, length-append}
use Rattle.etp_outside.proofs.FaultLemmas.{rose_later}
use Rattle.client_core.specs.declared.ask.Ask.TheVariants as asked
use Rattle.etp_outside.specs.declared.status.Status.TheVariants as status
use Rattle.etp_values.specs.declared.point.Point.{Point}
use Rattle.point_lines.specs.Lines.{HasGiven, HasGivenAll, MeetsLong, Reading, lines_in}
use Rattle.point_lines.specs.Points.{point_in}
use Rattle.client_forms.specs.Ctl.{Course, asks, loads_from}
use Rattle.client_forms.specs.Filling.{Adds, HasReadAll, HasReadTo, Holds, IsAtLine, ReadsFor, StopsRead, Turns, turned}
use Rattle.client_forms.specs.Loading.{of_channel}
use Rattle.client_forms.specs.declared.batch.Batch.{Batch}
use Rattle.client_forms.specs.declared.loading.Reader.{Reader}
use Rattle.client_forms.specs.declared.stop.Cause.TheVariants as cause
use Rattle.client_forms.specs.declared.stop.Stop.{Stop}
use Rattle.client_forms.specs.declared.stop.Stop.TheVariants as stop
use Rattle.client_forms.proofs.FillLemmas.{full_line, has_long, long_line, none_left, others, taken_line}

-- ---- what reading on gave

-- the reader is at the next line
pub at_line : (bytes : List ℕ) (before left : Option (List ℕ)) (r : Reader) (now : Reading) (f : Course → Course) (h : ReadsFor bytes before r f) → HasGiven (Some bytes) left now (h.read.given ++ now.line ∷ []) → length now.line ≤ 65536
    → IsAtLine bytes left (record r { lines = now }) f
at_line bytes before left r now f h gave short =
    let more = others bytes left now (h.read.given ++ now.line ∷ []) gave in
    let whole : lines_in bytes ≡ h.read.given ++ now.line ∷ more.0 = more.1 ∙ append_assoc h.read.given (now.line ∷ []) more.0 in
    let same : h.later ≡ now.line ∷ more.0 = append_cancel_left h.read.given h.later (now.line ∷ more.0) (sym h.read.all ∙ whole) in
    record {
      held = h.held;
      later = more.0;
      given = h.read.given;
      gave = gave;
      all = whole;
      count = h.read.count;
      holds = h.read.holds;
      short = short;
      same = λ c. h.same c ∙ ap (λ l. loads_from r.batch.channel r.kind (r.count + 1) h.held l c) same;
    }

-- there is no further line
pub at_end : (bytes : List ℕ) (before left : Option (List ℕ)) (r : Reader) (now : Reading) (f : Course → Course) (h : ReadsFor bytes before r f) → HasGivenAll (Some bytes) left h.read.given → HasReadAll bytes left (record r { lines = now }) f
at_end bytes before left r now f h gave =
    let whole : lines_in bytes ≡ h.read.given = none_left bytes left h.read.given gave in
    let same : h.later ≡ [] = append_cancel_left h.read.given h.later [] (sym h.read.all ∙ whole ∙ sym (append-nil h.read.given)) in
    record {
      held = h.held;
      holds = h.read.holds;
      end = gave.end;
      count = ap length whole ∙ h.read.count;
      same = λ c. h.same c ∙ ap (λ l. loads_from r.batch.channel r.kind (r.count + 1) h.held l c) same;
    }

limit_undone : status.Limit ≢ status.Done
limit_undone e = cc

-- the next line is too long
pub at_long : (bytes : List ℕ) (before left : Option (List ℕ)) (r : Reader) (f : Course → Course) (x y : ℕ) (h : ReadsFor bytes before r f) → MeetsLong (Some bytes) left h.read.given → StopsRead (stop.Over status.Limit) f x y
at_long bytes before left r f x y h meets =
    let begun = has_long bytes left h.read.given meets in
    let same : h.later ≡ begun.long ∷ begun.later = append_cancel_left h.read.given h.later (begun.long ∷ begun.later) (sym h.read.all ∙ begun.lines) in
    let long : 65536 < length begun.long = let k : 65537 ≤ length begun.long = begun.as_long in omega (arith, k) in
    (limit_undone, λ c. h.same c ∙ ap (λ l. loads_from r.batch.channel r.kind (r.count + 1) h.held l c) same ∙ long_line r.batch.channel r.kind (r.count + 1) h.held begun.long begun.later c long)

-- a reading that had begun before
pub stops_later : (e : Stop) (f : Course → Course) (before mid now : ℕ) → before ≤ mid → StopsRead e f mid now → StopsRead e f before now
stops_later (stop.Over st) f before mid now less h = h
stops_later (stop.Short st) f before mid now less h = absurd h
stops_later (stop.Cut cause.Link) f before mid now less h = absurd h
stops_later (stop.Cut cause.Output) f before mid now less h = absurd h
stops_later (stop.Cut cause.Input) f before mid now less h = rose_later before mid now less h
stops_later (stop.Cut cause.Memory) f before mid now less h = tt
stops_later stop.Left f before mid now less h = absurd h

-- ---- the point of the line

-- the reader with this many lines read, and this message
abbrev pub reader_with : Reader → ℕ → Batch → Reader
reader_with r count b = record r { count = count; batch = b }

module _ (bytes : List ℕ) (left : Option (List ℕ)) (r : Reader) (f : Course → Course) (p : Point) (n : ℕ) (is : n ≡ r.count + 1) (h : IsAtLine bytes left r f) (point : point_in r.kind r.lines.line ≡ Some p) where
  read_to : (b : Batch) (held : List Point) → Holds b held → HasReadTo bytes left (reader_with r n b) held h.later
  read_to b held holds = record {
    given = h.given ++ r.lines.line ∷ [];
    gave = h.gave;
    all = h.all ∙ sym (append_assoc h.given (r.lines.line ∷ []) h.later);
    count = length-append h.given (r.lines.line ∷ []) ∙ ap (λ k. k + 1) h.count ∙ sym is;
    holds = holds;
  }

  -- what is left to do, by the reader as it is then
  same_left : (b : Batch) (held : List Point) (c : Course) → b.channel ≡ r.batch.channel → loads_from r.batch.channel r.kind (r.count + 1 + 1) held h.later c ≡ loads_from b.channel r.kind (n + 1) held h.later c
  same_left b held c channel = λ j. loads_from (sym channel j) r.kind (sym is j + 1) held h.later c

  pub added : {E : Type 0} (a : Result (Option Batch) E) (b : Batch) (x y : ℕ) → Adds a r.batch b h.held p → Turns (turned a) bytes left x y (reader_with r n b) f
  added (Ok None) b x y made = record {
    held = h.held ++ p ∷ [];
    later = h.later;
    read = read_to b (h.held ++ p ∷ []) made.2;
    same = λ c. h.same c ∙ taken_line r.batch.channel r.kind (r.count + 1) h.held r.lines.line h.later p h.short point c made.0 ∙ same_left b (h.held ++ p ∷ []) c made.1;
  }
  added (Ok (Some full)) b x y made = record {
    rest = loads_from b.channel r.kind (n + 1) (p ∷ []) h.later;
    reads = record { held = p ∷ []; later = h.later; read = read_to b (p ∷ []) made.2; same = λ c. refl };
    same = λ c.
        let d = asks (asked.Load (of_channel r.batch.channel h.held)) c in
        h.same c ∙ full_line r.batch.channel r.kind (r.count + 1) h.held r.lines.line h.later p h.short point c made.0 ∙ same_left b (p ∷ []) d made.1
        ∙ ap (λ l. loads_from b.channel r.kind (n + 1) (p ∷ []) h.later (asks (asked.Load l) c)) (sym made.3);
  }
  added (Err e) b x y made = tt

-- ---- the beginning

pub first_reading : (bytes : List ℕ) → HasGiven (Some bytes) (Some bytes) (record { line = []; ahead = []; over = false }) []
first_reading bytes = record { taken = []; consumed = refl; lines = λ rest k. refl; end = λ e. cc }
