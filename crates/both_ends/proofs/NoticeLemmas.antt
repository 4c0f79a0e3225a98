-- The change that a client reads in a notice is the one from which it was made.
use Rattle.std.proofs.Common.{◌≡◌, ℕ, ℤ, pos, true, false, ◌&&◌, ◌||◌, List, [], ◌∷◌, ◌++◌, Option, Some, None, fold, map, option_map, if◌then◌else◌, filter, refl, sym, ap, subst, ◌∙◌, append-nil, append_assoc}
use Rattle.std.specs.List.{list_all}
use Rattle.std.specs.Ordering.{int_eq}
use Rattle.etp_values.proofs.IntLemmas.{int_eq_self}
use Rattle.channel_rows.specs.Notices.{interval_of, notice_of}
use Rattle.channel_rows.specs.Points.{items_of}
use Rattle.channel_store.specs.declared.change.What.{What}
use Rattle.channel_store.specs.declared.change.What.TheVariants.{Append, Replace, Truncate}
use Rattle.client_core.specs.Answers.{due_at}
use Rattle.client_core.specs.Joining.{grown, is_broken}
use Rattle.client_core.specs.Notices.{follows, is_live}
use Rattle.client_core.specs.State.{Heard}
use Rattle.client_core.specs.Taking.{by_changes, by_due, fails, gives, may_come, on_read, on_whole, told}
use Rattle.client_core.specs.declared.got.ClientError.TheVariants as error
use Rattle.client_core.specs.declared.got.Got.TheVariants as got
use Rattle.client_core.specs.declared.state.Due.{Due}
use Rattle.client_core.specs.declared.state.Due.TheVariants as due
use Rattle.client_laws.specs.Parts.{IsFree, PartsAreJoined, ReadPartsAreJoined, Rises, Sent, Splits, at_last}
use Rattle.client_laws.proofs.TakenLemmas.{ends_fresh, on_part_of}
use Rattle.client_parts.specs.Changes.{appended, is_listed, of_channel, is_point, point_of, replaced, replaced_by, replacements, runs, subscribe_changes, with_point}
use Rattle.etp_frame.specs.declared.header.Header.{Header}
use Rattle.etp_frame.specs.declared.message.Message.{Message}
use Rattle.etp_frame.specs.declared.message.Message.TheVariants as message
use Rattle.etp_values.specs.declared.point.ChannelPoint.{ChannelPoint}
use Rattle.etp_values.specs.declared.point.Point.{Point}
use Rattle.session_core.specs.Granting.{HasNews}
use Rattle.both_ends.specs.Notices.{IsNotice, NoticesAreChanges, ReadNoticesAreChanges, change_msg, with_change}

-- ---- points of one channel

abbrev on_channel : ℤ → Point → ChannelPoint
on_channel c p = record { channel = c; point = p }

are_points : (c : ℤ) (ps : List Point) → list_all is_point (items_of c ps) ≡ true
are_points c [] = refl
are_points c (p ∷ ps) = are_points c ps

points_back : (c : ℤ) (ps : List Point) → map point_of (items_of c ps) ≡ map (on_channel c) ps
points_back c [] = refl
points_back c (p ∷ ps) = ap (λ l. on_channel c p ∷ l) (points_back c ps)

-- more points of the channel of a run join it
run_more : (c : ℤ) (held ps : List Point) → fold with_point (record { channel = c; points = held } ∷ []) (map (on_channel c) ps) ≡ record { channel = c; points = held ++ ps } ∷ []
run_more c held [] = ap (λ l. record { channel = c; points = l } ∷ []) (sym (append-nil held))
run_more c held (p ∷ ps) =
    ap (λ b. fold with_point (if b then record { channel = c; points = held ++ p ∷ [] } ∷ [] else record { channel = c; points = held } ∷ record { channel = c; points = p ∷ [] } ∷ []) (map (on_channel c) ps)) (int_eq_self c)
    ∙ run_more c (held ++ p ∷ []) ps
    ∙ ap (λ l. record { channel = c; points = l } ∷ []) (append_assoc held (p ∷ []) ps)

one_run : (c : ℤ) (p : Point) (ps : List Point) → runs (map (on_channel c) (p ∷ ps)) ≡ record { channel = c; points = p ∷ ps } ∷ []
one_run c p ps = run_more c (p ∷ []) ps

all_listed : (c : ℤ) (ps : List Point) → list_all (is_listed (c ∷ [])) (map (on_channel c) ps) ≡ true
all_listed c [] = refl
all_listed c (p ∷ ps) = ap (λ b. (b || false) && list_all (is_listed (c ∷ [])) (map (on_channel c) ps)) (int_eq_self c) ∙ all_listed c ps

all_its_own : (c : ℤ) (ps : List Point) → of_channel c (map (on_channel c) ps) ≡ ps
all_its_own c [] = refl
all_its_own c (p ∷ ps) =
    ap (λ b. map (λ (x : ChannelPoint). x.point) (if b then on_channel c p ∷ filter (λ (x : ChannelPoint). int_eq x.channel c) (map (on_channel c) ps) else filter (λ (x : ChannelPoint). int_eq x.channel c) (map (on_channel c) ps))) (int_eq_self c)
    ∙ ap (λ l. p ∷ l) (all_its_own c ps)

-- ---- the change in a notice

read_back : (at c : ℤ) (what : What) → HasNews what → subscribe_changes (notice_of at c what) ≡ Some (change_msg c what ∷ [])
read_back at c (Append []) news = absurd news
read_back at c (Append (p ∷ ps)) news =
    ap (λ b. option_map (λ qs. map appended (runs qs)) (if b then Some (map point_of (items_of c (p ∷ ps))) else None)) (are_points c (p ∷ ps))
    ∙ ap (λ qs. Some (map appended (runs qs))) (points_back c (p ∷ ps))
    ∙ ap (λ rs. Some (map appended rs)) (one_run c p ps)
read_back at c (Replace from to ps) news =
    ap (λ b. replacements (c ∷ []) (interval_of from to) (if b then Some (map point_of (items_of c ps)) else None)) (are_points c ps)
    ∙ ap (λ qs. replacements (c ∷ []) (interval_of from to) (Some qs)) (points_back c ps)
    ∙ ap (λ b. if b then Some (replaced (interval_of from to) (map (on_channel c) ps) c ∷ []) else None) (all_listed c ps)
    ∙ ap (λ l. Some (replaced_by (interval_of from to) l c ∷ [])) (all_its_own c ps)
read_back at c (Truncate end) news = refl

-- ---- a notice is not an answer

-- whatever the ask at its correlation waits for
no_answer : (h : Header) (at c : ℤ) (what : What) (t : Heard) (d : Option Due) → by_due h (message.ChannelSubscribe (notice_of at c what)) d t
    ≡ by_changes h.correlation (if int_eq h.correlation (pos 0) then subscribe_changes (notice_of at c what) else None) t
no_answer h at c (Append ps) t None = refl
no_answer h at c (Append ps) t (Some due.Session) = refl
no_answer h at c (Append ps) t (Some due.SpacePut) = refl
no_answer h at c (Append ps) t (Some due.ObjectPut) = refl
no_answer h at c (Append ps) t (Some due.Object) = refl
no_answer h at c (Append ps) t (Some due.Opening) = refl
no_answer h at c (Append ps) t (Some due.Metadata) = refl
no_answer h at c (Append ps) t (Some due.Load) = refl
no_answer h at c (Append ps) t (Some (due.Subscription channel)) = refl
no_answer h at c (Append ps) t (Some due.Replacement) = refl
no_answer h at c (Append ps) t (Some due.Truncation) = refl
no_answer h at c (Append ps) t (Some (due.Range channel)) = refl
no_answer h at c (Append ps) t (Some due.Spaces) = refl
no_answer h at c (Append ps) t (Some due.Deletion) = refl
no_answer h at c (Append ps) t (Some due.Pong) = refl
no_answer h at c (Replace from to ps) t None = refl
no_answer h at c (Replace from to ps) t (Some due.Session) = refl
no_answer h at c (Replace from to ps) t (Some due.SpacePut) = refl
no_answer h at c (Replace from to ps) t (Some due.ObjectPut) = refl
no_answer h at c (Replace from to ps) t (Some due.Object) = refl
no_answer h at c (Replace from to ps) t (Some due.Opening) = refl
no_answer h at c (Replace from to ps) t (Some due.Metadata) = refl
no_answer h at c (Replace from to ps) t (Some due.Load) = refl
no_answer h at c (Replace from to ps) t (Some (due.Subscription channel)) = refl
no_answer h at c (Replace from to ps) t (Some due.Replacement) = refl
no_answer h at c (Replace from to ps) t (Some due.Truncation) = refl
no_answer h at c (Replace from to ps) t (Some (due.Range channel)) = refl
no_answer h at c (Replace from to ps) t (Some due.Spaces) = refl
no_answer h at c (Replace from to ps) t (Some due.Deletion) = refl
no_answer h at c (Replace from to ps) t (Some due.Pong) = refl
no_answer h at c (Truncate end) t None = refl
no_answer h at c (Truncate end) t (Some due.Session) = refl
no_answer h at c (Truncate end) t (Some due.SpacePut) = refl
no_answer h at c (Truncate end) t (Some due.ObjectPut) = refl
no_answer h at c (Truncate end) t (Some due.Object) = refl
no_answer h at c (Truncate end) t (Some due.Opening) = refl
no_answer h at c (Truncate end) t (Some due.Metadata) = refl
no_answer h at c (Truncate end) t (Some due.Load) = refl
no_answer h at c (Truncate end) t (Some (due.Subscription channel)) = refl
no_answer h at c (Truncate end) t (Some due.Replacement) = refl
no_answer h at c (Truncate end) t (Some due.Truncation) = refl
no_answer h at c (Truncate end) t (Some (due.Range channel)) = refl
no_answer h at c (Truncate end) t (Some due.Spaces) = refl
no_answer h at c (Truncate end) t (Some due.Deletion) = refl
no_answer h at c (Truncate end) t (Some due.Pong) = refl

-- ---- the whole notice

subscribe_told : (h : Header) (at c : ℤ) (what : What) (t : Heard) → on_whole h (message.ChannelSubscribe (notice_of at c what)) t ≡ told h (message.ChannelSubscribe (notice_of at c what)) t
subscribe_told h at c (Append ps) t = refl
subscribe_told h at c (Replace from to ps) t = refl
subscribe_told h at c (Truncate end) t = refl

nothing_rises : (at c : ℤ) (what : What) → Rises (message.ChannelSubscribe (notice_of at c what))
nothing_rises at c (Append ps) = tt
nothing_rises at c (Replace from to ps) = tt
nothing_rises at c (Truncate end) = tt

-- a client whose subscription of the channel is active takes the change in
taken_in : (h : Header) (at c : ℤ) (what : What) (t : Heard) → HasNews what → h.correlation ≡ pos 0 → is_live c t.channels ≡ true
    → on_whole h (message.ChannelSubscribe (notice_of at c what)) t ≡ gives (got.Change (change_msg c what) ∷ []) (record t { channels = follows t.channels (change_msg c what) })
taken_in h at c what t news unasked stands =
    subscribe_told h at c what t
    ∙ no_answer h at c what t (due_at h.correlation t.asks)
    ∙ ap (λ z. by_changes h.correlation (if int_eq z (pos 0) then subscribe_changes (notice_of at c what) else None) t) unasked
    ∙ ap (λ cs. by_changes h.correlation cs t) (read_back at c what news)
    ∙ ap (λ b. if b && true then gives (got.Change (change_msg c what) ∷ []) (record t { channels = follows t.channels (change_msg c what) }) else fails (error.Unasked h.correlation) t) stands

abbrev message_of : ℤ → ℤ → What → Message
message_of at c what = message.ChannelSubscribe (notice_of at c what)

module _ (limit number blobs : ℕ) (at c : ℤ) (what : What) (h : Header) (sent : List Sent) (s : Heard) (n : IsNotice limit number blobs at c what h sent s) where
  may : may_come s.phase (message_of at c what) ≡ true
  may = ap (λ p. may_come p (message_of at c what)) n.begun

  whole : on_read h (message_of at c what) s ≡ gives (got.Change (change_msg c what) ∷ []) (with_change c h what s)
  whole =
      let end = ends_fresh h s.last (map (λ x. x.0) sent) n.headers in
      let t : Heard = record s { last = h.id; kept = None } in
      on_part_of true false h (message_of at c what) s end.0 (refl, refl, may, refl, refl) (ap (λ k. is_broken k h (message_of at c what)) n.free) end.1
      ∙ ap (λ k. on_whole h (grown k (message_of at c what)) t) n.free
      ∙ taken_in h at c what t n.news n.unasked n.stands
      ∙ ap (λ k. gives (got.Change (change_msg c what) ∷ []) (record s { last = h.id; channels = follows s.channels (change_msg c what); kept = k })) (sym n.free)

  split : Splits limit number blobs h (message_of at c what) sent s
  split = record {
    messages = n.messages;
    headers = n.headers;
    without_objects = refl;
    rises = nothing_rises at c what;
    free = subst (λ k. IsFree k h (message_of at c what)) (sym n.free) tt;
    comes = may;
  }

pub notices_are_changes : PartsAreJoined → NoticesAreChanges
notices_are_changes law limit number blobs at c what h sent s n =
    let joined = law limit number blobs h (message_of at c what) sent s (split limit number blobs at c what h sent s n) in
    let is = whole limit number blobs at c what h sent s n in
    (joined.0 ∙ ap (λ t. t.state) is, joined.1 ∙ ap (λ t. at_last t.result sent) is)

pub read_notices_are_changes : ReadPartsAreJoined → ReadNoticesAreChanges
read_notices_are_changes law limit number blobs at c what h sent s bytes n are =
    let joined = law limit number blobs h (message_of at c what) sent s bytes (split limit number blobs at c what h sent s n) are in
    let is = whole limit number blobs at c what h sent s n in
    (joined.0 ∙ ap (λ t. t.state) is, joined.1 ∙ ap (λ t. at_last t.result sent) is)
