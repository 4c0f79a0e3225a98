-- What was returned is the stream, and its copy the points.
use Rattle.std.proofs.Common.{◌≡◌, ◌≤◌, ℕ, ℤ, zero, suc, true, List, [], ◌∷◌, ◌++◌, Some, fold, length, max, take, option_map, refl, sym, ap, ◌∙◌, arith, inl, inr, append-nil}
use Rattle.std.proofs.lemmas.Bool.{cases_lt}
use Rattle.std.proofs.lemmas.List.{drop_all, take_all}
use Rattle.server_config.specs.declared.config.Config.{Config}
use Rattle.channel_store.specs.Channels.{whats_of}
use Rattle.channel_store.specs.Points.{copy, past}
use Rattle.channel_store.specs.Points.{stream as told_by}
use Rattle.channel_store.specs.declared.subscription.Sub.{Sub}
use Rattle.client_core.specs.Asking.{begun}
use Rattle.client_core.specs.Laws.{CopiesAreFolds, stepped}
use Rattle.client_core.specs.Laws.{Event as ClientEvent}
use Rattle.client_core.specs.Notices.{copy_of}
use Rattle.session_core.specs.Arriving.{Polls}
use Rattle.session_core.specs.Run.{Course, run}
use Rattle.session_core.specs.Streams.{RunIsStreamed, RunIsToldAtIdle, heard, owed_to}
use Rattle.session_core.proofs.StandingLemmas.{found-channel}
use Rattle.store_machine.specs.Channels.{changes_from, channel_points}
use Rattle.store_machine.specs.Laws.{StreamIsCopied}
use Rattle.store_machine.specs.Legal.{Legal, LegalFrom}
use Rattle.store_machine.specs.News.{stream}
use Rattle.store_machine.specs.declared.journal.Entry.{Entry}
use Rattle.both_ends.specs.Copies.{HandedHasPoints, IdleHasPoints, IsHanded}

-- ---- prefixes of a history

from_front : (config : Config) (earlier : List Entry) (k : ℕ) (es : List Entry) → LegalFrom config earlier es → LegalFrom config earlier (take k es)
from_front config earlier zero es legal = tt
from_front config earlier (suc k) [] legal = tt
from_front config earlier (suc k) (e ∷ es) legal = (legal.0, from_front config (earlier ++ e ∷ []) k es legal.1)

legal_front : (config : Config) (k : ℕ) (h : List Entry) → Legal config h → Legal config (take (suc k) h)
legal_front config k [] legal = absurd legal
legal_front config k (e ∷ es) legal = (legal.0, from_front config (e ∷ []) k es legal.1)

-- from the end of a history on no change is left to send
at_end : (id start : ℤ) (m : ℕ) (h : List Entry) → length h ≤ m → stream id start true m h ≡ told_by start true (channel_points id h) []
at_end id start m h short = λ i. told_by start true (channel_points id (take_all m h short i)) (whats_of (changes_from m id (drop_all m h short i)))

copied : StreamIsCopied → (config : Config) (id start : ℤ) (m k : ℕ) (h : List Entry) → Legal config h → copy (stream id start true m (take k h)) ≡ past start (channel_points id (take k h))
copied law config id start m zero h legal = ap copy (at_end id start m [] (omega arith))
copied law config id start m (suc k) h legal = elim (cases_lt m (length (take (suc k) h))) [
  | inl early ↦ law config (take (suc k) h) id start m (legal_front config k h legal) (omega arith)
  | inr late ↦
      ap copy (at_end id start m (take (suc k) h) (omega arith) ∙ sym (at_end id start (length (take (suc k) h)) (take (suc k) h) (omega arith)))
      ∙ law config (take (suc k) h) id start (length (take (suc k) h)) (legal_front config k h legal) (omega arith)
]

-- ---- the copy

handed_copy : CopiesAreFolds → (r : Course) (moment : ℤ) (events : List ClientEvent) (channel : ℤ) (s : Sub) → IsHanded r moment events channel s → copy_of channel (fold stepped (begun moment) events) ≡ Some (copy (heard channel r.sent).told)
handed_copy law r moment events channel s is = law channel moment events ∙ ap (option_map copy) is.handed

points_of_stream : StreamIsCopied → (config : Config) (channel : ℤ) (s : Sub) (k : ℕ) (h : List Entry) → Legal config h → s.channel ≡ channel → s.all ≡ true
    → copy (stream s.channel s.start s.all s.from (take k h)) ≡ past s.start (channel_points channel (take k h))
points_of_stream law config channel s k h legal its all = (λ i. copy (stream (its i) s.start (all i) s.from (take k h))) ∙ copied law config channel s.start s.from k h legal

pub handed_has_points : CopiesAreFolds → RunIsStreamed → StreamIsCopied → HandedHasPoints
handed_has_points folds streams copies config n h places es moment events channel s legal ids rises spent is =
    let r = run config n h places es in
    let told = ((streams config n h places es ids rises).told es [] (sym (append-nil es)) spent channel).0 in
    handed_copy folds r moment events channel s is
    ∙ ap (λ ws. Some (copy ws)) (told ∙ ap (owed_to h r.state.subs.cursor) is.stands)
    ∙ ap Some (points_of_stream copies config channel s (max s.from r.state.subs.cursor) h legal (found-channel channel r.state.subs.subs s is.stands) is.all)

pub idle_has_points : CopiesAreFolds → RunIsToldAtIdle → StreamIsCopied → IdleHasPoints
idle_has_points folds streams copies config n h places before later front moment events channel s legal ids rises heeds live phase asks is =
    let r = run config n h places before in
    let told = (streams config n h places (before ++ Polls front ∷ later) ids rises heeds before later front refl live phase asks channel s is.stands).1 in
    handed_copy folds r moment events channel s is
    ∙ ap (λ ws. Some (copy ws)) told
    ∙ ap Some (points_of_stream copies config channel s front h legal (found-channel channel r.state.subs.subs s is.stands) is.all)
