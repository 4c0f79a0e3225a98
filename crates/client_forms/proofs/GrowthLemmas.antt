-- Whatever happens only adds to what was sent and written, and a command that has ended stays as it is.
use Rattle.std.proofs.Common.{◌≡◌, ◌==◌, ℕ, ℤ, Bool, true, false, List, [], ◌∷◌, ◌++◌, Option, None, Some, Result, Ok, Err, if◌then◌else◌, fold, length, refl}
use Rattle.etp_values.proofs.PrefixLemmas.{prefix_self}
use Rattle.channel_store.specs.declared.copy.ChangeMsg.{ChangeMsg}
use Rattle.client_core.specs.Taking.{takes}
use Rattle.client_core.specs.declared.ask.Ask.TheVariants as ask
use Rattle.client_core.specs.declared.got.ClientError.{ClientError}
use Rattle.client_core.specs.declared.got.ClientError.TheVariants as error
use Rattle.client_core.specs.declared.got.Got.{Got}
use Rattle.client_core.specs.declared.got.Got.TheVariants as got
use Rattle.etp_outside.specs.declared.status.Status.{Status}
use Rattle.etp_outside.specs.declared.status.Status.TheVariants as status
use Rattle.etp_values.specs.declared.point.Point.{Point}
use Rattle.client_forms.specs.Loading.{Filled, read_lines, filled}
use Rattle.client_forms.specs.Ctl.{Course, Job, Putting, Getting, Loading, Watching, Stage, Opening, Asked, Loaded, Watched, ends, writes, comes_to, asks, closes, loads_one, loads_all, loads_last, ends_if, ends_first, loads, pings_if, pings, first_ask, shows_all, Pinging, Listing, Ranging, Deleting, Following, Ranged, Followed, goes_by, goes_if, goes_on, showing, hears, takes_message, with_client}
use Rattle.client_forms.specs.Texts.{change_lines, deleted_line, loaded_line, pong_line, put_line, space_lines}
use Rattle.point_lines.specs.Spelling.{lines_of}
use Rattle.client_forms.proofs.CourseLemmas.{Grows, grows_not, grows_trans, asks_grows, report_grows, writes_grows}
use Rattle.client_forms.proofs.BreakingLemmas.{breaks_grows, shown_grows}

loads_all_grows : (channel : ℤ) (messages : List (List Point)) (c : Course) → Grows c (loads_all channel messages c)
loads_all_grows channel [] c = grows_not c
loads_all_grows channel (ps ∷ later) c =
    let next = loads_one channel c ps in
    grows_trans c next (loads_all channel later next) (asks_grows (ask.Load _) c) (loads_all_grows channel later next)

loads_last_grows : (channel : ℤ) (ps : List Point) (c : Course) → Grows c (loads_last channel ps c)
loads_last_grows channel [] c = grows_not c
loads_last_grows channel (p ∷ ps) c = asks_grows (ask.Load _) c

ends_if_grows : (other : Option Status) (st : Status) (c : Course) → Grows c (ends_if other st c)
ends_if_grows None st c = record { sent = prefix_self c.sent; written = prefix_self c.written }
ends_if_grows (Some other) st c = grows_not c

pub pings_if_grows : (st : Option Status) (c : Course) → Grows c (pings_if st c)
pings_if_grows None c = let g = asks_grows ask.Ping (comes_to Loaded c) in record { sent = g.sent; written = g.written }
pings_if_grows (Some st) c = grows_not c

pub loads_grows : (channel : ℤ) (st : Option Status) (f : Filled) (c : Course) → Grows c (loads channel st f c)
loads_grows channel None f c =
    let all = loads_all channel f.closed c in
    let last = loads_last channel f.last all in
    grows_trans c last (pings last) (grows_trans c all last (loads_all_grows channel f.closed c) (loads_last_grows channel f.last all)) (pings_if_grows last.status last)
loads_grows channel (Some st) f c =
    let all = loads_all channel f.closed c in
    grows_trans c all (ends_first st all) (loads_all_grows channel f.closed c) (ends_if_grows all.status st all)

shows_all_grows : (o : Option (List ℕ)) (c : Course) → Grows c (shows_all o c)
shows_all_grows None c = record { sent = prefix_self c.sent; written = prefix_self c.written }
shows_all_grows (Some text) c = report_grows text status.Done c

module _ (shown : ℤ → List ChangeMsg → List ℕ) where
  feeds_grows : (b : Bool) (channel : ℤ) (fed : List ChangeMsg) (c : Course) → Grows c (if b then closes status.Done (writes (shown channel fed) (comes_to (Watched channel fed) c)) else comes_to (Watched channel fed) c)
  feeds_grows true channel fed c = let g = report_grows (shown channel fed) status.Done (comes_to (Watched channel fed) c) in record { sent = g.sent; written = g.written }
  feeds_grows false channel fed c = record { sent = prefix_self c.sent; written = prefix_self c.written }

  opened_grows : (job : Job) (c : Course) → Grows c (asks (first_ask job) (comes_to Asked c))
  opened_grows job c = let g = asks_grows (first_ask job) (comes_to Asked c) in record { sent = g.sent; written = g.written }

  pub goes_by_grows : (job : Job) (stage : Stage) (g : Got) (c : Course) → Grows c (goes_by shown job stage g c)
  goes_by_grows job Opening (got.Opened x) c = opened_grows job c
  goes_by_grows (Putting u bytes) Asked (got.Done id) c = report_grows (put_line u) status.Done c
  goes_by_grows (Getting u) Asked (got.Object id bytes) c = report_grows bytes status.Done c
  goes_by_grows (Loading u lines) Asked (got.Meta id channel kind) c = let r = read_lines kind 1 lines in loads_grows channel r.refused (filled [] r.points) c
  goes_by_grows (Loading u lines) Loaded (got.Pong t) c = report_grows (loaded_line (length lines)) status.Done c
  goes_by_grows (Watching u count) Asked (got.Meta id channel kind) c = let g = asks_grows (ask.Subscribe channel _) (comes_to (Watched channel []) c) in record { sent = g.sent; written = g.written }
  goes_by_grows (Watching u count) (Watched channel fed) (got.Change x) c = feeds_grows (length (fed ++ x ∷ []) == count) channel (fed ++ x ∷ []) c
  goes_by_grows Pinging Asked (got.Pong t) c = report_grows (pong_line t) status.Done c
  goes_by_grows Listing Asked (got.Spaces id spaces) c = report_grows (space_lines spaces) status.Done c
  goes_by_grows (Deleting u) Asked (got.Done id) c = report_grows (deleted_line u) status.Done c
  goes_by_grows (Ranging u from to) Asked (got.Meta id channel kind) c = let g = asks_grows (ask.Range channel from to) (comes_to (Ranged kind) c) in record { sent = g.sent; written = g.written }
  goes_by_grows (Ranging u from to) (Ranged kind) (got.Points id points) c = shows_all_grows (lines_of kind points) c
  goes_by_grows (Following u start) Asked (got.Meta id channel kind) c = let g = asks_grows (ask.Subscribe channel start) (comes_to Followed c) in record { sent = g.sent; written = g.written }
  goes_by_grows (Following u start) Followed (got.Change x) c = writes_grows (change_lines x.what) c
  goes_by_grows job stage g c = grows_not c

module _ (shown : ℤ → List ChangeMsg → List ℕ) (job : Job) where
  goes_if_grows : (st : Option Status) (g : Got) (c : Course) → Grows c (goes_if shown job st g c)
  goes_if_grows None g c = goes_by_grows shown job c.at.stage g c
  goes_if_grows (Some st) g c = grows_not c

  pub goes_on_all_grows : (gots : List Got) (c : Course) → Grows c (fold (goes_on shown job) c gots)
  goes_on_all_grows [] c = grows_not c
  goes_on_all_grows (g ∷ gs) c =
      let next = goes_on shown job c g in grows_trans c next (fold (goes_on shown job) next gs) (goes_if_grows c.status g c) (goes_on_all_grows gs next)

  -- a course that has ended stays as it is
  pub ended_stays : (st : Status) (gots : List Got) (c : Course) → fold (goes_on shown job) (ends st c) gots ≡ ends st c
  ended_stays st [] c = refl
  ended_stays st (g ∷ gs) c = ended_stays st gs c

  hears_grows : (r : Result (List Got) ClientError) (c : Course) → Grows c (hears shown job r c)
  hears_grows (Ok gots) c = goes_on_all_grows gots c
  hears_grows (Err (error.Refused id code)) c = breaks_grows (status.Refused code) c
  hears_grows (Err (error.Stopped reason)) c = shown_grows (showing shown c.at.stage) status.Stopped c
  hears_grows (Err (error.Frame x)) c = record { sent = prefix_self c.sent; written = prefix_self c.written }
  hears_grows (Err (error.Id x)) c = record { sent = prefix_self c.sent; written = prefix_self c.written }
  hears_grows (Err (error.Unasked x)) c = record { sent = prefix_self c.sent; written = prefix_self c.written }
  hears_grows (Err error.State) c = record { sent = prefix_self c.sent; written = prefix_self c.written }
  hears_grows (Err (error.Join x)) c = record { sent = prefix_self c.sent; written = prefix_self c.written }
  hears_grows (Err error.NoMemory) c = record { sent = prefix_self c.sent; written = prefix_self c.written }

  pub message_grows : (bytes : List ℕ) (c : Course) → Grows c (takes_message shown job bytes c)
  message_grows bytes c = let s = takes c.at.client bytes in let g = hears_grows s.result (with_client s.state c) in record { sent = g.sent; written = g.written }
