-- Steps of courses: what they leave, and that they only add to what was sent and written.
use Rattle.std.proofs.Common.{◌≡◌, ℕ, ℤ, List, [], ◌∷◌, ◌++◌, Option, None, Some, Result, Ok, Err, ap, sym, subst, ◌∙◌}
use Rattle.std.proofs.lemmas.List.{append-nil}
use mathlib.Core.List.{IsPrefix, prefix-append}
use Rattle.etp_values.proofs.PrefixLemmas.{prefix_self, prefix_trans}
use Rattle.etp_outside.specs.declared.status.Status.{Status}
use Rattle.etp_outside.specs.declared.status.Status.TheVariants as status
use Rattle.client_core.specs.Asking.{asked}
use Rattle.client_core.specs.State.{State}
use Rattle.client_core.specs.declared.ask.Ask.{Ask}
use Rattle.client_core.specs.declared.ask.Ask.TheVariants as ask
use Rattle.client_core.specs.declared.got.ClientError.{ClientError}
use Rattle.client_forms.specs.Ctl.{Course, Place, Stage, drained, ends, writes, sends, by_ask, asks_at, asks_if, asks, unclosed, by_close, closes_at, closes}
use Rattle.client_forms.specs.Work.{IsAt, moved, place}

-- a course that is at a place and continues
abbrev pub set_at : Place → Course → Course
set_at p c = record c { at = p; status = None }

pub at_path : (p : Place) (c : Course) → IsAt p c → c ≡ set_at p c
at_path p c h = λ i. record c { at = h.here i; status = h.going i }

-- so a step need only be known of those
pub stepped : (f : Course → Course) (p q : Place) (moments : List ℤ) (messages : List (List ℕ)) (bytes : List ℕ) (end : Course → Course)
    → ((c : Course) (later : List ℤ) → f (record c { at = p; status = None; moments = moments ++ later }) ≡ end (moved (set_at p c) q later messages bytes))
    → (c : Course) (later : List ℤ) → IsAt p c → f (record c { moments = moments ++ later }) ≡ end (moved c q later messages bytes)
stepped f p q moments messages bytes end h c later here =
    subst (λ (d : Course). f (record d { moments = moments ++ later }) ≡ end (moved d q later messages bytes)) (sym (at_path p c here)) (h c later)

-- nothing more sent and nothing more written
pub nothing_moved : (c : Course) (q : Place) (later : List ℤ) → record c { at = q; moments = later } ≡ moved c q later [] []
nothing_moved c q later =
    ap (λ m. record c { at = q; moments = later; sent = m }) (sym (append-nil c.sent))
    ∙ ap (λ w. record c { at = q; moments = later; sent = c.sent ++ []; written = w }) (sym (append-nil c.written))

nothing_written : (c : Course) (q : Place) (later : List ℤ) (messages : List (List ℕ)) → record c { at = q; moments = later; sent = c.sent ++ messages } ≡ moved c q later messages []
nothing_written c q later messages = ap (λ w. record c { at = q; moments = later; sent = c.sent ++ messages; written = w }) (sym (append-nil c.written))

-- ---- an ask

-- the client did it, and all that it had to send was sent
pub ask_done : (a : Ask) (s mid : State) (stage : Stage) (moment id : ℤ) → (asked s a moment).result ≡ Ok id → mid ≡ (asked s a moment).state → (c : Course) (later : List ℤ)
    → asks a (record c { at = place s stage; status = None; moments = moment ∷ [] ++ later }) ≡ moved (set_at (place s stage) c) (place (drained mid) stage) later mid.out []
ask_done a s mid stage moment id ok is_mid c later =
    let d = record c { at = place s stage; status = None; moments = later } in
    ap (λ r. by_ask r (asked s a moment).state d) ok ∙ ap (λ m. sends m d) (sym is_mid) ∙ nothing_written (set_at (place s stage) c) (place (drained mid) stage) later mid.out

-- the client refused it
pub ask_refused : (a : Ask) (s t : State) (stage : Stage) (moment : ℤ) (e : ClientError) → (asked s a moment).result ≡ Err e → t ≡ (asked s a moment).state → (c : Course) (later : List ℤ)
    → asks a (record c { at = place s stage; status = None; moments = moment ∷ [] ++ later }) ≡ ends status.Limit (moved (set_at (place s stage) c) (place t stage) later [] [])
ask_refused a s t stage moment e err is_t c later =
    let d = record c { at = place s stage; status = None; moments = later } in
    ap (λ r. by_ask r (asked s a moment).state d) err ∙ ap (λ m. ends status.Limit (record d { at = place m stage })) (sym is_t)
    ∙ ap (ends status.Limit) (nothing_moved (set_at (place s stage) c) (place t stage) later)

-- ---- the close of a session

pub close_done : (st : Status) (s mid : State) (stage : Stage) (moment id : ℤ) → (asked s ask.Close moment).result ≡ Ok id → mid ≡ (asked s ask.Close moment).state → (c : Course) (later : List ℤ)
    → closes st (record c { at = place s stage; status = None; moments = moment ∷ [] ++ later }) ≡ ends st (moved (set_at (place s stage) c) (place (drained mid) stage) later mid.out [])
close_done st s mid stage moment id ok is_mid c later =
    let d = record c { at = place s stage; status = None; moments = later } in
    ap (λ r. by_close st r (asked s ask.Close moment).state d) ok ∙ ap (λ m. ends st (sends m d)) (sym is_mid)
    ∙ ap (ends st) (nothing_written (set_at (place s stage) c) (place (drained mid) stage) later mid.out)

pub close_refused : (st : Status) (s t : State) (stage : Stage) (moment : ℤ) (e : ClientError) → (asked s ask.Close moment).result ≡ Err e → t ≡ (asked s ask.Close moment).state → (c : Course) (later : List ℤ)
    → closes st (record c { at = place s stage; status = None; moments = moment ∷ [] ++ later }) ≡ ends (unclosed st) (moved (set_at (place s stage) c) (place t stage) later [] [])
close_refused st s t stage moment e err is_t c later =
    let d = record c { at = place s stage; status = None; moments = later } in
    ap (λ r. by_close st r (asked s ask.Close moment).state d) err ∙ ap (λ m. ends (unclosed st) (record d { at = place m stage })) (sym is_t)
    ∙ ap (ends (unclosed st)) (nothing_moved (set_at (place s stage) c) (place t stage) later)

-- ---- courses only grow

pub record Grows (c d : Course) : Type 0 where
  pub sent : IsPrefix c.sent d.sent
  pub written : IsPrefix c.written d.written

pub grows_not : (c : Course) → Grows c c
grows_not c = record { sent = prefix_self c.sent; written = prefix_self c.written }

pub grows_trans : (a b c : Course) → Grows a b → Grows b c → Grows a c
grows_trans a b c p q = record { sent = prefix_trans a.sent b.sent c.sent p.sent q.sent; written = prefix_trans a.written b.written c.written p.written q.written }

pub writes_grows : (bytes : List ℕ) (c : Course) → Grows c (writes bytes c)
writes_grows bytes c = record { sent = prefix_self c.sent; written = prefix-append c.written bytes }

by_ask_grows : (r : Result ℤ ClientError) (s : State) (c : Course) → Grows c (by_ask r s c)
by_ask_grows (Ok id) s c = record { sent = prefix-append c.sent s.out; written = prefix_self c.written }
by_ask_grows (Err e) s c = record { sent = prefix_self c.sent; written = prefix_self c.written }

asks_at_grows : (a : Ask) (ms : List ℤ) (c : Course) → Grows c (asks_at a ms c)
asks_at_grows a [] c = grows_not c
asks_at_grows a (t ∷ ts) c =
    let s = asked c.at.client a t in
    let g = by_ask_grows s.result s.state (record c { moments = ts }) in record { sent = g.sent; written = g.written }

asks_if_grows : (st : Option Status) (a : Ask) (c : Course) → Grows c (asks_if st a c)
asks_if_grows None a c = asks_at_grows a c.moments c
asks_if_grows (Some st) a c = grows_not c

pub asks_grows : (a : Ask) (c : Course) → Grows c (asks a c)
asks_grows a c = asks_if_grows c.status a c

by_close_grows : (st : Status) (r : Result ℤ ClientError) (s : State) (c : Course) → Grows c (by_close st r s c)
by_close_grows st (Ok id) s c = record { sent = prefix-append c.sent s.out; written = prefix_self c.written }
by_close_grows st (Err e) s c = record { sent = prefix_self c.sent; written = prefix_self c.written }

closes_at_grows : (st : Status) (ms : List ℤ) (c : Course) → Grows c (closes_at st ms c)
closes_at_grows st [] c = grows_not c
closes_at_grows st (t ∷ ts) c =
    let s = asked c.at.client ask.Close t in
    let g = by_close_grows st s.result s.state (record c { moments = ts }) in record { sent = g.sent; written = g.written }

pub closes_grows : (st : Status) (c : Course) → Grows c (closes st c)
closes_grows st c = closes_at_grows st c.moments c

-- a command that writes and closes
pub report_grows : (bytes : List ℕ) (st : Status) (c : Course) → Grows c (closes st (writes bytes c))
report_grows bytes st c = grows_trans c (writes bytes c) (closes st (writes bytes c)) (writes_grows bytes c) (closes_grows st (writes bytes c))
