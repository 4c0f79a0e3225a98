-- A command ends its course with a status of its own: no fault, and not that of a malformed command line.
use Rattle.std.proofs.Common.{◌≡◌, ℤ, Bool, true, false, List, [], ◌∷◌, Option, None, Some, Result, Ok, Err, if◌then◌else◌, subst}
use Rattle.std.proofs.lemmas.Option.{none-some, same_Some}
use Rattle.client_core.specs.Asking.{asked}
use Rattle.client_core.specs.State.{State}
use Rattle.client_core.specs.declared.ask.Ask.{Ask}
use Rattle.client_core.specs.declared.ask.Ask.TheVariants as ask
use Rattle.client_core.specs.declared.got.ClientError.{ClientError}
use Rattle.etp_outside.specs.declared.status.Status.{Status}
use Rattle.etp_outside.specs.declared.status.Status.TheVariants as status
use Rattle.client_forms.specs.Work.{IsOwn}
use Rattle.client_forms.specs.Ctl.{Course, ends, asks, asks_at, asks_if, by_ask, by_close, breaks, closes, closes_at, unclosed, is_opening}

abbrev pub AreOwn : Option Status → Type 0
AreOwn o = (st : Status) → o ≡ Some st → IsOwn st

pub none_own : AreOwn None
none_own st e = absurd (none-some st e)

some_own : (a : Status) → IsOwn a → AreOwn (Some a)
some_own a own st e = subst IsOwn (same_Some a st e) own

-- ---- asks and the close

by_ask_own : (r : Result ℤ ClientError) (s : State) (c : Course) → AreOwn c.status → AreOwn (by_ask r s c).status
by_ask_own (Ok id) s c own = own
by_ask_own (Err e) s c own = some_own status.Limit tt

asks_at_own : (a : Ask) (ms : List ℤ) (c : Course) → AreOwn c.status → AreOwn (asks_at a ms c).status
asks_at_own a [] c own = own
asks_at_own a (t ∷ ts) c own = let s = asked c.at.client a t in by_ask_own s.result s.state (record c { moments = ts }) own

asks_if_own : (o : Option Status) (a : Ask) (c : Course) → AreOwn c.status → AreOwn (asks_if o a c).status
asks_if_own None a c own = asks_at_own a c.moments c own
asks_if_own (Some st) a c own = own

pub asks_own : (a : Ask) (c : Course) → AreOwn c.status → AreOwn (asks a c).status
asks_own a c own = asks_if_own c.status a c own

unclosed_own : (st : Status) → IsOwn st → IsOwn (unclosed st)
unclosed_own status.Done own = tt
unclosed_own st own = own

by_close_own : (st : Status) (r : Result ℤ ClientError) (s : State) (c : Course) → IsOwn st → AreOwn (by_close st r s c).status
by_close_own st (Ok id) s c own = some_own st own
by_close_own st (Err e) s c own = some_own (unclosed st) (unclosed_own st own)

closes_at_own : (st : Status) (ms : List ℤ) (c : Course) → IsOwn st → AreOwn c.status → AreOwn (closes_at st ms c).status
closes_at_own st [] c own before = before
closes_at_own st (t ∷ ts) c own before = let s = asked c.at.client ask.Close t in by_close_own st s.result s.state (record c { moments = ts }) own

pub closes_own : (st : Status) (c : Course) → IsOwn st → AreOwn c.status → AreOwn (closes st c).status
closes_own st c own before = closes_at_own st c.moments c own before

breaks_if_own : (b : Bool) (st : Status) (c : Course) → IsOwn st → AreOwn c.status → AreOwn (if b then ends st c else closes st c).status
breaks_if_own true st c own before = some_own st own
breaks_if_own false st c own before = closes_own st c own before

pub breaks_own : (st : Status) (c : Course) → IsOwn st → AreOwn c.status → AreOwn (breaks st c).status
breaks_own st c own before = breaks_if_own (is_opening c.at.stage) st c own before
