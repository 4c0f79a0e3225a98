-- The premises of the law on committed transactions can be met: one object is got, another session puts another one, and then the
-- transaction is committed.
use Rattle.std.specs.Prelude.{ℕ, pos, List, [], ◌∷◌, ◌≡◌, Ok, refl}
use Rattle.std.proofs.Common.{sym, subst, arith}
use Rattle.std.proofs.lemmas.Option.{none-some}
use Rattle.etp_frame.specs.Reading.{read_of, tree_of}
use Rattle.etp_schema.specs.declared.body.Side.TheVariants.{Client}
use Rattle.avro_bin.specs.Laws.{read_value}
use Rattle.avro_bin.specs.Number.{plain_number}
use Rattle.avro_bin.specs.Reading.{value_at, element_at, int_at, number_at, bytes_at}
use Rattle.etp_values.specs.Uri.{uri_of}
use Rattle.store_machine.specs.Answers.{answered, seen_after}
use Rattle.tx_stage.specs.declared.error.StageError.TheVariants.{Keys}
use Rattle.session_core.specs.declared.state.Arrived.{Arrived}
use Rattle.session_core.specs.declared.state.Arrived.TheVariants as arrives
use Rattle.session_core.specs.declared.state.Live.TheVariants as live
use Rattle.session_core.specs.Arriving.{Event, Receives}
use Rattle.session_core.specs.Machine.{Taken, by_event}
use Rattle.session_core.specs.Run.{Course, asked, hears, takes}
use Rattle.session_laws.specs.Committing.{GetIsCommitted, SerialIsMet, commit, commit_bytes, commit_header, config, course, get, get_header, history, started, transaction, well}
use Rattle.session_core.specs.Serial.{Begins, EndsBy, Succeeds}

commit_read : read_of Client commit_bytes ≡ Ok (commit_header, commit)
unfolding read_of tree_of read_value value_at element_at int_at number_at bytes_at
commit_read = refl

begins : Begins started transaction
begins = record { phase = refl; stage = refl; touched = refl; kept = refl; out = refl; blobs = omega arith }

-- the half step of the get, and where its answer leads
abbrev getting : List ℕ → Taken
getting t = by_event live.Open (arrives.Fresh get_header (pos 3) (get t)) started

abbrev got : List ℕ → Course
got t = asked config 0 history (pos 3) course (getting t).state (getting t).call

first : (t : List ℕ) → uri_of t ≡ Ok (well 1) → (Later : Type 0) → Later → EndsBy config history 2 (getting t).state.stage (getting t).state.pending (getting t).call (1 ∷ 2 ∷ []) Later
first t e Later later = rw e ((none-some Keys, tt), later)

second : (t : List ℕ) → uri_of t ≡ Ok (well 1) → Succeeds config 0 history 2 (got t) (Receives commit_bytes (pos 4) ∷ [])
unfolding takes hears answered seen_after plain_number
second t e = rw (e, commit_read) (refl, refl)

-- what is required of an event and those after it, by what arrived
abbrev First : List Event → Arrived → Type 0
First es a =
    let t = by_event live.Open a started in
    EndsBy config history 2 t.state.stage t.state.pending t.call (1 ∷ 2 ∷ []) (Succeeds config 0 history 2 (asked config 0 history (pos 3) course t.state t.call) es)

-- the same with all bytes that are read as the get of the object that a text names
get_is_committed : GetIsCommitted
unfolding takes
get_is_committed t bytes e read =
    let later = second t e in
    subst (First (Receives commit_bytes (pos 4) ∷ [])) (sym read) (first t e (Succeeds config 0 history 2 (got t) (Receives commit_bytes (pos 4) ∷ [])) later)

pub serial_is_met : SerialIsMet
serial_is_met = (begins, get_is_committed)
