-- A transaction that is committed: one object is got, another session puts another one, and then the transaction is committed.
use Rattle.std.specs.Prelude.{ℕ, pos, false, List, [], ◌∷◌, ◌≡◌, Some, None, Ok, codes}
use Rattle.server_config.specs.declared.config.Config.{Config}
use Rattle.etp_frame.specs.declared.header.Header.{Header}
use Rattle.etp_frame.specs.declared.message.Message.{Message}
use Rattle.etp_frame.specs.declared.message.Message.TheVariants as message
use Rattle.etp_values.specs.Uri.{uri_of}
use Rattle.etp_values.specs.declared.uri.StoreUri.{StoreUri}
use Rattle.msg_core.specs.declared.transaction_messages.TransactionMessage.TheVariants as transacts
use Rattle.msg_store.specs.declared.store_messages.StoreMessage.TheVariants as object
use Rattle.session_rows.specs.Transactions.{begun}
use Rattle.session_rows.specs.declared.formats.Format.TheVariants.{Xml}
use Rattle.store_machine.specs.declared.journal.Act.TheVariants as act
use Rattle.store_machine.specs.declared.journal.Entry.{Entry}
use Rattle.tx_stage.specs.Staging.{Transaction}
use Rattle.tx_stage.specs.declared.key.Key.TheVariants as key
use Rattle.tx_stage.specs.declared.op.OpWhat.TheVariants.{SetObject}
use Rattle.session_core.specs.declared.state.Arrived.TheVariants as arrives
use Rattle.session_core.specs.declared.state.Live.TheVariants as live
use Rattle.session_core.specs.declared.state.Phase.TheVariants as phase
use Rattle.session_core.specs.State.{State, first_state}
use Rattle.session_core.specs.Arriving.{Receives, arrived}
use Rattle.session_core.specs.Run.{Course}
use Rattle.session_core.specs.Serial.{Begins, Succeeds}

abbrev pub id : ℕ → List ℕ
id k = 0 ∷ 0 ∷ 0 ∷ 0 ∷ 0 ∷ 0 ∷ 0 ∷ 0 ∷ 0 ∷ 0 ∷ 0 ∷ 0 ∷ 0 ∷ 0 ∷ 0 ∷ k ∷ []

abbrev pub well : ℕ → StoreUri
well k = record { space = []; object = Some (record { domain = codes "witsml20"; name = codes "Well"; id = id k }) }

abbrev pub get_header : Header
get_header = record { protocol = pos 4; kind = pos 1; correlation = pos 0; id = pos 4; flags = pos 0 }

abbrev pub get : List ℕ → Message
get t = message.Store (object.GetDataObjects (record { uris = (codes "0", t) ∷ []; format = [] }))

abbrev pub commit_header : Header
commit_header = record { protocol = pos 18; kind = pos 3; correlation = pos 0; id = pos 6; flags = pos 0 }

abbrev pub commit : Message
commit = message.Transaction (transacts.CommitTransaction (record { transaction_uuid = id 9 }))

abbrev pub config : Config
config = record { instance = id 0; name = []; lag = 0; journal = 100; types = None; channels = [] }

-- a server's first entry, and one by which another session puts another object
abbrev pub history : List Entry
history =
    record { by = 0; nth = 0; at = pos 0; act = act.Enter }
    ∷ record {
      by = 0;
      nth = 1;
      at = pos 7;
      act = act.Put (record {
        key = key.Object (well 2);
        what = SetObject (record { uri = well 2; others = []; name = []; changed = pos 0; active = 0; custom = []; format = codes "xml"; payload = []; written = pos 0; created = pos 0 });
        at = pos 7;
      } ∷ []);
    }
    ∷ []

abbrev pub transaction : Transaction
transaction = begun (id 9) false []

-- the session once it has started the transaction
abbrev pub started : State
started = record (first_state config 0 (pos 1)) { phase = phase.Live live.Open; last_id = pos 2; next_id = 5; accepted = pos 4 ∷ pos 18 ∷ []; formats = Xml ∷ []; stage = Some transaction; starts = 1 }

abbrev pub course : Course
course = record { state = started; places = 1 ∷ 2 ∷ []; sent = []; made = []; short = false; reach = 1 }

-- the bytes of the commit
abbrev pub commit_bytes : List ℕ
commit_bytes = 36 ∷ 6 ∷ 0 ∷ 12 ∷ 0 ∷ id 9

-- with all bytes that are read as the get of the object that a text names
abbrev pub GetIsCommitted : Type 0
GetIsCommitted = (t bytes : List ℕ) → uri_of t ≡ Ok (well 1) → arrived (pos 2) (Receives bytes (pos 3)) ≡ arrives.Fresh get_header (pos 3) (get t)
    → Succeeds config 0 history 2 course (Receives bytes (pos 3) ∷ Receives commit_bytes (pos 4) ∷ [])

-- hence what the law on committed transactions requires can be met
abbrev pub SerialIsMet : Type 0
SerialIsMet = Begins started transaction × GetIsCommitted
