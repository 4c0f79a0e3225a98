-- What a message's bytes are read as is what arrives.
use Rattle.std.specs.Prelude.{ℕ, ℤ, List, ◌≡◌, ◌≤◌, length, Result}
use Rattle.std.proofs.Common.{ap, ◌∙◌, le-leb}
use Rattle.etp_schema.specs.declared.body.Side.TheVariants.{Client}
use Rattle.etp_frame.specs.declared.header.Header.{Header}
use Rattle.etp_frame.specs.declared.message.Message.{Message}
use Rattle.etp_frame.specs.declared.error.FrameError.{FrameError}
use Rattle.etp_frame.specs.Reading.{read_of}
use Rattle.session_core.specs.Arriving.{max_message_len, arrived_as, arrived_by, arrived_message}

pub arrived_read : (last_id moment : ℤ) (bytes : List ℕ) (x : Result (Header × Message) FrameError) → length bytes ≤ max_message_len → read_of Client bytes ≡ x → arrived_message last_id moment bytes ≡ arrived_as last_id moment x
arrived_read last_id moment bytes x short read =
    ap (λ b. arrived_by b last_id moment bytes) (le-leb (length bytes) max_message_len short) ∙ ap (λ r. arrived_as last_id moment r) read
