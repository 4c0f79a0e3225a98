-- The wire form of a message, and its one written spelling.
use Rattle.std.specs.Prelude.{◌≡◌, ◌≤◌, ℕ, ◌++◌, false, List, Some}
use Rattle.avro_bin.specs.Laws.{node_limit}
use Rattle.avro_bin.specs.Value.{nodes}
use Rattle.avro_bin.specs.Grammar.{Spells}
use Rattle.avro_bin.specs.Plain.{plain}
use Rattle.etp_schema.specs.Bodies.{body_schema}
use Rattle.etp_schema.specs.declared.body.Side.{Side}
use Rattle.etp_frame.specs.Header.{header_form, has_flag, extended, compressed}
use Rattle.etp_frame.specs.Message.{message_body, Names}
use Rattle.etp_frame.specs.declared.header.Header.{Header}
use Rattle.etp_frame.specs.declared.message.Message.{Message}

-- neither an extension nor a compressed body
abbrev pub IsPlain : Header → Type 0
IsPlain h = (has_flag h.flags extended ≡ false) × (has_flag h.flags compressed ≡ false)

-- the side sends messages of the header's protocol and number, with this message's schema
abbrev pub Sends : Side → Header → Message → Type 0
Sends side h x = body_schema h.protocol h.kind side ≡ Some (message_body x).schema

-- the bytes are a spelling of the header and then one of the message that it names, which the side sends, and nothing else
pub record IsMessage (side : Side) (h : Header) (x : Message) (bytes : List ℕ) : Type 0 where
  pub front : List ℕ
  pub back : List ℕ
  pub parts : bytes ≡ front ++ back
  pub header : Spells header_form.schema (header_form.as_value h) front
  pub few_in_header : nodes (header_form.as_value h) ≤ node_limit
  pub plain : IsPlain h
  pub named : Names h x
  pub sent : Sends side h x
  pub body : Spells (message_body x).schema (message_body x).value back
  pub few_in_body : nodes (message_body x).value ≤ node_limit

-- the bytes that are written for a header and a message
abbrev pub message_bytes : Header → Message → List ℕ
message_bytes h x = plain (header_form.as_value h) ++ plain (message_body x).value
