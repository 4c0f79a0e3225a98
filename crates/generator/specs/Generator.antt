-- The generated load: its messages and its frames.
use Rattle.std.specs.Prelude.{◌≡◌, ℕ, zero, suc, ◌+◌, ◌*◌, ◌/◌, ◌%◌, ◌^◌, ◌==◌, ℤ, pos, ◌-ℤ◌, true, false, List, [], ◌∷◌, codes, if◌then◌else◌, Option, Some, None, Result, Ok, Err}
use Rattle.etp_values.specs.Uri.{plain_uri}
use Rattle.etp_values.specs.declared.memory.NoMemory.{NoMemory}
use Rattle.etp_values.specs.declared.data.DataValue.TheVariants as data_value
use Rattle.etp_capture.specs.Kinds.{kind_in, kind_poll}
use Rattle.etp_capture.specs.declared.frame.Frame.{Frame}
use Rattle.msg_core.specs.declared.core_messages.SupportedProtocol.{SupportedProtocol}
use Rattle.msg_core.specs.declared.core_messages.CoreMessage.TheVariants as c
use Rattle.msg_channel.specs.declared.indexes.IndexValue.TheVariants as index_value
use Rattle.msg_channel.specs.declared.points.DataItem.{DataItem}
use Rattle.msg_channel.specs.declared.channel_subscribe_messages.ChannelSubscribeMessage.TheVariants as subscribe
use Rattle.msg_channel.specs.declared.channel_data_load_messages.ChannelDataLoadMessage.TheVariants as load
use Rattle.generator.specs.Channels.{id_ending, channel_uri}
use Rattle.etp_frame.specs.Header.{final_part}
use Rattle.etp_frame.specs.Message.{message_body, protocol_of, channel_subscribe_number, channel_data_load_number}
use Rattle.etp_frame.specs.Wire.{message_bytes}
use Rattle.etp_frame.specs.declared.header.Header.{Header}
use Rattle.etp_frame.specs.declared.message.Message.{Message}
use Rattle.etp_frame.specs.declared.message.Message.TheVariants as m

-- ---- the messages

-- a protocol of the store in version 1.2
abbrev pub wanted : ℤ → SupportedProtocol
wanted number = record {
  protocol = number;
  protocol_version = record { major = pos 1; minor = pos 2; revision = pos 0; patch = pos 0 };
  role = codes "store";
  protocol_capabilities = [];
}

-- a session is asked for, with the protocols of channels
abbrev pub request_session : Message
request_session = m.Core (c.RequestSession (record {
  application_name = codes "gen";
  application_version = codes "1";
  client_instance_id = id_ending 0;
  requested_protocols = wanted (pos channel_subscribe_number) ∷ wanted (pos channel_data_load_number) ∷ [];
  supported_data_objects = [];
  supported_compression = [];
  supported_formats = codes "xml" ∷ [];
  current_date_time = pos 0;
  earliest_retained_change_time = pos 0;
  server_authorization_required = false;
  endpoint_capabilities = [];
}))

-- a channel is opened for loading
abbrev pub open_channel : ℕ → Message
open_channel channel = m.ChannelDataLoad (load.OpenChannels (record { uris = (codes "c", plain_uri (channel_uri channel)) ∷ [] }))

-- a channel is subscribed to from index 0 on, with all its changes
abbrev pub subscribe_channel : ℤ → Message
subscribe_channel channel = m.ChannelSubscribe (subscribe.SubscribeChannels (record {
  channels = (codes "s", record { channel_id = channel; start_index = index_value.Long (pos 0); data_changes = true; request_latest_index_count = None }) ∷ [];
}))

-- a point of a channel
abbrev pub point : ℤ → ℤ → ℤ → DataItem
point channel at number = record { channel_id = channel; indexes = index_value.Long at ∷ []; value = data_value.Long number; value_attributes = [] }

-- a point is appended to a channel
abbrev pub append_point : ℤ → ℤ → ℤ → Message
append_point channel at number = m.ChannelDataLoad (load.LoadChannelData (record { payload = point channel at number ∷ [] }))

abbrev pub ping : ℤ → Message
ping at = m.Core (c.Ping (record { current_date_time = at }))

-- a range of a channel is left with one point, at its first index
abbrev pub replace_range : ℤ → ℤ → ℤ → ℤ → Message
replace_range channel first last number = m.ChannelDataLoad (load.ReplaceRange (record {
  changed_interval = record { start_index = index_value.Long first; end_index = index_value.Long last; uom = []; depth_datum = [] };
  channel_ids = channel ∷ [];
  payload = point channel first number ∷ [];
}))

-- the numbers that are drawn, each from the one before
abbrev pub next_number : ℕ → ℕ
next_number x = (x * 6364136223846793005 + 1442695040888963407) % 2 ^ 64

-- a message of a later round: a point, a Ping or a range, by two bits of the number that was drawn
abbrev pub later_message : ℕ → ℕ → Message
later_message x j =
    if (x / 2 ^ 33) % 4 == 2 then ping (pos j)
    else if (x / 2 ^ 33) % 4 == 3 then replace_range (pos (j % 8)) (pos j -ℤ pos 64) (pos j -ℤ pos 33) (pos (x / 2 ^ 40))
    else append_point (pos (j % 8)) (pos j) (pos (x / 2 ^ 40))

-- message j, of session j % 8 in round j / 8, if the number x was drawn
abbrev pub message_at : ℕ → ℕ → Message
message_at x j =
    if j / 8 == 0 then request_session
    else if j / 8 == 1 then open_channel (j % 8)
    else if j / 8 == 2 then subscribe_channel (pos ((j % 8 + 1) % 8))
    else later_message x j

-- ---- the frames

-- each session's messages have the even ids in order
abbrev pub request_header : ℕ → Message → Header
request_header j message = record {
  protocol = pos (protocol_of message);
  kind = pos (message_body message).number;
  correlation = pos 0;
  id = pos (2 * (j / 8 + 1));
  flags = final_part;
}

-- a message of the session j % 8
abbrev pub frame_of : ℕ → Message → Frame
frame_of j message = record { kind = kind_in; tag = j % 8; moment = pos j; bytes = message_bytes (request_header j message) message }

-- and a poll of it
abbrev pub poll_frame : ℕ → Frame
poll_frame j = record { kind = kind_poll; tag = j % 8; moment = pos j; bytes = [] }

unfoldable pub message_frame : ℕ → ℕ → Frame
message_frame x j = frame_of j (message_at x j)

-- the frames of this many messages from message j on, if the number x was drawn
abbrev pub frames_from : ℕ → ℕ → ℕ → List Frame
frames_from x j zero = []
frames_from x j (suc k) = message_frame x j ∷ poll_frame j ∷ frames_from (next_number x) (j + 1) k

-- the frames of a load of this many messages
abbrev pub frames : ℕ → List Frame
frames count = frames_from count 0 count

-- a step gives the next two frames, or nothing if there are no more
abbrev pub Gives : Result (Option (Frame × Frame)) NoMemory → List Frame → List Frame → Type 0
Gives (Ok None) old new = (old ≡ []) × (new ≡ [])
Gives (Ok (Some two)) old new = old ≡ two.0 ∷ two.1 ∷ new
Gives (Err e) old new = new ≡ old
