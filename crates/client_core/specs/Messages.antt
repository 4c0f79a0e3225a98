-- The messages of a client's asks.
use Rattle.std.specs.Prelude.{ℕ, ℤ, pos, false, true, List, [], ◌∷◌, None, codes, map}
use Rattle.etp_values.specs.Uri.{plain_uri}
use Rattle.etp_values.specs.declared.point.ChannelPoint.{ChannelPoint}
use Rattle.etp_values.specs.declared.point.Point.{Point}
use Rattle.etp_values.specs.declared.uri.StoreUri.{StoreUri}
use Rattle.etp_schema.specs.declared.status.ActiveStatusKind.TheVariants.{Active}
use Rattle.msg_core.specs.declared.core_messages.CoreMessage.TheVariants as core
use Rattle.msg_core.specs.declared.core_messages.RequestSession.{RequestSession}
use Rattle.msg_core.specs.declared.core_messages.SupportedProtocol.{SupportedProtocol}
use Rattle.msg_core.specs.declared.dataspace_messages.Dataspace.{Dataspace}
use Rattle.msg_core.specs.declared.dataspace_messages.DataspaceMessage.TheVariants as dataspace
use Rattle.msg_store.specs.declared.store_messages.DataObject.{DataObject}
use Rattle.msg_store.specs.declared.store_messages.Resource.{Resource}
use Rattle.msg_store.specs.declared.store_messages.StoreMessage.TheVariants as store
use Rattle.msg_channel.specs.declared.channel_data_load_messages.ChannelDataLoadMessage.TheVariants as load
use Rattle.msg_channel.specs.declared.channel_subscribe_messages.ChannelSubscribeMessage.TheVariants as subscribe
use Rattle.msg_channel.specs.declared.channel_subscribe_messages.ChannelSubscribeInfo.{ChannelSubscribeInfo}
use Rattle.msg_channel.specs.declared.channel_ranges.ChannelRangeInfo.{ChannelRangeInfo}
use Rattle.msg_channel.specs.declared.indexes.IndexInterval.{IndexInterval}
use Rattle.msg_channel.specs.declared.indexes.IndexValue.TheVariants as index
use Rattle.msg_channel.specs.declared.points.DataItem.{DataItem}
use Rattle.msg_channel.specs.declared.points.TruncateInfo.{TruncateInfo}
use Rattle.etp_frame.specs.declared.message.Message.{Message}
use Rattle.etp_frame.specs.declared.message.Message.TheVariants as message
use Rattle.client_core.specs.declared.ask.Ask.{Ask}
use Rattle.client_core.specs.declared.ask.Ask.TheVariants as ask

-- an ask names one thing, under one key
abbrev pub keyed : {A : Type 0} → A → List (List ℕ × A)
keyed x = (codes "c", x) ∷ []

-- ---- RequestSession

-- a protocol as it is requested: version 1.2.0.0 of a store
abbrev pub requested : ℤ → SupportedProtocol
requested protocol = record {
  protocol = protocol;
  protocol_version = record { major = pos 1; minor = pos 2; revision = pos 0; patch = pos 0 };
  role = codes "store";
  protocol_capabilities = [];
}

-- Store, DataArray, Transaction, ChannelSubscribe, ChannelDataLoad, Dataspace
abbrev pub protocols : List ℤ
protocols = pos 4 ∷ pos 9 ∷ pos 18 ∷ pos 21 ∷ pos 22 ∷ pos 24 ∷ []

-- sixteen zero bytes
abbrev pub no_id : List ℕ
no_id = 0 ∷ 0 ∷ 0 ∷ 0 ∷ 0 ∷ 0 ∷ 0 ∷ 0 ∷ 0 ∷ 0 ∷ 0 ∷ 0 ∷ 0 ∷ 0 ∷ 0 ∷ 0 ∷ []

abbrev pub formats : List (List ℕ)
formats = codes "xml" ∷ codes "json" ∷ []

abbrev pub request_session : ℤ → RequestSession
request_session moment = record {
  application_name = codes "etpctl";
  application_version = codes "1";
  client_instance_id = no_id;
  requested_protocols = map requested protocols;
  supported_data_objects = [];
  supported_compression = [];
  supported_formats = formats;
  current_date_time = moment;
  earliest_retained_change_time = pos 0;
  server_authorization_required = false;
  endpoint_capabilities = [];
}

-- the message with which a client begins
abbrev pub request_message : ℤ → Message
request_message moment = message.Core (core.RequestSession (request_session moment))

-- ---- asks

-- the dataspace of a path
abbrev pub dataspace_of : List ℕ → Dataspace
dataspace_of path = record {
  uri = plain_uri (record { space = path; object = None });
  path = [];
  store_last_write = pos 0;
  store_created = pos 0;
  custom_data = [];
}

abbrev pub resource_of : StoreUri → Resource
resource_of uri = record {
  uri = plain_uri uri;
  alternate_uris = [];
  name = [];
  source_count = None;
  target_count = None;
  last_changed = pos 0;
  store_last_write = pos 0;
  store_created = pos 0;
  active_status = Active;
  custom_data = [];
}

abbrev pub object_of : StoreUri → List ℕ → DataObject
object_of uri payload = record { resource = resource_of uri; format = codes "xml"; blob_id = None; payload = payload }

-- a point with its one index
abbrev pub item_of : ChannelPoint → DataItem
item_of p = record { channel_id = p.channel; indexes = index.Long p.point.index ∷ []; value = p.point.value; value_attributes = [] }

-- all changes of a channel from an index on
abbrev pub subscription_of : ℤ → ℤ → ChannelSubscribeInfo
subscription_of channel start = record { channel_id = channel; start_index = index.Long start; data_changes = true; request_latest_index_count = None }

-- the same for a point of this channel
abbrev pub item_at : ℤ → Point → DataItem
item_at channel p = item_of (record { channel = channel; point = p })

-- an interval from one index to another
abbrev pub long_interval : ℤ → ℤ → IndexInterval
long_interval from to = record { start_index = index.Long from; end_index = index.Long to; uom = []; depth_datum = [] }

abbrev pub cut_of : ℤ → ℤ → TruncateInfo
cut_of channel end = record { channel_id = channel; new_end_index = index.Long end }

abbrev pub range_of : ℤ → ℤ → ℤ → ChannelRangeInfo
range_of channel from to = record { channel_ids = channel ∷ []; interval = long_interval from to; secondary_intervals = [] }

-- ---- the message of each ask

abbrev pub space_put : List ℕ → Message
space_put path = message.Dataspace (dataspace.PutDataspaces (record { dataspaces = keyed (dataspace_of path) }))

abbrev pub object_put : StoreUri → List ℕ → Message
object_put uri payload = message.Store (store.PutDataObjects (record { data_objects = keyed (object_of uri payload); prune_contained_objects = false }))

abbrev pub object_asked : StoreUri → Message
object_asked uri = message.Store (store.GetDataObjects (record { uris = keyed (plain_uri uri); format = [] }))

abbrev pub channel_opened : StoreUri → Message
channel_opened uri = message.ChannelDataLoad (load.OpenChannels (record { uris = keyed (plain_uri uri) }))

abbrev pub points_loaded : List ChannelPoint → Message
points_loaded points = message.ChannelDataLoad (load.LoadChannelData (record { payload = map item_of points }))

abbrev pub channel_asked : StoreUri → Message
channel_asked uri = message.ChannelSubscribe (subscribe.GetChannelMetadata (record { uris = keyed (plain_uri uri) }))

abbrev pub channel_subscribed : ℤ → ℤ → Message
channel_subscribed channel start = message.ChannelSubscribe (subscribe.SubscribeChannels (record { channels = keyed (subscription_of channel start) }))

abbrev pub range_replaced : ℤ → ℤ → ℤ → List Point → Message
range_replaced channel from to points = message.ChannelDataLoad (load.ReplaceRange (record { changed_interval = long_interval from to; channel_ids = channel ∷ []; payload = map (item_at channel) points }))

abbrev pub channel_cut : ℤ → ℤ → Message
channel_cut channel end = message.ChannelDataLoad (load.TruncateChannels (record { channels = keyed (cut_of channel end) }))

abbrev pub range_asked : ℤ → ℤ → ℤ → Message
range_asked channel from to = message.ChannelSubscribe (subscribe.GetRanges (record { request_uuid = no_id; channel_ranges = range_of channel from to ∷ [] }))

abbrev pub spaces_asked : Message
spaces_asked = message.Dataspace (dataspace.GetDataspaces (record { store_last_write_filter = None }))

abbrev pub object_deleted : StoreUri → Message
object_deleted uri = message.Store (store.DeleteDataObjects (record { uris = keyed (plain_uri uri); prune_contained_objects = false }))

abbrev pub pinged : ℤ → Message
pinged moment = message.Core (core.Ping (record { current_date_time = moment }))

abbrev pub session_closed : Message
session_closed = message.Core (core.CloseSession (record { reason = [] }))

-- what is sent for an ask, which was made at this moment
abbrev pub message_of : ℤ → Ask → Message
message_of moment (ask.PutSpace path) = space_put path
message_of moment (ask.Put uri payload) = object_put uri payload
message_of moment (ask.Get uri) = object_asked uri
message_of moment (ask.OpenChannel uri) = channel_opened uri
message_of moment (ask.Load points) = points_loaded points
message_of moment (ask.Meta uri) = channel_asked uri
message_of moment (ask.Subscribe channel start) = channel_subscribed channel start
message_of moment (ask.Replace channel from to points) = range_replaced channel from to points
message_of moment (ask.Cut channel end) = channel_cut channel end
message_of moment (ask.Range channel from to) = range_asked channel from to
message_of moment ask.Spaces = spaces_asked
message_of moment (ask.Delete uri) = object_deleted uri
message_of moment ask.Ping = pinged moment
message_of moment ask.Close = session_closed
