-- What ends an ask.
use Rattle.std.specs.Prelude.{ℕ, ℤ, Bool, true, false, not, ◌&&◌, int_lt, List, [], ◌∷◌, ◌++◌, Option, Some, None, is_some, map, option_map, codes, filter}
use Rattle.std.specs.List.{find}
use Rattle.std.specs.Map.{lookup}
use Rattle.std.specs.Ordering.{int_eq}
use Rattle.std.specs.Str.{bytes_eq}
use Rattle.etp_values.specs.declared.point.Point.{Point}
use Rattle.msg_channel.specs.ChannelRecords.{channel_data_kind_place}
use Rattle.msg_channel.specs.declared.channel_data_load_messages.ChannelDataLoadMessage.{ChannelDataLoadMessage}
use Rattle.msg_channel.specs.declared.channel_data_load_messages.ChannelDataLoadMessage.TheVariants as load
use Rattle.msg_channel.specs.declared.channel_records.ChannelMetadataRecord.{ChannelMetadataRecord}
use Rattle.msg_channel.specs.declared.channel_subscribe_messages.ChannelSubscribeMessage.{ChannelSubscribeMessage}
use Rattle.msg_channel.specs.declared.channel_subscribe_messages.ChannelSubscribeMessage.TheVariants as subscribe
use Rattle.msg_core.specs.declared.core_messages.CoreMessage.{CoreMessage}
use Rattle.msg_core.specs.declared.core_messages.CoreMessage.TheVariants as core
use Rattle.msg_core.specs.declared.dataspace_messages.Dataspace.{Dataspace}
use Rattle.msg_core.specs.declared.dataspace_messages.DataspaceMessage.{DataspaceMessage}
use Rattle.msg_core.specs.declared.dataspace_messages.DataspaceMessage.TheVariants as dataspace
use Rattle.msg_store.specs.declared.store_messages.StoreMessage.{StoreMessage}
use Rattle.msg_store.specs.declared.store_messages.StoreMessage.TheVariants as store
use Rattle.etp_frame.specs.declared.message.Message.{Message}
use Rattle.etp_frame.specs.declared.message.Message.TheVariants as message
use Rattle.client_parts.specs.Changes.{channel_points}
use Rattle.client_core.specs.State.{Heard}
use Rattle.client_core.specs.declared.got.Got.{Got}
use Rattle.client_core.specs.declared.got.Got.TheVariants as got
use Rattle.client_core.specs.declared.got.Space.{Space}
use Rattle.client_core.specs.declared.state.Asked.{Asked}
use Rattle.client_core.specs.declared.state.Channel.{Channel}
use Rattle.client_core.specs.declared.state.Due.{Due}
use Rattle.client_core.specs.declared.state.Due.TheVariants as due
use Rattle.client_core.specs.declared.state.Phase.TheVariants as phase

-- ---- what an ask is answered

-- the value under an ask's key
abbrev pub at_key : {A : Type 0} → List (List ℕ × A) → Option A
at_key xs = lookup (bytes_eq (codes "c")) xs

-- what a channel is, for the ask of this id
abbrev pub meta_of : ℤ → ChannelMetadataRecord → Got
meta_of id m = got.Meta id m.id (channel_data_kind_place m.data_kind)

-- ---- what each answer is found in

-- the key is granted
abbrev pub is_granted : {A : Type 0} → List (List ℕ × A) → Bool
is_granted xs = is_some (at_key xs)

abbrev pub core_session : CoreMessage → Option (List ℕ)
core_session (core.OpenSession x) = Some x.session_id
core_session _ = None

-- the session that a message opens
abbrev pub session_in : Message → Option (List ℕ)
session_in (message.Core x) = core_session x
session_in _ = None

abbrev pub core_moment : CoreMessage → Option ℤ
core_moment (core.Pong x) = Some x.current_date_time
core_moment _ = None

-- the moment of a Pong
abbrev pub moment_in : Message → Option ℤ
moment_in (message.Core x) = core_moment x
moment_in _ = None

abbrev pub is_dataspace_granted : DataspaceMessage → Bool
is_dataspace_granted (dataspace.PutDataspacesResponse x) = is_granted x.success
is_dataspace_granted _ = false

-- a message says that the dataspace is put
abbrev pub grants_space : Message → Bool
grants_space (message.Dataspace x) = is_dataspace_granted x
grants_space _ = false

abbrev pub store_granted : StoreMessage → Bool
store_granted (store.PutDataObjectsResponse x) = is_granted x.success
store_granted _ = false

-- a message says that the object is put
abbrev pub grants_object : Message → Bool
grants_object (message.Store x) = store_granted x
grants_object _ = false

abbrev pub store_object : StoreMessage → Option (List ℕ)
store_object (store.GetDataObjectsResponse x) = option_map (λ o. o.payload) (at_key x.data_objects)
store_object _ = None

-- the data of the object that a message carries
abbrev pub object_in : Message → Option (List ℕ)
object_in (message.Store x) = store_object x
object_in _ = None

abbrev pub subscribe_granted : ChannelSubscribeMessage → Bool
subscribe_granted (subscribe.SubscribeChannelsResponse x) = is_granted x.success
subscribe_granted _ = false

-- a message says that the channel is subscribed to
abbrev pub grants_subscription : Message → Bool
grants_subscription (message.ChannelSubscribe x) = subscribe_granted x
grants_subscription _ = false

abbrev pub subscribe_channel : ChannelSubscribeMessage → Option ChannelMetadataRecord
subscribe_channel (subscribe.GetChannelMetadataResponse x) = at_key x.metadata
subscribe_channel _ = None

-- what a message says about the channel
abbrev pub channel_in : Message → Option ChannelMetadataRecord
channel_in (message.ChannelSubscribe x) = subscribe_channel x
channel_in _ = None

abbrev pub load_channel : ChannelDataLoadMessage → Option ChannelMetadataRecord
load_channel (load.OpenChannelsResponse x) = option_map (λ i. i.metadata) (at_key x.channels)
load_channel _ = None

-- what a message says about the channel that it opens for loading
abbrev pub opened_in : Message → Option ChannelMetadataRecord
opened_in (message.ChannelDataLoad x) = load_channel x
opened_in _ = None

abbrev pub load_replaced : ChannelDataLoadMessage → Bool
load_replaced (load.ReplaceRangeResponse x) = true
load_replaced _ = false

-- a message says that the points are replaced; it names no key
abbrev pub says_replaced : Message → Bool
says_replaced (message.ChannelDataLoad x) = load_replaced x
says_replaced _ = false

abbrev pub load_cut : ChannelDataLoadMessage → Bool
load_cut (load.TruncateChannelsResponse x) = is_granted x.channels_truncated_time
load_cut _ = false

-- a message says that the channel is cut
abbrev pub says_cut : Message → Bool
says_cut (message.ChannelDataLoad x) = load_cut x
says_cut _ = false

abbrev pub subscribe_points : ℤ → ChannelSubscribeMessage → Option (List Point)
subscribe_points channel (subscribe.GetRangesResponse x) = channel_points channel x.payload
subscribe_points channel _ = None

-- the points of the channel that a message carries, if it carries no others
abbrev pub points_in : ℤ → Message → Option (List Point)
points_in channel (message.ChannelSubscribe x) = subscribe_points channel x
points_in channel _ = None

abbrev pub space_of : Dataspace → Space
space_of x = record { uri = x.uri; written = x.store_last_write; created = x.store_created }

abbrev pub dataspace_spaces : DataspaceMessage → Option (List Space)
dataspace_spaces (dataspace.GetDataspacesResponse x) = Some (map space_of x.dataspaces)
dataspace_spaces _ = None

-- the dataspaces that a message lists
abbrev pub spaces_in : Message → Option (List Space)
spaces_in (message.Dataspace x) = dataspace_spaces x
spaces_in _ = None

abbrev pub store_deleted : StoreMessage → Bool
store_deleted (store.DeleteDataObjectsResponse x) = is_granted x.deleted_uris
store_deleted _ = false

-- a message says that the object is deleted
abbrev pub says_deleted : Message → Bool
says_deleted (message.Store x) = store_deleted x
says_deleted _ = false

-- ---- answers

-- that the ask of this id is done, if its key is granted
abbrev pub done : ℤ → Bool → Option Got
done id true = Some (got.Done id)
done id false = None

-- The answer that a message is to the ask of this id, if it ends what the ask waits for. A load has no answer.
abbrev pub answer : ℤ → Due → Message → Option Got
answer id due.Session m = option_map got.Opened (session_in m)
answer id due.SpacePut m = done id (grants_space m)
answer id due.ObjectPut m = done id (grants_object m)
answer id due.Object m = option_map (got.Object id) (object_in m)
answer id due.Opening m = option_map (meta_of id) (opened_in m)
answer id due.Metadata m = option_map (meta_of id) (channel_in m)
answer id due.Load m = None
answer id (due.Subscription channel) m = done id (grants_subscription m)
answer id due.Replacement m = done id (says_replaced m)
answer id due.Truncation m = done id (says_cut m)
answer id (due.Range channel) m = option_map (got.Points id) (points_in channel m)
answer id due.Spaces m = option_map (got.Spaces id) (spaces_in m)
answer id due.Deletion m = done id (says_deleted m)
answer id due.Pong m = option_map got.Pong (moment_in m)

-- ---- open asks

abbrev pub due_at : ℤ → List Asked → Option Due
due_at id asks = option_map (λ a. a.due) (find (λ a. int_eq a.id id) asks)

abbrev pub without : ℤ → List Asked → List Asked
without id asks = filter (λ a. not (int_eq a.id id)) asks

abbrev pub is_load : Due → Bool
is_load due.Load = true
is_load _ = false

-- a Load that was asked before the Ping of this id
abbrev pub is_loaded : ℤ → Asked → Bool
is_loaded id a = is_load a.due && int_lt a.id id

-- the loads that were asked before a Ping are over with its Pong
abbrev pub without_loads : ℤ → List Asked → List Asked
without_loads id asks = filter (λ a. not (is_loaded id a)) asks

-- a channel that is subscribed to begins with an empty copy
abbrev pub subscribed : ℤ → List Channel → List Channel
subscribed channel cs = filter (λ f. not (int_eq f.id channel)) cs ++ record { id = channel; live = true; copy = [] } ∷ []

abbrev pub ask_ended_by : ℤ → Due → Heard → Heard
ask_ended_by id due.Session s = record s { phase = phase.Open }
ask_ended_by id due.Pong s = record s { asks = without_loads id s.asks }
ask_ended_by id (due.Subscription channel) s = record s { channels = subscribed channel s.channels }
ask_ended_by id _ s = s

-- the ask of this id, which waited for this, has its answer
abbrev pub ask_ended : ℤ → Due → Heard → Heard
ask_ended id d s = ask_ended_by id d (record s { asks = without id s.asks })
