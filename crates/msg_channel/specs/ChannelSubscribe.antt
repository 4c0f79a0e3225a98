-- The messages of the ChannelSubscribe protocol (21), with the records that only they have.
-- `schema/write` writes all below the imports from `schema/messages.txt`.
use Rattle.std.proofs.Common.{ap}
use Rattle.std.specs.Prelude.{refl, List, [], ◌∷◌}
use Rattle.std.specs.List.{AllByRecursion}
use Rattle.etp_schema.specs.Form.{Form, boolean_form, id_form, int_form, long_form, text_form, list_form, named_form, option_form, fields, ◌&◌, done}
use Rattle.etp_schema.specs.Family.{Kind, Body, message, body, IsFound, IsAgain, again}
use Rattle.msg_channel.specs.ChannelRecords.{index_value_form, index_interval_form, channel_metadata_record_form, data_item_form, truncate_info_form}
use Rattle.msg_channel.specs.declared.channel_subscribe_messages.ChannelSubscribeInfo.{ChannelSubscribeInfo}
use Rattle.msg_channel.specs.declared.channel_ranges.ChannelRangeInfo.{ChannelRangeInfo}
use Rattle.msg_channel.specs.declared.channel_subscribe_messages.GetChannelMetadata.{GetChannelMetadata}
use Rattle.msg_channel.specs.declared.channel_subscribe_messages.GetChannelMetadataResponse.{GetChannelMetadataResponse}
use Rattle.msg_channel.specs.declared.channel_subscribe_messages.SubscribeChannels.{SubscribeChannels}
use Rattle.msg_channel.specs.declared.channel_subscribe_messages.ChannelData.{ChannelData}
use Rattle.msg_channel.specs.declared.channel_ranges.RangeReplaced.{RangeReplaced}
use Rattle.msg_channel.specs.declared.channel_subscribe_messages.UnsubscribeChannels.{UnsubscribeChannels}
use Rattle.msg_channel.specs.declared.channel_subscribe_messages.SubscriptionsStopped.{SubscriptionsStopped}
use Rattle.msg_channel.specs.declared.channel_ranges.GetRanges.{GetRanges}
use Rattle.msg_channel.specs.declared.channel_ranges.GetRangesResponse.{GetRangesResponse}
use Rattle.msg_channel.specs.declared.channel_subscribe_messages.SubscribeChannelsResponse.{SubscribeChannelsResponse}
use Rattle.msg_channel.specs.declared.channel_ranges.ChannelsTruncated.{ChannelsTruncated}
use Rattle.msg_channel.specs.declared.channel_subscribe_messages.ChannelSubscribeMessage.{ChannelSubscribeMessage}
use Rattle.msg_channel.specs.declared.channel_subscribe_messages.ChannelSubscribeMessage.TheVariants as m

-- channelId, startIndex, dataChanges, requestLatestIndexCount
abbrev pub channel_subscribe_info_form : Form ChannelSubscribeInfo
channel_subscribe_info_form =
    fields (long_form & index_value_form & boolean_form & (option_form int_form) & done)
    (λ x. (x.channel_id, (x.start_index, (x.data_changes, (x.request_latest_index_count, tt)))))
    (λ p. record { channel_id = p.0; start_index = p.1.0; data_changes = p.1.1.0; request_latest_index_count = p.1.1.1.0 })
    (λ x. refl) (λ p. refl)

-- channelIds, interval, secondaryIntervals
abbrev pub channel_range_info_form : Form ChannelRangeInfo
channel_range_info_form =
    fields ((list_form long_form) & index_interval_form & (list_form index_interval_form) & done)
    (λ x. (x.channel_ids, (x.interval, (x.secondary_intervals, tt))))
    (λ p. record { channel_ids = p.0; interval = p.1.0; secondary_intervals = p.1.1.0 })
    (λ x. refl) (λ p. refl)

-- uris
abbrev pub get_channel_metadata_form : Form GetChannelMetadata
get_channel_metadata_form =
    fields ((named_form text_form) & done)
    (λ x. (x.uris, tt))
    (λ p. record { uris = p.0 })
    (λ x. refl) (λ p. refl)

-- metadata
abbrev pub get_channel_metadata_response_form : Form GetChannelMetadataResponse
get_channel_metadata_response_form =
    fields ((named_form channel_metadata_record_form) & done)
    (λ x. (x.metadata, tt))
    (λ p. record { metadata = p.0 })
    (λ x. refl) (λ p. refl)

-- channels
abbrev pub subscribe_channels_form : Form SubscribeChannels
subscribe_channels_form =
    fields ((named_form channel_subscribe_info_form) & done)
    (λ x. (x.channels, tt))
    (λ p. record { channels = p.0 })
    (λ x. refl) (λ p. refl)

-- data
abbrev pub channel_data_form : Form ChannelData
channel_data_form =
    fields ((list_form data_item_form) & done)
    (λ x. (x.payload, tt))
    (λ p. record { payload = p.0 })
    (λ x. refl) (λ p. refl)

-- changeTime, channelIds, changedInterval, data
abbrev pub range_replaced_form : Form RangeReplaced
range_replaced_form =
    fields (long_form & (list_form long_form) & index_interval_form & (list_form data_item_form) & done)
    (λ x. (x.change_time, (x.channel_ids, (x.changed_interval, (x.payload, tt)))))
    (λ p. record { change_time = p.0; channel_ids = p.1.0; changed_interval = p.1.1.0; payload = p.1.1.1.0 })
    (λ x. refl) (λ p. refl)

-- channelIds
abbrev pub unsubscribe_channels_form : Form UnsubscribeChannels
unsubscribe_channels_form =
    fields ((named_form long_form) & done)
    (λ x. (x.channel_ids, tt))
    (λ p. record { channel_ids = p.0 })
    (λ x. refl) (λ p. refl)

-- reason, channelIds
abbrev pub subscriptions_stopped_form : Form SubscriptionsStopped
subscriptions_stopped_form =
    fields (text_form & (named_form long_form) & done)
    (λ x. (x.reason, (x.channel_ids, tt)))
    (λ p. record { reason = p.0; channel_ids = p.1.0 })
    (λ x. refl) (λ p. refl)

-- requestUuid, channelRanges
abbrev pub get_ranges_form : Form GetRanges
get_ranges_form =
    fields (id_form & (list_form channel_range_info_form) & done)
    (λ x. (x.request_uuid, (x.channel_ranges, tt)))
    (λ p. record { request_uuid = p.0; channel_ranges = p.1.0 })
    (λ x. refl) (λ p. refl)

-- data
abbrev pub get_ranges_response_form : Form GetRangesResponse
get_ranges_response_form =
    fields ((list_form data_item_form) & done)
    (λ x. (x.payload, tt))
    (λ p. record { payload = p.0 })
    (λ x. refl) (λ p. refl)

-- success
abbrev pub subscribe_channels_response_form : Form SubscribeChannelsResponse
subscribe_channels_response_form =
    fields ((named_form text_form) & done)
    (λ x. (x.success, tt))
    (λ p. record { success = p.0 })
    (λ x. refl) (λ p. refl)

-- changeTime, channels
abbrev pub channels_truncated_form : Form ChannelsTruncated
channels_truncated_form =
    fields (long_form & (list_form truncate_info_form) & done)
    (λ x. (x.change_time, (x.channels, tt)))
    (λ p. record { change_time = p.0; channels = p.1.0 })
    (λ x. refl) (λ p. refl)

-- the messages by number
abbrev pub channel_subscribe_kinds : List (Kind ChannelSubscribeMessage)
channel_subscribe_kinds =
    message 1 get_channel_metadata_form m.GetChannelMetadata ∷
    message 2 get_channel_metadata_response_form m.GetChannelMetadataResponse ∷
    message 3 subscribe_channels_form m.SubscribeChannels ∷
    message 4 channel_data_form m.ChannelData ∷
    message 6 range_replaced_form m.RangeReplaced ∷
    message 7 unsubscribe_channels_form m.UnsubscribeChannels ∷
    message 8 subscriptions_stopped_form m.SubscriptionsStopped ∷
    message 9 get_ranges_form m.GetRanges ∷
    message 10 get_ranges_response_form m.GetRangesResponse ∷
    message 12 subscribe_channels_response_form m.SubscribeChannelsResponse ∷
    message 13 channels_truncated_form m.ChannelsTruncated ∷ []

-- the number, schema and value of a message's body
abbrev pub channel_subscribe_body : ChannelSubscribeMessage → Body
channel_subscribe_body (m.GetChannelMetadata x) = body 1 get_channel_metadata_form x
channel_subscribe_body (m.GetChannelMetadataResponse x) = body 2 get_channel_metadata_response_form x
channel_subscribe_body (m.SubscribeChannels x) = body 3 subscribe_channels_form x
channel_subscribe_body (m.ChannelData x) = body 4 channel_data_form x
channel_subscribe_body (m.RangeReplaced x) = body 6 range_replaced_form x
channel_subscribe_body (m.UnsubscribeChannels x) = body 7 unsubscribe_channels_form x
channel_subscribe_body (m.SubscriptionsStopped x) = body 8 subscriptions_stopped_form x
channel_subscribe_body (m.GetRanges x) = body 9 get_ranges_form x
channel_subscribe_body (m.GetRangesResponse x) = body 10 get_ranges_response_form x
channel_subscribe_body (m.SubscribeChannelsResponse x) = body 12 subscribe_channels_response_form x
channel_subscribe_body (m.ChannelsTruncated x) = body 13 channels_truncated_form x

-- each message is found by its number, and read as it was
pub channel_subscribe_found : (x : ChannelSubscribeMessage) → IsFound channel_subscribe_kinds channel_subscribe_body x
channel_subscribe_found (m.GetChannelMetadata x) = (message 1 get_channel_metadata_form m.GetChannelMetadata, refl, refl, λ h. ap m.GetChannelMetadata (get_channel_metadata_form.back x h))
channel_subscribe_found (m.GetChannelMetadataResponse x) = (message 2 get_channel_metadata_response_form m.GetChannelMetadataResponse, refl, refl, λ h. ap m.GetChannelMetadataResponse (get_channel_metadata_response_form.back x h))
channel_subscribe_found (m.SubscribeChannels x) = (message 3 subscribe_channels_form m.SubscribeChannels, refl, refl, λ h. ap m.SubscribeChannels (subscribe_channels_form.back x h))
channel_subscribe_found (m.ChannelData x) = (message 4 channel_data_form m.ChannelData, refl, refl, λ h. ap m.ChannelData (channel_data_form.back x h))
channel_subscribe_found (m.RangeReplaced x) = (message 6 range_replaced_form m.RangeReplaced, refl, refl, λ h. ap m.RangeReplaced (range_replaced_form.back x h))
channel_subscribe_found (m.UnsubscribeChannels x) = (message 7 unsubscribe_channels_form m.UnsubscribeChannels, refl, refl, λ h. ap m.UnsubscribeChannels (unsubscribe_channels_form.back x h))
channel_subscribe_found (m.SubscriptionsStopped x) = (message 8 subscriptions_stopped_form m.SubscriptionsStopped, refl, refl, λ h. ap m.SubscriptionsStopped (subscriptions_stopped_form.back x h))
channel_subscribe_found (m.GetRanges x) = (message 9 get_ranges_form m.GetRanges, refl, refl, λ h. ap m.GetRanges (get_ranges_form.back x h))
channel_subscribe_found (m.GetRangesResponse x) = (message 10 get_ranges_response_form m.GetRangesResponse, refl, refl, λ h. ap m.GetRangesResponse (get_ranges_response_form.back x h))
channel_subscribe_found (m.SubscribeChannelsResponse x) = (message 12 subscribe_channels_response_form m.SubscribeChannelsResponse, refl, refl, λ h. ap m.SubscribeChannelsResponse (subscribe_channels_response_form.back x h))
channel_subscribe_found (m.ChannelsTruncated x) = (message 13 channels_truncated_form m.ChannelsTruncated, refl, refl, λ h. ap m.ChannelsTruncated (channels_truncated_form.back x h))

-- what is read of a body is written as that body
pub channel_subscribe_again : AllByRecursion (IsAgain channel_subscribe_body) channel_subscribe_kinds
channel_subscribe_again =
    (again 1 get_channel_metadata_form, (again 2 get_channel_metadata_response_form, (again 3 subscribe_channels_form, (again 4 channel_data_form, (again 6 range_replaced_form, (again 7 unsubscribe_channels_form, (again 8 subscriptions_stopped_form, (again 9 get_ranges_form, (again 10 get_ranges_response_form, (again 12 subscribe_channels_response_form, (again 13 channels_truncated_form, tt)))))))))))
