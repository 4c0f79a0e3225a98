use Rattle.std.proofs.Common.{◌≡◌, pos, arith}
use Rattle.std.proofs.lemmas.Int.{ints}
use Rattle.std.proofs.lemmas.Result.{err_from_is_err_and}
use Rattle.etp_schema.proofs.KindLemmas.{kind_read, kind_fails}
use Rattle.msg_channel.specs.ChannelSubscribe.{channel_data_form, channels_truncated_form, get_channel_metadata_form, get_channel_metadata_response_form, get_ranges_form, get_ranges_response_form, range_replaced_form, subscribe_channels_form, subscribe_channels_response_form, subscriptions_stopped_form, unsubscribe_channels_form}
use Rattle.msg_channel.specs.declared.channel_subscribe_messages.ChannelSubscribeMessage.TheVariants as m
use Rattle.msg_channel.proofs.channel_subscribe_messages.ChannelSubscribeMessage.read.Goals as goal

pub returns-in_err-take-in-1 : goal.returns-in_err-take-in-1
returns-in_err-take-in-1 c =
    let is : c.args.kind ≡ pos 1 = omega (arith, ints) in
    let p = err_from_is_err_and c.from_residual.result c.from_residual.ensures.1 in
    rw (p.1, p.2, is) (kind_fails 1 get_channel_metadata_form m.GetChannelMetadata _ _ c.in_err-take-in-1.field-0.0 c.in_err-take-in-1.ensures)

pub returns-in_ok-take-in-1 : goal.returns-in_ok-take-in-1
returns-in_ok-take-in-1 c =
    let is : c.args.kind ≡ pos 1 = omega (arith, ints) in
    rw is (kind_read 1 get_channel_metadata_form m.GetChannelMetadata _ _ _ _ _ c.in_ok-take-in-1.ensures)

pub returns-in_err-take-in-2 : goal.returns-in_err-take-in-2
returns-in_err-take-in-2 c =
    let is : c.args.kind ≡ pos 2 = omega (arith, ints) in
    let p = err_from_is_err_and c.from_residual-in_err-take-in-2.result c.from_residual-in_err-take-in-2.ensures.1 in
    rw (p.1, p.2, is) (kind_fails 2 get_channel_metadata_response_form m.GetChannelMetadataResponse _ _ c.in_err-take-in-2.field-0.0 c.in_err-take-in-2.ensures)

pub returns-in_ok-take-in-2 : goal.returns-in_ok-take-in-2
returns-in_ok-take-in-2 c =
    let is : c.args.kind ≡ pos 2 = omega (arith, ints) in
    rw is (kind_read 2 get_channel_metadata_response_form m.GetChannelMetadataResponse _ _ _ _ _ c.in_ok-take-in-2.ensures)

pub returns-in_err-take-in-3 : goal.returns-in_err-take-in-3
returns-in_err-take-in-3 c =
    let is : c.args.kind ≡ pos 3 = omega (arith, ints) in
    let p = err_from_is_err_and c.from_residual-in_err-take-in-3.result c.from_residual-in_err-take-in-3.ensures.1 in
    rw (p.1, p.2, is) (kind_fails 3 subscribe_channels_form m.SubscribeChannels _ _ c.in_err-take-in-3.field-0.0 c.in_err-take-in-3.ensures)

pub returns-in_ok-take-in-3 : goal.returns-in_ok-take-in-3
returns-in_ok-take-in-3 c =
    let is : c.args.kind ≡ pos 3 = omega (arith, ints) in
    rw is (kind_read 3 subscribe_channels_form m.SubscribeChannels _ _ _ _ _ c.in_ok-take-in-3.ensures)

pub returns-in_err-take-in-4 : goal.returns-in_err-take-in-4
returns-in_err-take-in-4 c =
    let is : c.args.kind ≡ pos 4 = omega (arith, ints) in
    let p = err_from_is_err_and c.from_residual-in_err-take-in-4.result c.from_residual-in_err-take-in-4.ensures.1 in
    rw (p.1, p.2, is) (kind_fails 4 channel_data_form m.ChannelData _ _ c.in_err-take-in-4.field-0.0 c.in_err-take-in-4.ensures)

pub returns-in_ok-take-in-4 : goal.returns-in_ok-take-in-4
returns-in_ok-take-in-4 c =
    let is : c.args.kind ≡ pos 4 = omega (arith, ints) in
    rw is (kind_read 4 channel_data_form m.ChannelData _ _ _ _ _ c.in_ok-take-in-4.ensures)

pub returns-in_err-take-in-6 : goal.returns-in_err-take-in-6
returns-in_err-take-in-6 c =
    let is : c.args.kind ≡ pos 6 = omega (arith, ints) in
    let p = err_from_is_err_and c.from_residual-in_err-take-in-6.result c.from_residual-in_err-take-in-6.ensures.1 in
    rw (p.1, p.2, is) (kind_fails 6 range_replaced_form m.RangeReplaced _ _ c.in_err-take-in-6.field-0.0 c.in_err-take-in-6.ensures)

pub returns-in_ok-take-in-6 : goal.returns-in_ok-take-in-6
returns-in_ok-take-in-6 c =
    let is : c.args.kind ≡ pos 6 = omega (arith, ints) in
    rw is (kind_read 6 range_replaced_form m.RangeReplaced _ _ _ _ _ c.in_ok-take-in-6.ensures)

pub returns-in_err-take-in-7 : goal.returns-in_err-take-in-7
returns-in_err-take-in-7 c =
    let is : c.args.kind ≡ pos 7 = omega (arith, ints) in
    let p = err_from_is_err_and c.from_residual-in_err-take-in-7.result c.from_residual-in_err-take-in-7.ensures.1 in
    rw (p.1, p.2, is) (kind_fails 7 unsubscribe_channels_form m.UnsubscribeChannels _ _ c.in_err-take-in-7.field-0.0 c.in_err-take-in-7.ensures)

pub returns-in_ok-take-in-7 : goal.returns-in_ok-take-in-7
returns-in_ok-take-in-7 c =
    let is : c.args.kind ≡ pos 7 = omega (arith, ints) in
    rw is (kind_read 7 unsubscribe_channels_form m.UnsubscribeChannels _ _ _ _ _ c.in_ok-take-in-7.ensures)

pub returns-in_err-take-in-8 : goal.returns-in_err-take-in-8
returns-in_err-take-in-8 c =
    let is : c.args.kind ≡ pos 8 = omega (arith, ints) in
    let p = err_from_is_err_and c.from_residual-in_err-take-in-8.result c.from_residual-in_err-take-in-8.ensures.1 in
    rw (p.1, p.2, is) (kind_fails 8 subscriptions_stopped_form m.SubscriptionsStopped _ _ c.in_err-take-in-8.field-0.0 c.in_err-take-in-8.ensures)

pub returns-in_ok-take-in-8 : goal.returns-in_ok-take-in-8
returns-in_ok-take-in-8 c =
    let is : c.args.kind ≡ pos 8 = omega (arith, ints) in
    rw is (kind_read 8 subscriptions_stopped_form m.SubscriptionsStopped _ _ _ _ _ c.in_ok-take-in-8.ensures)

pub returns-in_err-take-in-9 : goal.returns-in_err-take-in-9
returns-in_err-take-in-9 c =
    let is : c.args.kind ≡ pos 9 = omega (arith, ints) in
    let p = err_from_is_err_and c.from_residual-in_err-take-in-9.result c.from_residual-in_err-take-in-9.ensures.1 in
    rw (p.1, p.2, is) (kind_fails 9 get_ranges_form m.GetRanges _ _ c.in_err-take-in-9.field-0.0 c.in_err-take-in-9.ensures)

pub returns-in_ok-take-in-9 : goal.returns-in_ok-take-in-9
returns-in_ok-take-in-9 c =
    let is : c.args.kind ≡ pos 9 = omega (arith, ints) in
    rw is (kind_read 9 get_ranges_form m.GetRanges _ _ _ _ _ c.in_ok-take-in-9.ensures)

pub returns-in_err-take-in-10 : goal.returns-in_err-take-in-10
returns-in_err-take-in-10 c =
    let is : c.args.kind ≡ pos 10 = omega (arith, ints) in
    let p = err_from_is_err_and c.from_residual-in_err-take-in-10.result c.from_residual-in_err-take-in-10.ensures.1 in
    rw (p.1, p.2, is) (kind_fails 10 get_ranges_response_form m.GetRangesResponse _ _ c.in_err-take-in-10.field-0.0 c.in_err-take-in-10.ensures)

pub returns-in_ok-take-in-10 : goal.returns-in_ok-take-in-10
returns-in_ok-take-in-10 c =
    let is : c.args.kind ≡ pos 10 = omega (arith, ints) in
    rw is (kind_read 10 get_ranges_response_form m.GetRangesResponse _ _ _ _ _ c.in_ok-take-in-10.ensures)

pub returns-in_err-take-in-12 : goal.returns-in_err-take-in-12
returns-in_err-take-in-12 c =
    let is : c.args.kind ≡ pos 12 = omega (arith, ints) in
    let p = err_from_is_err_and c.from_residual-in_err-take-in-12.result c.from_residual-in_err-take-in-12.ensures.1 in
    rw (p.1, p.2, is) (kind_fails 12 subscribe_channels_response_form m.SubscribeChannelsResponse _ _ c.in_err-take-in-12.field-0.0 c.in_err-take-in-12.ensures)

pub returns-in_ok-take-in-12 : goal.returns-in_ok-take-in-12
returns-in_ok-take-in-12 c =
    let is : c.args.kind ≡ pos 12 = omega (arith, ints) in
    rw is (kind_read 12 subscribe_channels_response_form m.SubscribeChannelsResponse _ _ _ _ _ c.in_ok-take-in-12.ensures)

pub returns-in_err-take-in-13 : goal.returns-in_err-take-in-13
returns-in_err-take-in-13 c =
    let is : c.args.kind ≡ pos 13 = omega (arith, ints) in
    let p = err_from_is_err_and c.from_residual-in_err-take-in-13.result c.from_residual-in_err-take-in-13.ensures.1 in
    rw (p.1, p.2, is) (kind_fails 13 channels_truncated_form m.ChannelsTruncated _ _ c.in_err-take-in-13.field-0.0 c.in_err-take-in-13.ensures)

pub returns-in_ok-take-in-13 : goal.returns-in_ok-take-in-13
returns-in_ok-take-in-13 c =
    let is : c.args.kind ≡ pos 13 = omega (arith, ints) in
    rw is (kind_read 13 channels_truncated_form m.ChannelsTruncated _ _ _ _ _ c.in_ok-take-in-13.ensures)
