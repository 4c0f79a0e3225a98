-- What messages about channels have in common: indexes, points, and what a channel is.
-- `schema/write` writes most of this file from `schema/messages.txt`.
use Rattle.std.proofs.Common.{inl, inr}
use Rattle.std.specs.Prelude.{◌≡◌, refl, ℕ, ℤ, List, [], ◌∷◌, ◌⊎◌, get_or}
use Rattle.etp_values.specs.declared.bits.Bits64.{Bits64}
use Rattle.etp_schema.specs.Form.{Form, null_form, boolean_form, int_form, long_form, double_form, text_form, list_form, named_form, symbols, fields, ◌&◌, done, wrapped, union, last, ◌or◌}
use Rattle.etp_schema.specs.DataValue.{data_value_form}
use Rattle.etp_schema.specs.Status.{active_status_kind_form}
use Rattle.msg_channel.specs.declared.indexes.PassDirection.{PassDirection}
use Rattle.msg_channel.specs.declared.indexes.PassDirection.TheVariants as pass_symbol
use Rattle.msg_channel.specs.declared.indexes.PassIndexedDepth.{PassIndexedDepth}
use Rattle.msg_channel.specs.declared.indexes.IndexValue.{IndexValue}
use Rattle.msg_channel.specs.declared.indexes.IndexValue.TheVariants as index_item
use Rattle.msg_channel.specs.declared.indexes.IndexInterval.{IndexInterval}
use Rattle.msg_channel.specs.declared.channel_records.ChannelIndexKind.{ChannelIndexKind}
use Rattle.msg_channel.specs.declared.channel_records.ChannelIndexKind.TheVariants as index_symbol
use Rattle.msg_channel.specs.declared.channel_records.IndexDirection.{IndexDirection}
use Rattle.msg_channel.specs.declared.channel_records.IndexDirection.TheVariants as order_symbol
use Rattle.msg_channel.specs.declared.channel_records.ChannelDataKind.{ChannelDataKind}
use Rattle.msg_channel.specs.declared.channel_records.ChannelDataKind.TheVariants as data_symbol
use Rattle.msg_channel.specs.declared.channel_records.IndexMetadataRecord.{IndexMetadataRecord}
use Rattle.msg_channel.specs.declared.channel_records.AttributeMetadataRecord.{AttributeMetadataRecord}
use Rattle.msg_channel.specs.declared.channel_records.ChannelMetadataRecord.{ChannelMetadataRecord}
use Rattle.msg_channel.specs.declared.points.DataAttribute.{DataAttribute}
use Rattle.msg_channel.specs.declared.points.DataItem.{DataItem}
use Rattle.msg_channel.specs.declared.points.TruncateInfo.{TruncateInfo}

-- Up, HoldingSteady, Down
abbrev pub pass_directions : List PassDirection
pass_directions = pass_symbol.Up ∷ pass_symbol.HoldingSteady ∷ pass_symbol.Down ∷ []

abbrev pub pass_direction_place : PassDirection → ℕ
pass_direction_place pass_symbol.Up = 0
pass_direction_place pass_symbol.HoldingSteady = 1
pass_direction_place pass_symbol.Down = 2

pub pass_direction_again : (x : PassDirection) → get_or pass_directions (pass_direction_place x) pass_symbol.Down ≡ x
pass_direction_again pass_symbol.Up = refl
pass_direction_again pass_symbol.HoldingSteady = refl
pass_direction_again pass_symbol.Down = refl

abbrev pub pass_direction_form : Form PassDirection
pass_direction_form = symbols pass_directions pass_symbol.Down pass_direction_place pass_direction_again refl refl

-- pass, direction, depth
abbrev pub pass_indexed_depth_form : Form PassIndexedDepth
pass_indexed_depth_form =
    fields (long_form & pass_direction_form & double_form & done)
    (λ x. (x.pass, (x.direction, (x.depth, tt))))
    (λ p. record { pass = p.0; direction = p.1.0; depth = p.1.1.0 })
    (λ x. refl) (λ p. refl)

-- which kind an index value is of, as a choice
abbrev pub index_value_parts : IndexValue → Unit {0} ⊎ (ℤ ⊎ (Bits64 ⊎ PassIndexedDepth))
index_value_parts index_item.Null = inl tt
index_value_parts (index_item.Long x) = inr (inl x)
index_value_parts (index_item.Double x) = inr (inr (inl x))
index_value_parts (index_item.PassIndexedDepth x) = inr (inr (inr x))

abbrev pub index_value_whole : Unit {0} ⊎ (ℤ ⊎ (Bits64 ⊎ PassIndexedDepth)) → IndexValue
index_value_whole (inl x) = index_item.Null
index_value_whole (inr (inl x)) = index_item.Long x
index_value_whole (inr (inr (inl x))) = index_item.Double x
index_value_whole (inr (inr (inr x))) = index_item.PassIndexedDepth x

pub index_value_again : (x : IndexValue) → index_value_whole (index_value_parts x) ≡ x
index_value_again index_item.Null = refl
index_value_again (index_item.Long x) = refl
index_value_again (index_item.Double x) = refl
index_value_again (index_item.PassIndexedDepth x) = refl

pub index_value_same : (p : Unit {0} ⊎ (ℤ ⊎ (Bits64 ⊎ PassIndexedDepth))) → index_value_parts (index_value_whole p) ≡ p
index_value_same (inl x) = refl
index_value_same (inr (inl x)) = refl
index_value_same (inr (inr (inl x))) = refl
index_value_same (inr (inr (inr x))) = refl

-- a record with the one field item: null, long, double or PassIndexedDepth
abbrev pub index_value_form : Form IndexValue
index_value_form =
    wrapped (union (null_form or long_form or double_form or last pass_indexed_depth_form) index_value_parts index_value_whole index_value_again index_value_same)

-- startIndex, endIndex, uom, depthDatum
abbrev pub index_interval_form : Form IndexInterval
index_interval_form =
    fields (index_value_form & index_value_form & text_form & text_form & done)
    (λ x. (x.start_index, (x.end_index, (x.uom, (x.depth_datum, tt)))))
    (λ p. record { start_index = p.0; end_index = p.1.0; uom = p.1.1.0; depth_datum = p.1.1.1.0 })
    (λ x. refl) (λ p. refl)

-- DateTime, ElapsedTime, MeasuredDepth, TrueVerticalDepth, PassIndexedDepth, Pressure, Temperature, Scalar
abbrev pub channel_index_kinds : List ChannelIndexKind
channel_index_kinds = index_symbol.DateTime ∷ index_symbol.ElapsedTime ∷ index_symbol.MeasuredDepth ∷ index_symbol.TrueVerticalDepth ∷ index_symbol.PassIndexedDepth ∷ index_symbol.Pressure ∷ index_symbol.Temperature ∷ index_symbol.Scalar ∷ []

abbrev pub channel_index_kind_place : ChannelIndexKind → ℕ
channel_index_kind_place index_symbol.DateTime = 0
channel_index_kind_place index_symbol.ElapsedTime = 1
channel_index_kind_place index_symbol.MeasuredDepth = 2
channel_index_kind_place index_symbol.TrueVerticalDepth = 3
channel_index_kind_place index_symbol.PassIndexedDepth = 4
channel_index_kind_place index_symbol.Pressure = 5
channel_index_kind_place index_symbol.Temperature = 6
channel_index_kind_place index_symbol.Scalar = 7

pub channel_index_kind_again : (x : ChannelIndexKind) → get_or channel_index_kinds (channel_index_kind_place x) index_symbol.Scalar ≡ x
channel_index_kind_again index_symbol.DateTime = refl
channel_index_kind_again index_symbol.ElapsedTime = refl
channel_index_kind_again index_symbol.MeasuredDepth = refl
channel_index_kind_again index_symbol.TrueVerticalDepth = refl
channel_index_kind_again index_symbol.PassIndexedDepth = refl
channel_index_kind_again index_symbol.Pressure = refl
channel_index_kind_again index_symbol.Temperature = refl
channel_index_kind_again index_symbol.Scalar = refl

abbrev pub channel_index_kind_form : Form ChannelIndexKind
channel_index_kind_form = symbols channel_index_kinds index_symbol.Scalar channel_index_kind_place channel_index_kind_again refl refl

-- Increasing, Decreasing, Unordered
abbrev pub index_directions : List IndexDirection
index_directions = order_symbol.Increasing ∷ order_symbol.Decreasing ∷ order_symbol.Unordered ∷ []

abbrev pub index_direction_place : IndexDirection → ℕ
index_direction_place order_symbol.Increasing = 0
index_direction_place order_symbol.Decreasing = 1
index_direction_place order_symbol.Unordered = 2

pub index_direction_again : (x : IndexDirection) → get_or index_directions (index_direction_place x) order_symbol.Unordered ≡ x
index_direction_again order_symbol.Increasing = refl
index_direction_again order_symbol.Decreasing = refl
index_direction_again order_symbol.Unordered = refl

abbrev pub index_direction_form : Form IndexDirection
index_direction_form = symbols index_directions order_symbol.Unordered index_direction_place index_direction_again refl refl

-- DateTime, ElapsedTime, MeasuredDepth, PassIndexedDepth, TrueVerticalDepth, typeBoolean, typeInt, typeLong, typeFloat, typeDouble, typeString, typeBytes
abbrev pub channel_data_kinds : List ChannelDataKind
channel_data_kinds = data_symbol.DateTime ∷ data_symbol.ElapsedTime ∷ data_symbol.MeasuredDepth ∷ data_symbol.PassIndexedDepth ∷ data_symbol.TrueVerticalDepth ∷ data_symbol.TypeBoolean ∷ data_symbol.TypeInt ∷ data_symbol.TypeLong ∷ data_symbol.TypeFloat ∷ data_symbol.TypeDouble ∷ data_symbol.TypeString ∷ data_symbol.TypeBytes ∷ []

abbrev pub channel_data_kind_place : ChannelDataKind → ℕ
channel_data_kind_place data_symbol.DateTime = 0
channel_data_kind_place data_symbol.ElapsedTime = 1
channel_data_kind_place data_symbol.MeasuredDepth = 2
channel_data_kind_place data_symbol.PassIndexedDepth = 3
channel_data_kind_place data_symbol.TrueVerticalDepth = 4
channel_data_kind_place data_symbol.TypeBoolean = 5
channel_data_kind_place data_symbol.TypeInt = 6
channel_data_kind_place data_symbol.TypeLong = 7
channel_data_kind_place data_symbol.TypeFloat = 8
channel_data_kind_place data_symbol.TypeDouble = 9
channel_data_kind_place data_symbol.TypeString = 10
channel_data_kind_place data_symbol.TypeBytes = 11

pub channel_data_kind_again : (x : ChannelDataKind) → get_or channel_data_kinds (channel_data_kind_place x) data_symbol.TypeBytes ≡ x
channel_data_kind_again data_symbol.DateTime = refl
channel_data_kind_again data_symbol.ElapsedTime = refl
channel_data_kind_again data_symbol.MeasuredDepth = refl
channel_data_kind_again data_symbol.PassIndexedDepth = refl
channel_data_kind_again data_symbol.TrueVerticalDepth = refl
channel_data_kind_again data_symbol.TypeBoolean = refl
channel_data_kind_again data_symbol.TypeInt = refl
channel_data_kind_again data_symbol.TypeLong = refl
channel_data_kind_again data_symbol.TypeFloat = refl
channel_data_kind_again data_symbol.TypeDouble = refl
channel_data_kind_again data_symbol.TypeString = refl
channel_data_kind_again data_symbol.TypeBytes = refl

abbrev pub channel_data_kind_form : Form ChannelDataKind
channel_data_kind_form = symbols channel_data_kinds data_symbol.TypeBytes channel_data_kind_place channel_data_kind_again refl refl

-- indexKind, interval, direction, name, uom, depthDatum, indexPropertyKindUri, filterable
abbrev pub index_metadata_record_form : Form IndexMetadataRecord
index_metadata_record_form =
    fields (channel_index_kind_form & index_interval_form & index_direction_form & text_form & text_form & text_form & text_form & boolean_form & done)
    (λ x. (x.index_kind, (x.interval, (x.direction, (x.name, (x.uom, (x.depth_datum, (x.index_property_kind_uri, (x.filterable, tt)))))))))
    (λ p. record { index_kind = p.0; interval = p.1.0; direction = p.1.1.0; name = p.1.1.1.0; uom = p.1.1.1.1.0; depth_datum = p.1.1.1.1.1.0; index_property_kind_uri = p.1.1.1.1.1.1.0; filterable = p.1.1.1.1.1.1.1.0 })
    (λ x. refl) (λ p. refl)

-- attributeId, attributeName, dataKind, uom, depthDatum, attributePropertyKindUri, axisVectorLengths
abbrev pub attribute_metadata_record_form : Form AttributeMetadataRecord
attribute_metadata_record_form =
    fields (int_form & text_form & channel_data_kind_form & text_form & text_form & text_form & (list_form int_form) & done)
    (λ x. (x.attribute_id, (x.attribute_name, (x.data_kind, (x.uom, (x.depth_datum, (x.attribute_property_kind_uri, (x.axis_vector_lengths, tt))))))))
    (λ p. record { attribute_id = p.0; attribute_name = p.1.0; data_kind = p.1.1.0; uom = p.1.1.1.0; depth_datum = p.1.1.1.1.0; attribute_property_kind_uri = p.1.1.1.1.1.0; axis_vector_lengths = p.1.1.1.1.1.1.0 })
    (λ x. refl) (λ p. refl)

-- uri, id, indexes, channelName, dataKind, uom, depthDatum, channelClassUri, status, source, axisVectorLengths, attributeMetadata, customData
abbrev pub channel_metadata_record_form : Form ChannelMetadataRecord
channel_metadata_record_form =
    fields (text_form & long_form & (list_form index_metadata_record_form) & text_form & channel_data_kind_form & text_form & text_form & text_form & active_status_kind_form & text_form & (list_form int_form) & (list_form attribute_metadata_record_form) & (named_form data_value_form) & done)
    (λ x. (x.uri, (x.id, (x.indexes, (x.channel_name, (x.data_kind, (x.uom, (x.depth_datum, (x.channel_class_uri, (x.status, (x.source, (x.axis_vector_lengths, (x.attribute_metadata, (x.custom_data, tt))))))))))))))
    (λ p. record { uri = p.0; id = p.1.0; indexes = p.1.1.0; channel_name = p.1.1.1.0; data_kind = p.1.1.1.1.0; uom = p.1.1.1.1.1.0; depth_datum = p.1.1.1.1.1.1.0; channel_class_uri = p.1.1.1.1.1.1.1.0; status = p.1.1.1.1.1.1.1.1.0; source = p.1.1.1.1.1.1.1.1.1.0; axis_vector_lengths = p.1.1.1.1.1.1.1.1.1.1.0; attribute_metadata = p.1.1.1.1.1.1.1.1.1.1.1.0; custom_data = p.1.1.1.1.1.1.1.1.1.1.1.1.0 })
    (λ x. refl) (λ p. refl)

-- attributeId, attributeValue
abbrev pub data_attribute_form : Form DataAttribute
data_attribute_form =
    fields (int_form & data_value_form & done)
    (λ x. (x.attribute_id, (x.attribute_value, tt)))
    (λ p. record { attribute_id = p.0; attribute_value = p.1.0 })
    (λ x. refl) (λ p. refl)

-- channelId, indexes, value, valueAttributes
abbrev pub data_item_form : Form DataItem
data_item_form =
    fields (long_form & (list_form index_value_form) & data_value_form & (list_form data_attribute_form) & done)
    (λ x. (x.channel_id, (x.indexes, (x.value, (x.value_attributes, tt)))))
    (λ p. record { channel_id = p.0; indexes = p.1.0; value = p.1.1.0; value_attributes = p.1.1.1.0 })
    (λ x. refl) (λ p. refl)

-- channelId, newEndIndex
abbrev pub truncate_info_form : Form TruncateInfo
truncate_info_form =
    fields (long_form & index_value_form & done)
    (λ x. (x.channel_id, (x.new_end_index, tt)))
    (λ p. record { channel_id = p.0; new_end_index = p.1.0 })
    (λ x. refl) (λ p. refl)
