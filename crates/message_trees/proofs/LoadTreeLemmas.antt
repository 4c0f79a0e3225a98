-- What decoding says about reading a load.
use Rattle.std.proofs.Common.{◌≡◌, ◌∙◌, ℕ, List, Ok, Err, refl, ap, subst}
use Rattle.avro_bin.specs.declared.refusal.Refusal.{Refusal}
use Rattle.avro_bin.specs.Value.{Value}
use Rattle.avro_bin.specs.Schema.{Schema}
use Rattle.avro_bin.specs.Laws.{read_value, node_limit, Decodes}
use Rattle.etp_schema.specs.Reading.{ReadsAs}
use Rattle.etp_schema.specs.Shapes.{shape_at}
use Rattle.msg_channel.specs.ChannelDataLoad.{load_channel_data_form}
use Rattle.msg_channel.specs.declared.channel_data_load_messages.LoadChannelData.{LoadChannelData}

load_shape : shape_at 158 ≡ load_channel_data_form.schema
load_shape = refl

pub load_read : (s : Schema) (bytes : List ℕ) (v : Value) (len : ℕ) (x : LoadChannelData) → s ≡ shape_at 158 → read_value s node_limit bytes ≡ Ok (v, len) → x ≡ load_channel_data_form.from_value v
    → ReadsAs load_channel_data_form.from_value (read_value load_channel_data_form.schema node_limit bytes) (Ok (x, len))
load_read s bytes v len x is read same = (v, subst (λ (t : Schema). read_value t node_limit bytes ≡ Ok (v, len)) (is ∙ load_shape) read, same)

pub load_refused : (s : Schema) (bytes : List ℕ) (e : Refusal) → s ≡ shape_at 158 → Decodes (read_value s node_limit bytes) (Err e) → ReadsAs load_channel_data_form.from_value (read_value load_channel_data_form.schema node_limit bytes) (Err e)
load_refused s bytes e is refused = subst (λ (t : Schema). Decodes (read_value t node_limit bytes) (Err e)) (is ∙ load_shape) refused
