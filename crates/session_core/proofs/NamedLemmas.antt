-- The header of a message that was read names the message's protocol.
use Rattle.std.specs.Prelude.{ℕ, ℤ, pos, Bool, true, false, List, [], ◌∷◌, ◌++◌, ◌≡◌, Option, Some, None, Result, Ok, Err, IfOk, refl, if◌then◌else◌}
use Rattle.std.specs.List.{AllByRecursion}
use Rattle.std.proofs.Common.{ap, ◌∙◌}
use Rattle.etp_frame.proofs.KindLemmas.{number_is}
use Rattle.avro_bin.specs.Value.{Value}
use Rattle.etp_frame.specs.Message.{Protocol, common_kinds, kinds_in, protocol_of, protocols, typed_kind, under}
use Rattle.etp_frame.specs.Reading.{◌>>=◌, known_message, read_of, tree_of}
use Rattle.etp_frame.specs.declared.error.FrameError.{FrameError}
use Rattle.etp_frame.specs.declared.header.Header.{Header}
use Rattle.etp_frame.specs.declared.message.Message.{Message}
use Rattle.etp_frame.specs.declared.message.Message.TheVariants as message
use Rattle.etp_schema.specs.Bodies.{is_number}
use Rattle.etp_schema.specs.Family.{Kind, kind_in, read_as}
use Rattle.etp_schema.specs.declared.body.Side.{Side}
use Rattle.msg_channel.specs.ChannelDataLoad.{channel_data_load_kinds}
use Rattle.msg_channel.specs.ChannelSubscribe.{channel_subscribe_kinds}
use Rattle.msg_core.specs.Core.{core_kinds}
use Rattle.msg_core.specs.Dataspace.{dataspace_kinds}
use Rattle.msg_core.specs.Transaction.{transaction_kinds}
use Rattle.msg_store.specs.DataArray.{data_array_kinds}
use Rattle.msg_store.specs.Store.{store_kinds}
use Rattle.session_core.proofs.BesideLemmas.{IsNamed}

-- a message is of the protocol of this number, or one of Core
abbrev IsOfNumber : ℕ → Message → Type 0
IsOfNumber number (message.Core m) = Unit {0}
IsOfNumber number (message.Transaction m) = number ≡ protocol_of (message.Transaction m)
IsOfNumber number (message.Dataspace m) = number ≡ protocol_of (message.Dataspace m)
IsOfNumber number (message.Store m) = number ≡ protocol_of (message.Store m)
IsOfNumber number (message.DataArray m) = number ≡ protocol_of (message.DataArray m)
IsOfNumber number (message.ChannelSubscribe m) = number ≡ protocol_of (message.ChannelSubscribe m)
IsOfNumber number (message.ChannelDataLoad m) = number ≡ protocol_of (message.ChannelDataLoad m)

abbrev ReadsAt : ℕ → Kind Message → Type 0
ReadsAt number k = (v : Value) → IsOfNumber number (k.read v)

reads_under : {M : Type 0} (whole : M → Message) (number : ℕ) → ((m : M) → IsOfNumber number (whole m)) → (ks : List (Kind M)) → AllByRecursion (ReadsAt number) (under whole ks)
reads_under whole number is [] = tt
reads_under whole number is (k ∷ ks) = ((λ v. is (k.read v)), reads_under whole number is ks)

reads_common : (number : ℕ) (ks : List (Kind Message)) → AllByRecursion (ReadsAt number) ks → AllByRecursion (ReadsAt number) (common_kinds ++ ks)
reads_common number ks all = ((λ v. tt), ((λ v. tt), all))

all_read : AllByRecursion (λ (q : Protocol). AllByRecursion (ReadsAt q.number) q.kinds) protocols
all_read = (
  reads_under message.Core 0 (λ m. tt) core_kinds,
  (
    reads_common 24 (under message.Dataspace dataspace_kinds) (reads_under message.Dataspace 24 (λ m. refl) dataspace_kinds),
    (
      reads_common 4 (under message.Store store_kinds) (reads_under message.Store 4 (λ m. refl) store_kinds),
      (
        reads_common 18 (under message.Transaction transaction_kinds) (reads_under message.Transaction 18 (λ m. refl) transaction_kinds),
        (
          reads_common 9 (under message.DataArray data_array_kinds) (reads_under message.DataArray 9 (λ m. refl) data_array_kinds),
          (
            reads_common 21 (under message.ChannelSubscribe channel_subscribe_kinds) (reads_under message.ChannelSubscribe 21 (λ m. refl) channel_subscribe_kinds),
            (reads_common 22 (under message.ChannelDataLoad channel_data_load_kinds) (reads_under message.ChannelDataLoad 22 (λ m. refl) channel_data_load_kinds), tt),
          ),
        ),
      ),
    ),
  ),
)

named_at : (number : ℕ) (h : Header) (m : Message) → h.protocol ≡ pos number → IsOfNumber number m → IsNamed h m
named_at number h (message.Core m) e is = tt
named_at number h (message.Transaction m) e is = e ∙ ap pos is
named_at number h (message.Dataspace m) e is = e ∙ ap pos is
named_at number h (message.Store m) e is = e ∙ ap pos is
named_at number h (message.DataArray m) e is = e ∙ ap pos is
named_at number h (message.ChannelSubscribe m) e is = e ∙ ap pos is
named_at number h (message.ChannelDataLoad m) e is = e ∙ ap pos is

abbrev OnRead : Header → Option Message → Type 0
OnRead h None = Unit {0}
OnRead h (Some m) = IsNamed h m

kind_named : (h : Header) (number : ℕ) → h.protocol ≡ pos number → (v : Value) (kind : ℤ) (ks : List (Kind Message)) → AllByRecursion (ReadsAt number) ks → OnRead h (read_as v (kind_in ks kind))
kind_named h number e v kind [] all = tt
kind_named h number e v kind (k ∷ ks) all = by (is_number k.number kind) (kind_named h number e v kind ks all.1)
  where
    by : (b : Bool) → OnRead h (read_as v (kind_in ks kind)) → OnRead h (read_as v (if b then Some k else kind_in ks kind))
    by true rest = named_at number h (k.read v) e (all.0 v)
    by false rest = rest

typed_named : (h : Header) (v : Value) (qs : List Protocol) → AllByRecursion (λ (q : Protocol). AllByRecursion (ReadsAt q.number) q.kinds) qs → OnRead h (read_as v (kind_in (kinds_in qs h.protocol) h.kind))
typed_named h v [] all = tt
typed_named h v (q ∷ qs) all = by (is_number q.number h.protocol) refl (typed_named h v qs all.1)
  where
    by : (b : Bool) → is_number q.number h.protocol ≡ b → OnRead h (read_as v (kind_in (kinds_in qs h.protocol) h.kind)) → OnRead h (read_as v (kind_in (if b then q.kinds else kinds_in qs h.protocol) h.kind))
    by true e rest = kind_named h q.number (number_is q.number h.protocol e) v h.kind q.kinds all.0
    by false e rest = rest

known_named : (h : Header) (o : Option Message) → OnRead h o → IfOk (known_message h o) (λ y. IsNamed y.0 y.1)
known_named h None is = tt
known_named h (Some m) is = is

tree_named : (r : Result (Header × (ℕ × Value)) FrameError) → IfOk (r >>= (λ tree. known_message tree.0 (read_as tree.1.1 (typed_kind tree.0.protocol tree.0.kind)))) (λ y. IsNamed y.0 y.1)
tree_named (Ok t) = known_named t.0 (read_as t.1.1 (typed_kind t.0.protocol t.0.kind)) (typed_named t.0 t.1.1 protocols all_read)
tree_named (Err e) = tt

pub read_is_named : (side : Side) (bytes : List ℕ) → IfOk (read_of side bytes) (λ y. IsNamed y.0 y.1)
unfolding read_of
read_is_named side bytes = tree_named (tree_of side bytes)
