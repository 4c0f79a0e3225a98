use Rattle.std.proofs.Common.{◌<◌, ◌+◌, length, refl, arith}
use Rattle.avro_bin.proofs.StepLemmas.{all_at}
use Rattle.avro_pieces.proofs.OpenLemmas.{field_over, field_turn}
use Rattle.avro_pieces.proofs.turn.field.Goals as goal

pub returns-then-places-next-clause-turns : goal.returns-then-places-next-clause-turns
returns-then-places-next-clause-turns c = field_over c.args.table.now.nodes.now c.args.all c.args.fields c.args.allowed c.args.bytes.now c.if-places-next.true

pub returns-clause-turns : goal.returns-clause-turns
returns-clause-turns c =
    let lt : c.args.fields.next < length c.args.fields.places.now = omega (arith, c.if-places-next.false) in (
      field_turn c.args.table.now.nodes.now c.args.all c.args.fields (record { places = c.args.fields.places; next = c.args.fields.next + 1 }) c.args.allowed c.args.bytes.now lt refl refl,
      c.requires.there,
      all_at (λ child. child < length c.args.table.now.nodes.now) c.args.fields.places.now c.args.fields.next c.requires.there lt,
    )
