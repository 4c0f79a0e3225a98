use Rattle.std.proofs.Common.{length, refl}
use Rattle.avro_bin.specs.declared.schema.Node.TheVariants as node
use Rattle.avro_bin.proofs.SchemaLemmas.{below}
use Rattle.avro_bin.proofs.StepLemmas.{place_below}
use Rattle.avro_pieces.proofs.OpenLemmas.{open_fields, fields_there, open_array, array_there, open_map, map_there, open_union, branch_there}
use Rattle.avro_pieces.proofs.TurnLemmas.{stays}
use Rattle.avro_pieces.proofs.turn.open.Goals as goal

pub bounds-places-branch : goal.bounds-places-branch
bounds-places-branch c = place_below (length c.in-Union.places.now) c.args.bytes.now c.in-Ok.branch c.in-Ok.rest.now c.in-Ok.ensures

pub returns-in-Fields-clause-turns : goal.returns-in-Fields-clause-turns
returns-in-Fields-clause-turns c = (
  open_fields c.args.table.now.nodes.now c.requires.table c.args.all c.args.id c.args.allowed c.args.bytes.now c.requires.there c.if-allowed-eq0.false (record { places = c.in-Fields.places; next = 0 }) c.in-Fields.is refl,
  fields_there c.args.table.now.nodes.now c.requires.table c.args.all c.args.id c.args.allowed c.args.bytes.now c.requires.there c.if-allowed-eq0.false (record { places = c.in-Fields.places; next = 0 }) c.in-Fields.is,
)

pub returns-in-Array-clause-turns : goal.returns-in-Array-clause-turns
returns-in-Array-clause-turns c = (
  open_array c.args.table.now.nodes.now c.requires.table c.args.all c.args.id c.args.allowed c.args.bytes.now c.requires.there c.if-allowed-eq0.false c.in-Array.child c.in-Array.is,
  (array_there c.args.table.now.nodes.now c.requires.table c.args.all c.args.id c.args.allowed c.args.bytes.now c.requires.there c.if-allowed-eq0.false c.in-Array.child c.in-Array.is, tt),
)

pub returns-in-Map-clause-turns : goal.returns-in-Map-clause-turns
returns-in-Map-clause-turns c = (
  record {
    front = stays c.args.bytes.now;
    same = λ more fits. open_map c.args.table.now.nodes.now c.requires.table c.args.all c.args.id c.args.allowed c.args.bytes.now c.requires.there c.if-allowed-eq0.false c.in-Map.child c.new.result.entries c.in-Map.is c.new.ensures.empty more;
  },
  (map_there c.args.table.now.nodes.now c.requires.table c.args.all c.args.id c.args.allowed c.args.bytes.now c.requires.there c.if-allowed-eq0.false c.in-Map.child c.in-Map.is, tt),
)

pub returns-in-Ok-clause-turns : goal.returns-in-Ok-clause-turns
returns-in-Ok-clause-turns c =
    let under = below c.args.table.now.nodes.now c.requires.table c.args.id (node.Union c.in-Union.places) c.requires.there c.in-Union.is in
    let lt = place_below (length c.in-Union.places.now) c.args.bytes.now c.in-Ok.branch c.in-Ok.rest.now c.in-Ok.ensures in (
      open_union c.args.table.now.nodes.now c.requires.table c.args.all c.args.id c.args.allowed c.args.bytes.now c.requires.there c.if-allowed-eq0.false (record { places = c.in-Union.places; next = 0 }) c.in-Ok.branch c.in-Ok.rest.now c.in-Union.is c.in-Ok.ensures,
      branch_there c.args.table.now.nodes.now c.requires.table c.args.all c.args.id c.args.allowed c.args.bytes.now c.requires.there c.if-allowed-eq0.false c.in-Union.places.now c.in-Ok.branch under lt,
    )
