use Rattle.std.proofs.Common.{refl}
use Rattle.avro_pieces.proofs.RestLemmas.{head_begins}
use Rattle.avro_pieces.proofs.EntryLemmas.{entries_fail, entries_over, entries_into}
use Rattle.avro_pieces.proofs.turn.entries.Goals as goal

pub refused-requires : goal.refused-requires
refused-requires c = entries_fail c.args.table.now.nodes.now c.args.all c.args.entries c.args.allowed c.args.bytes.now c.in-Err.fault c.if-entries-gt0.false c.in-Err.ensures.fails

pub returns-then-count-eq0-clause-turns : goal.returns-then-count-eq0-clause-turns
returns-then-count-eq0-clause-turns c =
    entries_over c.args.table.now.nodes.now c.args.all c.args.entries c.args.allowed c.args.bytes.now c.in-Ok.head.0 c.in-Ok.head.1 c.in-Ok.head.2.now c.if-entries-gt0.false c.requires.begins c.in-Ok.ensures.filled c.in-Ok.ensures.head c.if-count-eq0.true

pub returns-clause-turns : goal.returns-clause-turns
returns-clause-turns c = (
  entries_into c.args.table.now.nodes.now c.args.all c.args.entries (record { child = c.args.entries.child; left = c.in-Ok.head.0; block = c.in-Ok.head.1; names = c.args.entries.names }) c.args.allowed c.args.bytes.now c.in-Ok.head.2.now c.if-entries-gt0.false c.requires.begins c.requires.within c.in-Ok.ensures.filled c.in-Ok.ensures.head c.if-count-eq0.false refl refl,
  (c.requires.there, head_begins c.args.all c.args.bytes.now c.in-Ok.head.0 c.in-Ok.head.1 c.in-Ok.head.2.now c.in-Ok.ensures.head),
)
