use Rattle.avro_pieces.specs.Passage.{IsGoing}
use Rattle.avro_pieces.proofs.going.run.Given as goal

abbrev pub invariant-loop : goal.invariant-loop
invariant-loop l = IsGoing l.table.nodes.now l.id l.bytes l.current
