use Rattle.std.proofs.Common.{List, ℕ, drop, subst}
use Rattle.avro_bin.specs.Laws.{read_value, node_limit}
use Rattle.avro_pieces.specs.Passage.{Passes}
use Rattle.etp_schema.specs.Shapes.{shape_at}
use Rattle.etp_frame.proofs.stage.read_on.Goals as goal

pub passed_body-requires-clause-passes : goal.passed_body-requires-clause-passes
passed_body-requires-clause-passes c =
    subst (λ (b : List ℕ). Passes (read_value (shape_at c.args.front.place) node_limit (drop c.args.front.length b)) c.in-Ok.passed) c.deref.ensures.value c.in-Ok.ensures.passes
