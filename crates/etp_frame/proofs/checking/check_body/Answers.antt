use Rattle.std.proofs.Common.{ℕ, List, length, take, drop, ◌-◌, arith}
use Rattle.std.proofs.lemmas.List.{length-take}
use Rattle.avro_bin.specs.Schema.{schema}
use Rattle.avro_bin.specs.Laws.{node_limit}
use Rattle.etp_frame.proofs.CheckLemmas.{end_within, refusal_within}
use Rattle.etp_frame.proofs.checking.check_body.Goals as goal

pub overflow_add-result : goal.overflow_add-result
overflow_add-result c =
    let size : ℕ = length c.args.bytes.now - c.args.front in
    let behind : List ℕ = drop c.args.front c.args.bytes.now in
    omega (arith, length-take size behind, end_within (schema c.schema_table.result.now.nodes.now c.args.place) node_limit (take size behind) c.in-Ok.length c.in-Ok.ensures)

pub body_error-requires : goal.body_error-requires
body_error-requires c =
    let size : ℕ = length c.args.bytes.now - c.args.front in
    let behind : List ℕ = drop c.args.front c.args.bytes.now in
    omega (arith, length-take size behind, refusal_within (schema c.schema_table.result.now.nodes.now c.args.place) node_limit (take size behind) c.in-Err.refusal c.in-Err.ensures)
