use Rattle.std.proofs.Common.{ℕ, subst, arith}
use Rattle.std.specs.Prelude.{IfOk, Result}
use Rattle.avro_bin.specs.Value.{Value}
use Rattle.avro_bin.specs.Laws.{IsBytes}
use Rattle.avro_bin.specs.declared.refusal.Refusal.{Refusal}
use Rattle.avro_pieces.specs.Passage.{Passes}
use Rattle.etp_frame.proofs.FeedingLemmas.{stood_now, read_place}
use Rattle.etp_frame.proofs.stage.pass_body.Goals as goal

pub behind-rest-requires : goal.behind-rest-requires
behind-rest-requires c =
    let fits : IsBytes c.args.bytes.now = λ i. omega (arith, c.type_inv.bytes i) in
    (stood_now c.args.sender c.args.table.now.nodes.now c.args.front c.args.passage c.args.bytes.now fits c.requires.stood).0.1

pub go_on-requires-clause-stands : goal.go_on-requires-clause-stands
go_on-requires-clause-stands c =
    let fits : IsBytes c.args.bytes.now = λ i. omega (arith, c.type_inv.bytes i) in
    rw c.behind-rest.ensures (stood_now c.args.sender c.args.table.now.nodes.now c.args.front c.args.passage c.args.bytes.now fits c.requires.stood).1.1

pub returns-clause-front : goal.returns-clause-front
returns-clause-front c =
    let fits : IsBytes c.args.bytes.now = λ i. omega (arith, c.type_inv.bytes i) in
    (stood_now c.args.sender c.args.table.now.nodes.now c.args.front c.args.passage c.args.bytes.now fits c.requires.stood).0

pub returns-clause-passes : goal.returns-clause-passes
returns-clause-passes c =
    let fits : IsBytes c.args.bytes.now = λ i. omega (arith, c.type_inv.bytes i) in
    let now = stood_now c.args.sender c.args.table.now.nodes.now c.args.front c.args.passage c.args.bytes.now fits c.requires.stood in
    let same = read_place c.args.sender c.args.table.now.nodes.now c.args.front c.args.passage c.args.bytes.now c.behind-rest.result.now c.requires.profile now.0 now.1.0 c.behind-rest.ensures in
    subst (λ (read : Result (Value × ℕ) Refusal). IfOk c.go_on.result (λ x. Passes read x.1)) same c.go_on.ensures.passes
