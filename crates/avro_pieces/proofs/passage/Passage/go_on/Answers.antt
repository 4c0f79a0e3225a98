use Rattle.std.proofs.Common.{arith}
use Rattle.avro_bin.specs.Laws.{IsBytes}
use Rattle.avro_pieces.proofs.GoingLemmas.{read_whole, read_short, read_refused}
use Rattle.avro_pieces.proofs.passage.Passage.go_on.Goals as goal

pub returns-in-Ok-default-true-clause-passes : goal.returns-in-Ok-default-true-clause-passes
returns-in-Ok-default-true-clause-passes c =
    let fits : IsBytes c.args.bytes.now = λ i. omega (arith, c.type_inv.bytes i) in
    let g = c.in-Ok-default-true.going in
    let s = rw c.in-Ok-default-true.field-0-1-test at c.in-Ok-default-true.ensures.stops in
    rw c.stand-passage.ensures.at (read_whole c.args.table.now.nodes.now c.args.self.id c.args.bytes.now fits g.levels.items g.allowed g.rest.now c.in-Ok-default-true.ensures.going.continues s)

pub returns-in-Ok-default-false-clause-passes : goal.returns-in-Ok-default-false-clause-passes
returns-in-Ok-default-false-clause-passes c =
    let fits : IsBytes c.args.bytes.now = λ i. omega (arith, c.type_inv.bytes i) in
    let g = c.in-Ok-default-false.going in
    let s = rw c.in-Ok-default-false.field-0-1-test at c.in-Ok-default-false.ensures.stops in
    read_short c.args.table.now.nodes.now c.args.self.id c.args.bytes.now fits g.levels.items g.allowed g.rest.now c.in-Ok-default-false.ensures.going.continues s.0 s.1

pub returns-in-Err-At-clause-refuses : goal.returns-in-Err-At-clause-refuses
returns-in-Err-At-clause-refuses c =
    let f = rw c.in-Err-At.field-0-is at c.in-Err-At.ensures.fails in
    rw (c.refusal_at.ensures, c.saturating_sub.ensures) (read_refused c.args.table.now.nodes.now c.args.self.id c.args.bytes.now c.in-Err-At.why c.in-Err-At.left f)
