use Rattle.avro_bin.specs.View.{value_of}
use Rattle.etp_frame.proofs.ReadingLemmas.{refused_body, whole_tree}
use Rattle.etp_frame.proofs.reading.read_tree.Goals as goal

pub returns-in-Err-read_body_tree-clause-gives : goal.returns-in-Err-read_body_tree-clause-gives
returns-in-Err-read_body_tree-clause-gives c =
    let f = c.in-Ok.front in
    let is = c.in-Ok.ensures.front in
    λ other. refused_body c.args.sender c.args.bytes.now (f.0, f.1) f.2 c.in-Err-read_body_tree.error is.header is.plain is.sent (c.in-Err-read_body_tree.ensures.gives other)

pub returns-in-Ok-read_body_tree-clause-gives : goal.returns-in-Ok-read_body_tree-clause-gives
returns-in-Ok-read_body_tree-clause-gives c =
    let f = c.in-Ok.front in
    let is = c.in-Ok.ensures.front in
    whole_tree c.args.sender c.args.bytes.now (f.0, f.1) f.2 (value_of c.in-Ok-read_body_tree.tree) is.header is.plain is.sent c.in-Ok-read_body_tree.ensures.gives
