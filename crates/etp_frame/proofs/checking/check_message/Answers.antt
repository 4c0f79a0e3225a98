use Rattle.etp_frame.proofs.ReadingLemmas.{refused_body, whole_tree}
use Rattle.etp_frame.proofs.checking.check_message.Goals as goal

pub returns-in-Err-check_body : goal.returns-in-Err-check_body
returns-in-Err-check_body c =
    let f = c.in-Ok.front in
    let is = c.in-Ok.ensures.front in
    λ other. refused_body c.args.sender c.args.bytes.now (f.0, f.1) f.2 c.in-Err-check_body.error is.header is.plain is.sent (c.in-Err-check_body.ensures other)

pub returns-in-Ok-check_body : goal.returns-in-Ok-check_body
returns-in-Ok-check_body c =
    let f = c.in-Ok.front in
    let is = c.in-Ok.ensures.front in
    let v = c.in-Ok-check_body.ensures in
    ((f.2, v.0), whole_tree c.args.sender c.args.bytes.now (f.0, f.1) f.2 v.0 is.header is.plain is.sent v.1)
