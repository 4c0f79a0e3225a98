use Rattle.std.proofs.Common.{◌∙◌}
use Rattle.point_lines.proofs.TextLemmas.{text_read, text_refused}
use Rattle.point_lines.proofs.points.text_in.Goals as goal

pub returns-in_ok-copy-in-Ok : goal.returns-in_ok-copy-in-Ok
returns-in_ok-copy-in-Ok c = text_read c.args.text.now c.in_ok-copy-in-Ok.field-0 c.in-Ok.ensures.cases.1 (c.in_ok-copy-in-Ok.ensures ∙ c.in-Ok.ensures.cases.0)

pub returns-in-Err : goal.returns-in-Err
returns-in-Err c = text_refused c.args.text.now c.in-Err.ensures.cases.0
