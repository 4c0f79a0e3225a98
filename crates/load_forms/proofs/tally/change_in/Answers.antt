use Rattle.std.proofs.Common.{ap, sym, ◌∙◌}
use Rattle.etp_frame.specs.Reading.{tree_of}
use Rattle.etp_schema.specs.declared.body.Side.TheVariants as side
use Rattle.load_forms.specs.Tally.{change_in}
use Rattle.load_forms.proofs.ChangeLemmas.{no_change_in}
use Rattle.load_forms.proofs.tally.change_in.Goals as goal

pub returns-in-Ok : goal.returns-in-Ok
returns-in-Ok c = c.tells_change.ensures ∙ sym (ap change_in c.in-Ok.ensures.1)

pub returns-in-Err : goal.returns-in-Err
returns-in-Err c = no_change_in c.no_change.result c.in-Err.error (tree_of side.Server c.args.bytes.now) c.no_change.ensures c.in-Err.ensures
