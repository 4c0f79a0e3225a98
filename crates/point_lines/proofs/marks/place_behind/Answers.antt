use Rattle.point_lines.proofs.MarkLemmas.{behind_some, behind_none}
use Rattle.point_lines.proofs.marks.place_behind.Goals as goal

pub returns-in-Some : goal.returns-in-Some
returns-in-Some c = behind_some c.args.mark c.args.bytes.now c.args.seen c.in-Some.i c.requires.clear c.requires.within c.in-Some.ensures

pub returns-in-None : goal.returns-in-None
returns-in-None c = behind_none c.args.mark c.args.bytes.now c.args.seen c.requires.clear c.in-None.ensures
