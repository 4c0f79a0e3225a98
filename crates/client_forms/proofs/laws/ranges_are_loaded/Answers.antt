use Rattle.point_lines.specs.Lines.{lines_in}
use Rattle.client_forms.proofs.RangeLemmas.{lines_loaded}
use Rattle.client_forms.proofs.laws.ranges_are_loaded.Goals as goal

pub returns : goal.returns
returns c = λ kind ps text fits is. lines_loaded kind 1 (lines_in text) ps (c.lines_are_read.ensures.lines kind ps text fits is)
