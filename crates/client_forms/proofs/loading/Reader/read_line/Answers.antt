use Rattle.std.proofs.Common.{Some}
use Rattle.client_forms.proofs.LineLemmas.{at_end, at_line, at_long}
use Rattle.client_forms.proofs.loading.Reader.read_line.Goals as goal

pub returns-in-Line-clause-turns : goal.returns-in-Line-clause-turns
returns-in-Line-clause-turns g c = λ bytes f h.
    let left = g.R.Source.left c.advance.new.input in
    let gave = c.in-Line.ensures.goes (Some bytes) h.read.given h.read.gave in
    c.add_line.ensures.turns bytes left (g.R.Source.faults c.args.from.now) (g.R.Source.faults c.advance.new.input) f
    (at_line bytes (g.R.Source.left c.args.from.now) left c.args.self.now c.advance.new.self f h gave.0 gave.1)

pub returns-in-NoMore-clause-turns : goal.returns-in-NoMore-clause-turns
returns-in-NoMore-clause-turns g c = λ bytes f h.
    at_end bytes (g.R.Source.left c.args.from.now) (g.R.Source.left c.advance.new.input) c.args.self.now c.advance.new.self f h (c.in-NoMore.ensures.goes (Some bytes) h.read.given h.read.gave)

pub returns-in-TooLong-clause-turns : goal.returns-in-TooLong-clause-turns
returns-in-TooLong-clause-turns g c = λ bytes f h.
    at_long bytes (g.R.Source.left c.args.from.now) (g.R.Source.left c.advance.new.input) c.args.self.now f (g.R.Source.faults c.args.from.now) (g.R.Source.faults c.advance.new.input) h (c.in-TooLong.ensures.goes (Some bytes) h.read.given h.read.gave)
