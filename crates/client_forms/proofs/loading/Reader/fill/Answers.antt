use Rattle.std.proofs.Common.{Ok, subst}
use Rattle.client_forms.specs.Filling.{Turns}
use Rattle.client_forms.proofs.LineLemmas.{stops_later}
use Rattle.client_forms.proofs.loading.Reader.fill.Goals as goal

pub returns-in-Ok-Full-clause-fills : goal.returns-in-Ok-Full-clause-fills
returns-in-Ok-Full-clause-fills g c = λ bytes f h.
    subst (λ t. Turns (Ok t) bytes (g.R.Source.left c.read_line.new.from) (g.R.Source.faults c.loop.from) (g.R.Source.faults c.read_line.new.from) c.read_line.new.self f) c.in-Ok-Full.field-0-is
    (c.in-Ok-Full.ensures.turns bytes f (c.loop.invariant.reads bytes f h))

pub returns-in-Ok-NoMore-clause-fills : goal.returns-in-Ok-NoMore-clause-fills
returns-in-Ok-NoMore-clause-fills g c = λ bytes f h.
    subst (λ t. Turns (Ok t) bytes (g.R.Source.left c.read_line.new.from) (g.R.Source.faults c.loop.from) (g.R.Source.faults c.read_line.new.from) c.read_line.new.self f) c.in-Ok-NoMore.field-0-is
    (c.in-Ok-NoMore.ensures.turns bytes f (c.loop.invariant.reads bytes f h))

pub returns-in-Err-clause-fills : goal.returns-in-Err-clause-fills
returns-in-Err-clause-fills g c = λ bytes f h.
    stops_later c.in-Err.stop f (g.R.Source.faults c.args.from.now) (g.R.Source.faults c.loop.from) (g.R.Source.faults c.read_line.new.from) c.loop.invariant.kept
    (c.in-Err.ensures.turns bytes f (c.loop.invariant.reads bytes f h))
