use Rattle.turn_book.specs.Words.{view}
use Rattle.store_hub.proofs.KeepingLemmas.{met_by, keeps_met}
use Rattle.store_hub.proofs.turns.meet.Goals as goal

pub returns-clause-met : goal.returns-clause-met
returns-clause-met c =
    met_by (view c.args.seat.now) (view c.args.ended) (view c.join.new.seat) (view c.look.new.seat) c.look.result c.join.ensures.view c.requires.idle.0 c.look.ensures.idle

pub returns-clause-kept : goal.returns-clause-kept
returns-clause-kept c = keeps_met (view c.args.seat.now) (view c.args.ended) (view c.look.new.seat) (returns-clause-met c)
