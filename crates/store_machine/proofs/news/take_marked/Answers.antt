use Rattle.std.proofs.Common.{sym, ◌∙◌}
use Rattle.store_machine.specs.Telling.{due_at}
use Rattle.store_machine.proofs.TakingLemmas.{takes_unmarked}
use Rattle.store_machine.proofs.news.take_marked.Goals as goal

pub returns-then-not-marked-clause-takes : goal.returns-then-not-marked-clause-takes
returns-then-not-marked-clause-takes c =
    takes_unmarked (due_at c.args.channels.now c.args.followed.now c.args.place) c.args.taken.now.changes.items (sym c.requires.marked ∙ c.if-not-marked.true)
