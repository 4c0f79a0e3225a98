use Rattle.tool_laws.proofs.UnplayedLemmas.{unplayed}
use Rattle.tool_laws.proofs.laws.uncommitted_is_unplayed.Goals as goal

pub returns : goal.returns
returns c = unplayed c.tags_are_runs.ensures c.staged.ensures.unseen
