use Rattle.both_ends.proofs.BeginLemmas as beginnings
use Rattle.both_ends.proofs.laws.replies_accept.Goals as goal

pub returns : goal.returns
returns c = beginnings.replies_accept c.parts_are_joined.ensures.messages
