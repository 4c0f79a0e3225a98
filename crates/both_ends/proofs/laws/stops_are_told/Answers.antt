use Rattle.both_ends.proofs.StopLemmas as stops
use Rattle.both_ends.proofs.laws.stops_are_told.Goals as goal

pub returns : goal.returns
returns c = stops.stops_are_told c.parts_are_joined.ensures.messages
