use Rattle.both_ends.proofs.CopyLemmas as copies
use Rattle.both_ends.proofs.laws.handed_copies_are_points.Goals as goal

pub returns-clause-cursor : goal.returns-clause-cursor
returns-clause-cursor c = copies.handed_has_points c.copies_are_folds.ensures c.run_streams.ensures.streams c.stream_laws.ensures

pub returns-clause-idle : goal.returns-clause-idle
returns-clause-idle c = copies.idle_has_points c.copies_are_folds.ensures c.run_streams.ensures.idle c.stream_laws.ensures
