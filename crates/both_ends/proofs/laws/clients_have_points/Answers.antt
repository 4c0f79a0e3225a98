use Rattle.both_ends.proofs.EndLemmas as ends
use Rattle.both_ends.proofs.laws.clients_have_points.Goals as goal

pub returns-clause-handed : goal.returns-clause-handed
returns-clause-handed c = ends.client_is_handed c.run_streams.ensures.streams c.subscriptions_are_replied.ensures c.notices_are_changes.ensures.messages

pub returns-clause-cursor : goal.returns-clause-cursor
returns-clause-cursor c =
    ends.client_has_points c.copies_are_folds.ensures c.run_streams.ensures.streams c.stream_laws.ensures
    (ends.client_is_handed c.run_streams.ensures.streams c.subscriptions_are_replied.ensures c.notices_are_changes.ensures.messages)

pub returns-clause-idle : goal.returns-clause-idle
returns-clause-idle c =
    ends.idle_client_has_points c.copies_are_folds.ensures c.run_streams.ensures.idle c.stream_laws.ensures
    (ends.client_is_handed c.run_streams.ensures.streams c.subscriptions_are_replied.ensures c.notices_are_changes.ensures.messages)
