use Rattle.etp_frame.proofs.ChunkLemmas.{sent_step}
use Rattle.etp_frame.proofs.sending.send_next.Goals as goal

pub returns : goal.returns
returns c = λ rest.
    sent_step c.args.limit c.args.number c.args.sending.count c.args.object rest c.args.sending.sent.items _ c.in_ok-one.one c.count_behind-behind.result c.in_ok-push.ensures.items c.in_ok-one.ensures c.count_behind-behind.ensures
