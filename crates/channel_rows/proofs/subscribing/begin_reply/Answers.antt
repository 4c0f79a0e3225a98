use Rattle.std.proofs.Common.{◌∙◌}
use Rattle.channel_rows.specs.Subscriptions.{begin_one}
use Rattle.channel_rows.proofs.BegunLemmas.{begun_reply}
use Rattle.channel_rows.proofs.subscribing.begin_reply.Goals as goal

pub returns-clause-sendings : goal.returns-clause-sendings
returns-clause-sendings c =
    begun_reply (begin_one c.args.mark) c.args.subs c.args.items c.from_vec-findings.result c.args.started c.new.result c.request_reply.new.state c.in_ok-sendings.sendings c.in_ok-sendings-2.sendings
    (c.from_vec-findings.ensures ∙ c.into_vec.ensures.items) c.new.ensures c.in_ok-sendings.ensures.sendings c.in_ok-sendings.ensures.state c.in_ok-sendings-2.ensures
