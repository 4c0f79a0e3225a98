use Rattle.keyed_requests.proofs.OnceLemmas.{answers_each}
use Rattle.keyed_requests.proofs.laws.each_key_once.Goals as goal

pub returns : goal.returns
returns g c = answers_each (g.R.KeyedRequest.check c.args.request.now) (g.R.KeyedRequest.keep c.args.request.now) (g.A.KeyedReply.finish c.args.reply.now) g.A.KeyedReply.width c.args.checking.now c.args.finishing.now c.args.items.now c.args.findings.now
