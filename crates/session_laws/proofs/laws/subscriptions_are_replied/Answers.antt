use Rattle.session_laws.proofs.GrantingLemmas.{subscriptions_replied}
use Rattle.session_laws.proofs.laws.subscriptions_are_replied.Goals as goal

pub returns : goal.returns
returns c = subscriptions_replied c.news_laws.ensures.bound c.news_laws.ensures.segment c.news_laws.ensures.each
