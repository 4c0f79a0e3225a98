use Rattle.both_ends.proofs.HearLemmas as hearing
use Rattle.both_ends.proofs.NewsLemmas as news
use Rattle.both_ends.proofs.laws.news_are_handed_on.Goals as goal

pub returns-clause-handed : goal.returns-clause-handed
returns-clause-handed c = news.news_are_handed_on c.notices_are_changes.ensures.messages

pub returns-clause-heard : goal.returns-clause-heard
returns-clause-heard c = hearing.news_are_heard
