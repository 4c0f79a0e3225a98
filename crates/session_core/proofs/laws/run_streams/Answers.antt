use Rattle.session_core.proofs.FrontLemmas.{front_is_streamed}
use Rattle.session_core.proofs.StreamingLemmas.{run_is_streamed, run_is_told_at_idle}
use Rattle.session_core.proofs.laws.run_streams.Goals as goal

pub returns-clause-streams : goal.returns-clause-streams
returns-clause-streams c = run_is_streamed c.news_laws.ensures.bound c.news_laws.ensures.segment c.news_laws.ensures.each

pub returns-clause-idle : goal.returns-clause-idle
returns-clause-idle c = run_is_told_at_idle c.news_laws.ensures.bound c.news_laws.ensures.segment c.news_laws.ensures.each

pub returns-clause-fronts : goal.returns-clause-fronts
returns-clause-fronts c = front_is_streamed c.news_laws.ensures.bound c.news_laws.ensures.segment c.news_laws.ensures.each
