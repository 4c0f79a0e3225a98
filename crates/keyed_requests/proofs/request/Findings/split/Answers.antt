use Rattle.keyed_requests.proofs.SplitLemmas.{split-front, split-rest}
use Rattle.keyed_requests.proofs.request.Findings.split.Goals as goal

pub loop-i-preserved : goal.loop-i-preserved
loop-i-preserved g c = record {
  front = split-front c.in-Some.item _ _ _ _ _ _ _ c.loop-i-test.true c.in-Some.ensures.items c.in_ok-push-in-Some.ensures.items c.loop-i.invariant.front;
  rest = split-rest c.in-Some.item _ _ _ _ _ _ _ c.loop-i-test.true c.in-Some.ensures.items c.in_ok-push-in-Some.ensures.items c.loop-i.invariant.rest;
}
