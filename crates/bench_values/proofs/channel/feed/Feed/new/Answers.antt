use Rattle.bench_values.proofs.channel.feed.Feed.new.Goals as goal

-- every place is new in a new store
pub invariant_of-result : goal.invariant_of-result
invariant_of-result c = λ place _. c.in_ok-store.ensures.places place
