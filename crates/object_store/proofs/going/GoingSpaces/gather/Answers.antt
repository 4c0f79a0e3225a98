use Rattle.std.proofs.Common.{rules}
use Rattle.object_store.proofs.GatheredLemmas.{gathering-first}
use Rattle.object_store.proofs.going.GoingSpaces.gather.Goals as goal

pub loop-n-init : goal.loop-n-init
loop-n-init c = record {
  each = gathering-first c.clear.new.self c.from-queue.result.items c.args.ops c.len-n.result c.clear.ensures.none (search rules) (search rules);
  some = search rules;
  len = search rules;
  used = search rules;
}
