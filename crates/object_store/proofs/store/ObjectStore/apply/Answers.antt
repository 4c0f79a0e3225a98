use Rattle.std.proofs.Common.{◌∙◌}
use Rattle.object_store.proofs.store.ObjectStore.apply.Goals as goal

pub returns-clause-each : goal.returns-clause-each
returns-clause-each c = record {
  spaces = λ path. c.apply_each.ensures.each.spaces path ∙ c.take_out-left.ensures.each.spaces path;
  objects = λ uri. c.apply_each.ensures.each.objects uri ∙ c.take_out-left.ensures.each.objects uri;
}
