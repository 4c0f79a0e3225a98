use Rattle.std.proofs.Common.{sym, subst, ◌∙◌}
use Rattle.channel_store.specs.Refusals.{points_of}
use Rattle.channel_store.specs.Sweeps.{Tells, row_at}
use Rattle.channel_store.proofs.given.hand_out.Goals as goal

pub gather-requires : goal.gather-requires
gather-requires c = λ id. subst (λ l. Tells (row_at l id) (points_of id c.args.items.now)) (sym (c.as_slice.ensures.value ∙ c.in_ok-seal_items.ensures.ok)) (c.requires id)
