use Rattle.std.proofs.Common.{ap, ◌∙◌}
use Rattle.channel_store.specs.Store.{id_of}
use Rattle.channel_store.proofs.store.ChannelStore.channel_of.Goals as goal

pub returns : goal.returns
returns c = c.id_in.ensures ∙ c.self.invariant.finds c.args.uri.now ∙ ap (id_of c.args.uri.now) c.self.view_is
