use Rattle.std.proofs.Common.{◌≡◌, ◌++◌, ◌∷◌, [], List, true, cond, ap, ◌∙◌}
use Rattle.std.specs.HashSet.{contains}
use Rattle.etp_values.specs.SameUri.{same_uri}
use Rattle.etp_values.specs.declared.uri.StoreUri.{StoreUri}
use Rattle.server_config.specs.declared.config.ChannelDef.{ChannelDef}
use Rattle.chan_defs.proofs.ReadingLemmas.{put_taken}
use Rattle.chan_defs.proofs.channels.Channels.put.Goals as goal

pub invariant_of-self-2 : goal.invariant_of-self-2
invariant_of-self-2 c =
    let step : (q : StoreUri) → contains same_uri c.insert.new.self q ≡ cond (same_uri c.in_ok-uri.uri q) true (contains same_uri c.self.inside.taken q)
    = c.in_ok-insert.ensures.updates.0 in
    let items : c.push_reserved.new.items.items ≡ c.self.inside.items.items ++ c.args.channel ∷ []
    = c.push_reserved.ensures ∙ ap (λ (z : List ChannelDef). z ++ c.args.channel ∷ []) c.in_ok-reserve.ensures.items in
    λ q. rw items (put_taken (contains same_uri c.self.inside.taken) (contains same_uri c.insert.new.self) c.in_ok-uri.uri c.args.channel c.self.inside.items.items
    c.in_ok-uri.ensures step c.self.invariant q)
