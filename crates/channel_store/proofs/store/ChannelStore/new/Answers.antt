use Rattle.std.proofs.Common.{◌≡◌, sym, ap, subst, ◌∙◌}
use Rattle.channel_store.specs.Store.{IsNewPlace, id_of}
use Rattle.channel_store.specs.Sweeps.{shown_of}
use Rattle.std.proofs.Common.{map}
use Rattle.channel_store.specs.Channels.{fresh}
use Rattle.channel_store.specs.Sweeps.{IsIdle}
use Rattle.channel_store.proofs.EndedLemmas.{is-idle, shown-plain, new-fresh}
use Rattle.channel_store.proofs.store.ChannelStore.new.Goals as goal

pub invariant_of-result : goal.invariant_of-result
invariant_of-result c =
    let shown : shown_of c.in_ok-tracks.tracks.items ≡ map fresh c.as_slice-defs.result.now = ap shown_of c.in_ok-tracks.ensures ∙ shown-plain (map fresh c.as_slice-defs.result.now) in
    record {
      idle = subst IsIdle (sym c.in_ok-tracks.ensures) (is-idle (map fresh c.as_slice-defs.result.now));
      finds = λ u. c.in_ok-ids.ensures u ∙ ap (id_of u) (sym shown);
    }

pub returns-clause-channels : goal.returns-clause-channels
returns-clause-channels c = ap shown_of c.in_ok-tracks.ensures ∙ shown-plain (map fresh c.as_slice-defs.result.now) ∙ ap (map fresh) (c.as_slice-defs.ensures ∙ c.get.ensures)

pub returns-clause-places : goal.returns-clause-places
returns-clause-places c = λ place. subst (IsNewPlace place) (sym (ap shown_of c.in_ok-tracks.ensures ∙ shown-plain (map fresh c.as_slice-defs.result.now))) (new-fresh place c.as_slice-defs.result.now)
