use Rattle.std.proofs.Common.{◌≡◌, ◌∙◌, ◌++◌, false, sym, subst}
use Rattle.std.specs.declared.option.Option.{Option}
use Rattle.tool_forms.specs.Play.{World, effect, is_refused, has_ended, state_of, world_after}
use Rattle.tool_forms.specs.Sound.{FitsTag, IsSound}
use Rattle.tool_forms.specs.declared.tag.TagState.{TagState}
use Rattle.tool_forms.proofs.SoundnessLemmas.{Laws, sound_played, world_played, not_refused}
use Rattle.tool_forms.proofs.player.Player.play.Goals as goal

pub play_at-requires-clause-fresh : goal.play_at-requires-clause-fresh
play_at-requires-clause-fresh c = c.number_laws.ensures.fresh c.self.inside.store.config c.self.inside.store.journal c.entries-entries.ensures.legal

pub play_at-requires-clause-tag : goal.play_at-requires-clause-tag
play_at-requires-clause-tag c =
    let w : World = record { config = c.self.inside.config; journal = c.self.inside.store.journal; tags = c.self.inside.tags.entries } in
    let view : c.args.self.now ≡ w = sym c.self.view_is in
    let sound : IsSound w = subst IsSound view c.requires in
    subst (λ (o : Option TagState). FitsTag c.self.inside.store.journal o) (sym c.in_ok-state.ensures.old) (sound.fits c.args.frame.now.tag)

pub returns-clause-played : goal.returns-clause-played
returns-clause-played c =
    let w : World = record { config = c.self.inside.config; journal = c.self.inside.store.journal; tags = c.self.inside.tags.entries } in
    let after : World = record { config = c.self.inside.config; journal = c.play_at.new.store.journal; tags = c.insert-2.new.self.entries } in
    let f = c.args.frame.now in
    let view : c.args.self.now ≡ w = sym c.self.view_is in
    let played = world_played w f c.in_ok-state.state c.play_at.new.store.journal c.in_ok-state-2.state c.insert.new.self.entries c.insert-2.new.self.entries c.args.answers.now.items c.play_at.new.answers.items
    c.in_ok-state.ensures.old c.in_ok-state-2.ensures.effect c.in_ok-state.ensures.entries c.in_ok-insert.ensures.entries in
    let here : has_ended (state_of f.tag w.tags) ≡ false = sym c.has_ended.ensures ∙ c.if-has_ended.false in
    let passes = not_refused f.kind (has_ended (state_of f.tag w.tags)) c.if-frame-eq-OUT.false c.if-frame-eq-ENDED.false here in
    subst (λ (x : World). (is_refused x f ≡ false) × (after ≡ world_after x f) × (c.play_at.new.answers.items ≡ c.args.answers.now.items ++ (effect x f).answers)) (sym view) (passes, played.0, played.1)

pub returns-clause-sound : goal.returns-clause-sound
returns-clause-sound c =
    let w : World = record { config = c.self.inside.config; journal = c.self.inside.store.journal; tags = c.self.inside.tags.entries } in
    let f = c.args.frame.now in
    let view : c.args.self.now ≡ w = sym c.self.view_is in
    let sound : IsSound w = subst IsSound view c.requires in
    let here : has_ended (state_of f.tag w.tags) ≡ false = sym c.has_ended.ensures ∙ c.if-has_ended.false in
    let numbers = c.number_laws.ensures in
    let fresh = numbers.fresh c.self.inside.store.config c.self.inside.store.journal c.entries-entries.ensures.legal in
    let laws : Laws = record {
      stay = numbers.stay;
      own_entries = numbers.own;
      asks = c.steps.ensures.asks;
    } in
    sound_played laws w f c.in_ok-state.state c.play_at.new.store.journal c.in_ok-state-2.state c.insert.new.self.entries c.insert-2.new.self.entries c.args.answers.now.items c.play_at.new.answers.items
    sound fresh here c.in_ok-state.ensures.old c.in_ok-state-2.ensures.effect c.in_ok-state.ensures.updates.0 c.in_ok-insert.ensures.updates.0
