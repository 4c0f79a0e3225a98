use Rattle.std.proofs.Common.{◌≡◌, ◌++◌, ◌∷◌, [], get_or, sym, ap, subst, ◌∙◌, arith, w64, to_z, of_z}
use Rattle.std.specs.Prelude.{pos}
use Rattle.std.proofs.lemmas.Grind.{common_steps}
use Rattle.std.proofs.lemmas.Int.{to_z-of_z}
use Rattle.etp_values.proofs.EachLemmas.{all-push}
use Rattle.channel_store.specs.declared.ready.Ready.{Ready}
use Rattle.channel_store.specs.Sweeps.{AreReady, ids_ready}
use Rattle.channel_store.proofs.RowLemmas.{get_or-any, ids-push, take-next}
use Rattle.channel_store.proofs.ready.ready_channels.Goals as goal

pub loop-channel-preserved : goal.loop-channel-preserved
loop-channel-preserved c =
    let l = c.loop-channel in
    let tracks = c.args.tracks.now in
    let ids = c.args.channels.now in
    let n = l.channel-index in
    let id = get_or ids n (pos 0) in
    let same : to_z w64 (of_z w64 id) ≡ id = grind (arith, common_steps, to_z-of_z) in
    let q : Ready = record { channel = to_z w64 (of_z w64 id); points = c.in_ok-points.points } in
    let new : c.push_reserved.new.self.items ≡ l.readies.items ++ q ∷ [] = c.push_reserved.ensures.items ∙ ap (λ x. x ++ q ∷ []) c.reserve.ensures.items in
    record {
      channels = ap ids_ready new ∙ ids-push l.readies.items q ∙ (λ j. l.invariant.channels j ++ same j ∷ [])
          ∙ sym (take-next ids n id c.loop-channel-test.true (get_or-any ids n (pos 0) id c.loop-channel-test.true));
      ready = subst (AreReady tracks) (sym new) (all-push _ l.readies.items q l.invariant.ready c.in_ok-points.ensures);
    }
