use Rattle.std.proofs.Common.{◌≡◌, ◌+◌, List, [], ◌∷◌, ◌++◌, ap₂, sym, ◌∙◌, arith}
use Rattle.std.proofs.lemmas.List.FromFn.{map-range_with_len_more}
use Rattle.server_config.specs.declared.config.ChannelDef.{ChannelDef}
use Rattle.generator.specs.Channels.{channel}
use Rattle.generator.proofs.channels.channels.Goals as goal

pub loop-number-preserved : goal.loop-number-preserved
loop-number-preserved c =
    let n = c.loop-number.number in
    let next : 0 + n ≡ n = omega arith in
    c.in_ok-push.ensures.items
    ∙ ap₂ (λ (xs : List ChannelDef) (x : ChannelDef). xs ++ x ∷ []) c.loop-number.invariant c.in_ok-one.ensures
    ∙ sym (map-range_with_len_more channel 0 n n next)
