use Rattle.std.proofs.Common.{◌≡◌, ◌∙◌, ap, arith, length, map}
use Rattle.std.proofs.lemmas.Grind.{common_steps}
use Rattle.std.proofs.lemmas.Result.{on_ok_weaker}
use Rattle.client_core.specs.Notices.{followed}
use Rattle.client_core.proofs.ChannelLemmas.{whole_part}
use Rattle.client_core.proofs.channels.follow.Goals as goal

pub returns : goal.returns
returns c =
    let f = followed c.args.change.now in
    let items = c.args.channels.now.items in
    let there : c.as_mut_slice.result.now ≡ items = grind (arith, common_steps) in
    let size : c.args.channels.now.len ≡ length items = grind (arith, common_steps) in
    on_ok_weaker c.follow_each.result (λ (is : c.follow_each.new.channels ≡ map f c.as_mut_slice.result.now). whole_part f c.args.channels.now.len c.follow_each.new.channels items (is ∙ ap (map f) there) size) c.follow_each.ensures
