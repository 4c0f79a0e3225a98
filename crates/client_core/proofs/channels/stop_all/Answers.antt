use Rattle.std.proofs.Common.{◌≡◌, ◌∙◌, ap, arith, length, map}
use Rattle.std.proofs.lemmas.Grind.{common_steps}
use Rattle.std.specs.Map.{values_of}
use Rattle.client_core.specs.Notices.{stop}
use Rattle.client_core.proofs.ChannelLemmas.{whole_part}
use Rattle.client_core.proofs.channels.stop_all.Goals as goal

pub returns : goal.returns
returns c =
    let f = stop (values_of c.args.named.now) in
    let items = c.args.channels.now.items in
    let there : c.as_mut_slice.result.now ≡ items = grind (arith, common_steps) in
    let new : c.stop_each.new.channels ≡ map f items = c.stop_each.ensures ∙ ap (map f) there in
    let size : c.args.channels.now.len ≡ length items = grind (arith, common_steps) in
    whole_part f c.args.channels.now.len c.stop_each.new.channels items new size
