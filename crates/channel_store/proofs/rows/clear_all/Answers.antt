use Rattle.std.proofs.Common.{◌≡◌, ap, ◌∙◌, arith, length}
use Rattle.std.proofs.lemmas.Grind.{common_steps}
use Rattle.std.proofs.Common.{map}
use Rattle.channel_store.specs.Rows.{plain}
use Rattle.channel_store.specs.Sweeps.{shown_of}
use Rattle.channel_store.proofs.RowLemmas.{whole-part}
use Rattle.channel_store.proofs.rows.clear_all.Goals as goal

pub returns : goal.returns
returns c =
    let items = c.args.tracks.now.items in
    let there : c.as_mut_slice.result.now ≡ items = grind (arith, common_steps) in
    let new : c.clear_each.new.tracks ≡ map plain (shown_of items) = c.clear_each.ensures ∙ ap (λ l. map plain (shown_of l)) there in
    let size : c.args.tracks.now.len ≡ length items = grind (arith, common_steps) in
    whole-part c.args.tracks.now.len c.clear_each.new.tracks items new size ∙ new
