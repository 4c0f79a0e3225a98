use Rattle.std.proofs.Common.{◌≡◌, ◌-◌, length, sym, ap, ◌∙◌, Some}
use Rattle.std.specs.Prelude.{slice_get}
use Rattle.std.specs.Option.{option_copied}
use Rattle.channel_points.proofs.ChunkLemmas.{last_size-get, size_in}
use Rattle.channel_points.proofs.blocks.last_size.Goals as goal

pub returns-in-Some : goal.returns-in-Some
returns-in-Some c =
    let cs = c.args.blocks.now in
    let there : slice_get cs (length cs - 1) ≡ Some c.in-Some.block.now = sym c.last.ensures.value ∙ ap option_copied c.in-Some.is in
    c.len.ensures ∙ sym (ap size_in there) ∙ sym (last_size-get cs)
