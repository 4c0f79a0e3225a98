use Rattle.std.proofs.Common.{rules, ◌++◌, ◌∙◌, ap}
use Rattle.journal_file.specs.Layout.{block}
use Rattle.journal_file.proofs.LayoutLemmas.{blocks_next}
use Rattle.journal_file.proofs.format.push_blocks.Goals as goal

pub loop-spelling-preserved : goal.loop-spelling-preserved
loop-spelling-preserved c =
    blocks_next c.args.spellings.now c.loop-spelling.spelling-index c.spelling-item.result c.args.into.now.items c.loop-spelling.into.items c.push_block.new.into.items
    (search rules) c.spelling-item.is c.loop-spelling.invariant (c.in_ok-push_block.ensures ∙ ap (λ s. c.loop-spelling.into.items ++ block s) c.as_bytes.ensures)
