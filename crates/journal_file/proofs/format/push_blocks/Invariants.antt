use Rattle.std.proofs.Common.{◌≡◌, ◌++◌, take}
use Rattle.journal_file.specs.Layout.{blocks}
use Rattle.journal_file.proofs.format.push_blocks.Given as goal

-- the blocks so far
abbrev pub invariant-loop-spelling : goal.invariant-loop-spelling
invariant-loop-spelling l = l.into.items ≡ l.fn.into.items ++ blocks (take l.spelling-index l.spellings)
