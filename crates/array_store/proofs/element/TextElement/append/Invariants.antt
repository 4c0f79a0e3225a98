use Rattle.std.proofs.Common.{◌≡◌, ◌++◌, take}
use Rattle.array_store.proofs.element.TextElement.append.Given as goal

abbrev pub invariant-loop-text : goal.invariant-loop-text
invariant-loop-text l = l.out.items ≡ l.fn.out.items ++ take l.text-index l.run
