-- What was counted, and what is left, are all.
use Rattle.std.proofs.Common.{◌≡◌, drop}
use Rattle.load_forms.specs.Tally.{plus, tally}
use Rattle.load_forms.proofs.tally.count_answers.Given as goal

abbrev pub invariant-loop-answer : goal.invariant-loop-answer
invariant-loop-answer l = plus l.counted (tally (drop l.answer-index l.answers)) ≡ plus l.fn.before (tally l.answers)
