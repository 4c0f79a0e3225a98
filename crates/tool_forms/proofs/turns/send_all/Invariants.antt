use Rattle.std.proofs.Common.{◌≡◌, ◌++◌, length}
use Rattle.session_core.specs.Run.{drained}
use Rattle.tool_forms.specs.Turns.{messages}
use Rattle.tool_forms.proofs.turns.send_all.Given as goal

-- what was sent and what is left
abbrev pub invariant-loop-message : goal.invariant-loop-message
invariant-loop-message l = record {
  answers : l.answers.items ++ messages l.frame l.session.out ≡ l.fn.answers.items ++ messages l.frame l.fn.session.out;
  state : drained l.session ≡ drained l.fn.session;
}

abbrev pub decreases-loop-message : goal.decreases-loop-message
decreases-loop-message l = length l.session.out
