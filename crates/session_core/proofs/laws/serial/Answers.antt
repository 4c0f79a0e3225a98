use Rattle.session_core.proofs.CommittedLemmas.{committed_is_serial}
use Rattle.session_core.proofs.FittingLemmas.{answers_fit}
use Rattle.session_core.proofs.ReachedLemmas.{run_is_serial}
use Rattle.session_core.proofs.StepLemmas.{answers_are_last}
use Rattle.session_core.proofs.laws.serial.Goals as goal

pub returns : goal.returns
returns c =
    let between = c.state_laws.ensures.between in
    let free = c.conflict_laws.ensures.free in
    let own = c.look_laws.ensures in
    record {
      law = committed_is_serial between free own;
      run = run_is_serial between free own answers_fit answers_are_last;
    }
