use Rattle.session_core.proofs.RunLemmas.{run_is_same, play_is_run, run_goes_on}
use Rattle.session_core.proofs.laws.runs.Goals as goal

pub returns : goal.returns
returns c = record { same = run_is_same; play = play_is_run; next = run_goes_on }
