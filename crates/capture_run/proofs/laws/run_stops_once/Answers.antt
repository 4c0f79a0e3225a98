use Rattle.capture_run.proofs.OnceLemmas.{stops_once}
use Rattle.capture_run.proofs.laws.run_stops_once.Goals as goal

pub returns : goal.returns
returns c = stops_once
