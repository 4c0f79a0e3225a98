use Rattle.etp_frame.proofs.LoadLemmas.{load_typed}
use Rattle.etp_frame.proofs.reading.read_typed.Goals as goal

pub returns-then-is_load : goal.returns-then-is_load
returns-then-is_load c = λ k typed.
    let is = c.if-is_load.ensures in
    load_typed c.args.header c.args.front c.args.rest.now k c.read_loaded.result is.0 is.1 typed c.read_loaded.ensures
