use Rattle.etp_frame.proofs.LoadLemmas.{load_gives, load_refused, load_within}
use Rattle.etp_frame.proofs.reading.read_loaded.Goals as goal

pub body_error-requires : goal.body_error-requires
body_error-requires c = load_within c.args.rest.now c.in-Err.refusal c.args.front c.in-Err.ensures.reads c.requires

pub returns-in-Err : goal.returns-in-Err
returns-in-Err c = load_refused c.args.header c.args.front c.args.rest.now c.in-Err.refusal c.body_error.result c.in-Err.ensures.reads c.body_error.ensures

pub returns-in-Ok-load_message : goal.returns-in-Ok-load_message
returns-in-Ok-load_message c =
    let r = c.in-Ok.read in
    load_gives c.args.header c.args.front c.args.rest.now r.0 r.1 c.in-Ok-load_message.message c.ended.result c.in-Ok.ensures.reads c.in-Ok-load_message.ensures c.ended.ensures
