use Rattle.std.proofs.Common.{refl}
use Rattle.std.specs.Prelude.{is_some, option_map}
use Rattle.web_frames.specs.Headers.{may_come}
use Rattle.web_frames.specs.Messages.{shown}
use Rattle.web_frames.specs.Reading.{on_judged, reading_of}
use Rattle.web_frames.proofs.LookLemmas.{answers_nothing, on_judged-reply}
use Rattle.web_frames.proofs.frames.Frames.judge.Goals as goal

pub returns-in-Data-clause-answered : goal.returns-in-Data-clause-answered
returns-in-Data-clause-answered g c =
    let b = may_come c.args.self.now.role (is_some (option_map shown c.args.self.now.coming)) c.args.header.now c.args.length in
    answers_nothing (on_judged (reading_of c.args.self.now) c.args.header.now c.args.length b) c.data.result c.args.output.now.items c.args.output.now.items
    (on_judged-reply (reading_of c.args.self.now) c.args.header.now c.args.length b c.in-Data.kind c.in-Data.is) refl
