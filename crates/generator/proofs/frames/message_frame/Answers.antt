use Rattle.generator.proofs.StepLemmas.{framed}
use Rattle.generator.proofs.frames.message_frame.Goals as goal

pub returns : goal.returns
returns c = framed c.args.number c.args.place c.in_ok-message.message c.frame_of-frame.result c.in_ok-message.ensures c.frame_of-frame.ensures
