use Rattle.std.proofs.Common.{arith}
use Rattle.web_frames.proofs.BufferLemmas.{window-drop}
use Rattle.web_frames.proofs.buffer.Input.take.Goals as goal

pub returns-then-count-self : goal.returns-then-count-self
returns-then-count-self c = window-drop c.args.self.now.bytes.items c.args.self.now.start c.args.count c.args.self.now.end (omega arith)
