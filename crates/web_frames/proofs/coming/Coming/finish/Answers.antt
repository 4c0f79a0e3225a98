use Rattle.std.proofs.Common.{subst, sym}
use Rattle.web_frames.specs.Messages.{HandsOn, handed_on, is_short}
use Rattle.web_frames.proofs.coming.Coming.finish.Goals as goal

pub returns-in-Text : goal.returns-in-Text
returns-in-Text c = subst (λ k. HandsOn (handed_on k (is_short c.args.self.count) c.args.self.bytes.items c.args.self.utf8) c.finish_text.result) (sym c.in-Text.is) (c.finish_text.ensures (is_short c.args.self.count) c.args.self.bytes.items)

pub returns-in-Binary : goal.returns-in-Binary
returns-in-Binary c = subst (λ k. HandsOn (handed_on k (is_short c.args.self.count) c.args.self.bytes.items c.args.self.utf8) c.finish_binary.result) (sym c.in-Binary.is) (c.finish_binary.ensures c.args.self.utf8)
