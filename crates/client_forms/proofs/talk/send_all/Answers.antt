use Rattle.std.proofs.Common.{arith, sym, ◌∙◌}
use Rattle.client_forms.proofs.SendLemmas.{sending_more}
use Rattle.client_forms.proofs.talk.send_all.Goals as goal

pub loop-message-preserved : goal.loop-message-preserved
loop-message-preserved g c = record {
  sending = sending_more c.args.client.now c.loop-message.client c.next_out.new.self c.in-Some.message (g.L.Link.talk c.args.link.now) (g.L.Link.talk c.loop-message.link) (g.L.Link.talk c.send.new.self) c.loop-message.invariant.sending (sym c.in-Some.ensures.first) c.in-Some.ensures.rest c.in-Done.ensures.talk;
  usable = c.in-Done.ensures.closed ∙ c.loop-message.invariant.usable;
  kept = omega (arith, c.loop-message.invariant.kept, c.in-Done.ensures.kept);
  ended = c.in-Done.ensures.ended ∙ c.loop-message.invariant.ended;
}
