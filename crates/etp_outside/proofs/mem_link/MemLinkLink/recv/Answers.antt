use Rattle.std.proofs.Common.{◌≡◌, ◌+◌, List, Some, subst}
use Rattle.std.specs.List.{slice_get}
use Rattle.etp_outside.specs.Line.{Line}
use Rattle.etp_outside.specs.Talk.{Takes}
use Rattle.etp_outside.specs.declared.link.Item.{Item}
use Rattle.etp_outside.specs.declared.link.Item.TheVariants.{Message, Idle}
use Rattle.etp_outside.proofs.LinkLemmas.{talk_at, takes_item}
use Rattle.etp_outside.proofs.mem_link.MemLinkLink.recv.Goals as goal

pub returns-in-Got-clause-talk : goal.returns-in-Got-clause-talk
returns-in-Got-clause-talk c =
    let l = c.self.inside in
    let item : Item = Message c.in-Got.bytes in
    let here : slice_get l.items l.at ≡ Some item = subst (λ (xs : List Item). slice_get xs l.at ≡ Some item) c.as_slice.ensures c.in-Got.ensures in
    subst (λ (x : Line). Takes item x.talk (talk_at l.items (l.at + 1) l.sent.items l.to)) c.self.view_is (takes_item l.items l.at l.sent.items l.to item here)

pub returns-in-Idle-clause-talk : goal.returns-in-Idle-clause-talk
returns-in-Idle-clause-talk c =
    let l = c.self.inside in
    let here : slice_get l.items l.at ≡ Some Idle = subst (λ (xs : List Item). slice_get xs l.at ≡ Some Idle) c.as_slice.ensures c.in-Idle.ensures in
    subst (λ (x : Line). Takes Idle x.talk (talk_at l.items (l.at + 1) l.sent.items l.to)) c.self.view_is (takes_item l.items l.at l.sent.items l.to Idle here)
