-- What came and went over a link.
use Rattle.std.specs.Prelude.{◌≡◌, ℕ, List, ◌++◌}
use mathlib.Core.List.{IsPrefix}
use Rattle.etp_outside.specs.Talk.{Talk}
use Rattle.etp_outside.specs.declared.link.Item.{Item}
use Rattle.etp_serve.specs.declared.ended.Ended.{Ended}
use Rattle.etp_serve.specs.declared.ended.Ended.TheVariants.{Closed, Refused, IdsSpent, PeerEnd, LinkFault, NoMemory}

-- these items were taken, and these messages sent
pub record Talked (items : List Item) (messages : List (List ℕ)) (a b : Talk) : Type 0 where
  pub coming : a.coming ≡ items ++ b.coming
  pub taken : b.taken ≡ a.taken ++ items
  pub sent : b.sent ≡ a.sent ++ messages
  pub to : b.to ≡ a.to

-- all messages were sent, or some of the first ones if the link failed or memory ran out
abbrev pub IsSent : Ended → List (List ℕ) → List (List ℕ) → Type 0
IsSent Closed all sent = sent ≡ all
IsSent (Refused code) all sent = sent ≡ all
IsSent IdsSpent all sent = sent ≡ all
IsSent PeerEnd all sent = sent ≡ all
IsSent LinkFault all sent = IsPrefix sent all
IsSent NoMemory all sent = IsPrefix sent all
