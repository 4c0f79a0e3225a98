-- What a link reveals.
use Rattle.std.specs.Prelude.{◌≡◌, ℕ, Bool, true, false, List, [], ◌∷◌, ◌++◌}
use Rattle.std.specs.declared.option.Option.{Option}
use Rattle.etp_outside.specs.declared.link.Address.{Address}
use Rattle.etp_outside.specs.declared.link.Item.{Item}
use Rattle.etp_outside.specs.declared.link.Item.TheVariants.{Message, Idle}
use Rattle.etp_outside.specs.declared.link.Recv.{Recv}
use Rattle.etp_outside.specs.declared.link.Recv.TheVariants.{Got, Idle as NoneYet, End, Failed, NoMemory}
use Rattle.etp_outside.specs.declared.link.Sent.{Sent}
use Rattle.etp_outside.specs.declared.link.Sent.TheVariants.{Done, Failed as SendFailed, NoMemory as NoRoom}

-- what a link reveals of itself
pub record Talk : Type 0 where
  -- the items that are still to come, and those that were taken, in order
  pub coming : List Item
  pub taken : List Item
  -- the messages that were sent whole
  pub sent : List (List ℕ)
  -- the address that it was dialed to; none for a link that was accepted
  pub to : Option Address

-- the first item was taken
pub record Takes (item : Item) (a b : Talk) : Type 0 where
  pub coming : a.coming ≡ item ∷ b.coming
  pub taken : b.taken ≡ a.taken ++ item ∷ []
  pub sent : b.sent ≡ a.sent
  pub to : b.to ≡ a.to

-- what receiving does to it
abbrev pub Received : Recv → Talk → Talk → Type 0
Received (Got bytes) a b = Takes (Message bytes) a b
Received NoneYet a b = Takes Idle a b
Received End a b = b ≡ a
Received Failed a b = b ≡ a
Received NoMemory a b = b ≡ a

-- a message was sent whole
pub record Says (message : List ℕ) (a b : Talk) : Type 0 where
  pub coming : b.coming ≡ a.coming
  pub taken : b.taken ≡ a.taken
  pub sent : b.sent ≡ a.sent ++ message ∷ []
  pub to : b.to ≡ a.to

-- what sending a message does to it
abbrev pub Sends : Sent → List ℕ → Talk → Talk → Type 0
Sends Done message a b = Says message a b
Sends SendFailed message a b = b ≡ a
Sends NoRoom message a b = b ≡ a

-- the peer ended the link
abbrev pub is_end : Recv → Bool
is_end (Got bytes) = false
is_end NoneYet = false
is_end End = true
is_end Failed = false
is_end NoMemory = false
