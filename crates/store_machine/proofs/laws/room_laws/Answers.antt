use Rattle.store_machine.proofs.RoomLemmas.{full-stays}
use Rattle.store_machine.proofs.laws.room_laws.Goals as goal

pub returns : goal.returns
returns c = record { full = full-stays }
