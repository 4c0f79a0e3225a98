-- A listener in memory took back no more links than it gave out.
use Rattle.std.proofs.Common.{◌≤◌, length, arith}
use Rattle.std.proofs.lemmas.List.{length-map}
use Rattle.etp_outside.specs.Porch.{Porch}
use Rattle.etp_outside.specs.MemDoors.{all_back, given_by, told_back}

pub few_back : (d : Porch) → length (all_back d.back) ≤ given_by d
few_back d = omega (arith, length-map d.back told_back)
