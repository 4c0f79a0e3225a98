use Rattle.std.proofs.Common.{◌≡◌, w32, to_z, of_z, rules}
use Rattle.std.proofs.lemmas.Int.{to_z-of_z}
use Rattle.capture_text.proofs.faults.put_fault.Goals as goal

pub returns-in-UnknownKind : goal.returns-in-UnknownKind
returns-in-UnknownKind c =
    let k = c.in-UnknownKind.header.kind in
    let t : to_z w32 (of_z w32 k) ≡ k = to_z-of_z w32 k (search rules) in
    rw c.in-UnknownKind.is (rw t at c.put_with-in-UnknownKind.ensures)
