use Rattle.std.proofs.Common.{◌≤◌, drop, length}
use Rattle.etp_frame.proofs.PlaceLemmas.{Places}
use Rattle.etp_frame.proofs.awaiting.blob_places.Given as goal

abbrev pub decreases-loop-place : goal.decreases-loop-place
decreases-loop-place l = l.place

abbrev pub invariant-loop-place : goal.invariant-loop-place
invariant-loop-place l = record {
  within : l.place ≤ length l.objects;
  places : Places l.place l.places.entries (drop l.place l.objects);
}
