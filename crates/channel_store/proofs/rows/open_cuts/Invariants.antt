use Rattle.std.proofs.Common.{◌≡◌, drop, length}
use Rattle.std.specs.Prelude.{zip}
use Rattle.channel_store.specs.Sweeps.{shown_of, steps, open_cut}
use Rattle.channel_store.proofs.rows.open_cuts.Given as goal

abbrev pub invariant-loop-place : goal.invariant-loop-place
invariant-loop-place l = record {
  answer : steps open_cut l.tracks.items (drop l.place (zip l.channels l.ends)) ≡ steps open_cut l.fn.tracks.items (zip l.channels l.ends);
  kept : shown_of l.tracks.items ≡ shown_of l.fn.tracks.items;
  same : length l.channels ≡ length l.ends;
}
