use Rattle.std.proofs.Common.{◌≡◌, ◌≤◌, take}
use Rattle.etpctl.specs.Progress.{line_feeds}
use Rattle.etpctl.proofs.counted_source.line_feeds.Given as goal

-- the line feeds among the bytes so far
abbrev pub invariant-loop-b : goal.invariant-loop-b
invariant-loop-b l = record {
  counted : l.count ≡ line_feeds (take l.b-index l.bytes);
  within : l.count ≤ l.b-index;
}
