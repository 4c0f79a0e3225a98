use Rattle.std.proofs.Common.{◌≡◌, ◌++◌, length}
use Rattle.std.specs.String.{string_bytes}
use Rattle.std.specs.Str.{IsUtf8}
use Rattle.etp_values.specs.Uri.{doubled}
use Rattle.etp_values.proofs.uri.writing.put_doubled.Given as goal

abbrev pub invariant-loop-piece : goal.invariant-loop-piece
invariant-loop-piece l = record {
  text : IsUtf8 l.rest;
  put : string_bytes l.out ++ doubled l.rest ≡ string_bytes l.fn.out ++ doubled l.path;
}

abbrev pub decreases-loop-piece : goal.decreases-loop-piece
decreases-loop-piece l = length l.rest
