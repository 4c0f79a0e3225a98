use Rattle.std.proofs.Common.{◌≡◌, option_map, false, length}
use Rattle.std.specs.String.{string_bytes}
use Rattle.std.specs.Str.{IsUtf8}
use Rattle.etp_values.specs.Uri.{unquoted}
use Rattle.etp_values.proofs.UriPartLemmas.{behind_piece}
use Rattle.etp_values.proofs.uri.reading.read_quoted.Given as goal

abbrev pub invariant-loop-piece : goal.invariant-loop-piece
invariant-loop-piece l = record {
  text : IsUtf8 l.rest;
  said : option_map (behind_piece (string_bytes l.path)) (unquoted false l.rest) ≡ unquoted false l.text;
}

abbrev pub decreases-loop-piece : goal.decreases-loop-piece
decreases-loop-piece l = length l.rest
