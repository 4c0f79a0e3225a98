use Rattle.std.proofs.Common.{drop}
use Rattle.channel_store.proofs.TableLemmas.{PutUpTo}
use Rattle.channel_store.proofs.tracks.ids_by_uri.Given as goal

abbrev pub invariant-loop-place : goal.invariant-loop-place
invariant-loop-place l = PutUpTo l.ids.entries l.place (drop l.place l.defs) l.defs
