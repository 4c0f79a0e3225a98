use Rattle.std.proofs.Common.{◌∙◌}
use Rattle.std.proofs.lemmas.Int.{to_z-of_z}
use Rattle.std.proofs.Common.{w64}
use Rattle.channel_store.specs.Refusals.{channel_at}
use Rattle.channel_store.specs.Store.{tail_of}
use Rattle.channel_store.specs.Told.{sized_within}
use Rattle.store_machine.proofs.BeginningLemmas.{tail_there}
use Rattle.store_machine.proofs.starts.from_start.Goals as goal

pub returns-in-Err-clause-reply : goal.returns-in-Err-clause-reply
returns-in-Err-clause-reply c =
    absurd (tail_there (channel_at c.args.channels.now c.args.channel) c.args.channel c.args.start c.args.room.now.points _ c.requires.there
    (c.in-Err.ensures ∙ (λ j. sized_within (c.points.ensures j) (tail_of c.args.channels.now (to_z-of_z w64 c.args.channel c.ranges.channel j) (to_z-of_z w64 c.args.start c.ranges.start j)))))
