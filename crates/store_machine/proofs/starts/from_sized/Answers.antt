use Rattle.std.proofs.Common.{◌≡◌, ◌∙◌, ap, sym, Ok, w64}
use Rattle.std.proofs.lemmas.Int.{to_z-of_z}
use Rattle.channel_store.specs.Refusals.{channel_at}
use Rattle.channel_store.specs.Store.{tail_of}
use Rattle.store_machine.specs.declared.call.StartReply.TheVariants.{From}
use Rattle.store_machine.proofs.BeginningLemmas.{room_left, start_fits, start_full}
use Rattle.store_machine.proofs.starts.from_sized.Goals as goal

pub returns-in_default-clause-reply : goal.returns-in_default-clause-reply
returns-in_default-clause-reply c =
    start_full (channel_at c.args.channels.now c.args.channel) c.args.channel c.args.start c.args.size c.args.room.now c.requires.size c.in_default.ensures.left

pub returns-clause-reply : goal.returns-clause-reply
returns-clause-reply c =
    let given : tail_of c.args.channels.now c.args.channel c.args.start ≡ Ok c.in-Ok.points =
    sym (λ j. tail_of c.args.channels.now (to_z-of_z w64 c.args.channel c.ranges.channel j) (to_z-of_z w64 c.args.start c.ranges.start j)) ∙ c.in-Ok.ensures in
    ap (λ i. From i c.in-Ok.points) (to_z-of_z w64 c.args.start c.ranges.start)
    ∙ start_fits (channel_at c.args.channels.now c.args.channel) c.args.channel c.args.start c.args.size c.args.room.now c.in-Some.left c.in-Ok.points c.requires.size c.in-Some.ensures.left given

pub returns-clause-room : goal.returns-clause-room
returns-clause-room c =
    let given : tail_of c.args.channels.now c.args.channel c.args.start ≡ Ok c.in-Ok.points =
    sym (λ j. tail_of c.args.channels.now (to_z-of_z w64 c.args.channel c.ranges.channel j) (to_z-of_z w64 c.args.start c.ranges.start j)) ∙ c.in-Ok.ensures in
    room_left (channel_at c.args.channels.now c.args.channel) c.args.channel c.args.start c.args.size c.args.room.now c.in-Some.left c.in-Ok.points c.requires.size c.in-Some.ensures.left given
