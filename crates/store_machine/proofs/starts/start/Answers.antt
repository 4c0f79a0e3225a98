use Rattle.std.proofs.Common.{◌≡◌, ◌∙◌, sym, ap, subst, IfOk, is_some, true, false, rules, FitsSigned, w64, to_z, of_z}
use Rattle.std.proofs.lemmas.Int.{to_z-of_z}
use Rattle.channel_store.specs.Refusals.{channel_at, points_at}
use Rattle.store_machine.specs.Starts.{begun, start_of}
use Rattle.store_machine.proofs.BeginningLemmas.{begun_nowhere, begun_there, begun_wrong, ended_at}
use Rattle.store_machine.proofs.starts.start.Goals as goal

pub returns-then-not-has-clause-reply : goal.returns-then-not-has-clause-reply
returns-then-not-has-clause-reply c =
    let cs = c.args.channels.now in
    let a = c.args.ask.now in
    let fits : FitsSigned w64 a.channel = search rules in
    let none : is_some (channel_at cs a.channel) ≡ false = sym (ap (λ i. is_some (channel_at cs i)) (to_z-of_z w64 a.channel fits)) ∙ sym c.has.ensures ∙ c.if-not-has.true in
    begun_nowhere (channel_at cs a.channel) c.args.room.now a.start none

pub returns-then-not-is_start-clause-reply : goal.returns-then-not-is_start-clause-reply
returns-then-not-is_start-clause-reply c =
    let cs = c.args.channels.now in
    let a = c.args.ask.now in
    let fits : FitsSigned w64 a.channel = search rules in
    let there : is_some (channel_at cs a.channel) ≡ true = sym (ap (λ i. is_some (channel_at cs i)) (to_z-of_z w64 a.channel fits)) ∙ sym c.has.ensures ∙ c.if-not-has.false in
    begun_wrong (channel_at cs a.channel) c.args.room.now a.start there (sym c.is_start.ensures ∙ c.if-not-is_start.true)

pub start_of-start-requires : goal.start_of-start-requires
start_of-start-requires c = ended_at c.args.channels.now _ c.requires.ends

pub returns-clause-reply : goal.returns-clause-reply
returns-clause-reply c =
    let cs = c.args.channels.now in
    let a = c.args.ask.now in
    let fits : FitsSigned w64 a.channel = search rules in
    let id : to_z w64 (of_z w64 a.channel) ≡ a.channel = to_z-of_z w64 a.channel fits in
    let there : is_some (channel_at cs (to_z w64 (of_z w64 a.channel))) ≡ true = sym c.has.ensures ∙ c.if-not-has.false in
    let index_fits : FitsSigned w64 c.start_of-start.result = search rules in
    let at : to_z w64 (of_z w64 c.start_of-start.result) ≡ start_of (points_at cs (to_z w64 (of_z w64 a.channel))) a.start = to_z-of_z w64 c.start_of-start.result index_fits ∙ c.start_of-start.ensures in
    let same = begun_there (channel_at cs (to_z w64 (of_z w64 a.channel))) c.args.room.now a.start (to_z w64 (of_z w64 c.start_of-start.result)) there (sym c.is_start.ensures ∙ c.if-not-is_start.false) at
    ∙ ap (λ i. begun (channel_at cs i) c.args.room.now a.start) id in
    subst (λ X. X) (λ j. IfOk c.from_start.result (λ r. r ≡ same j)) c.from_start.ensures.reply
