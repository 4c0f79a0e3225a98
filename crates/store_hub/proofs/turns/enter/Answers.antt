use Rattle.std.proofs.Common.{◌≡◌, false, List, Err, ap, subst}
use Rattle.server_config.specs.declared.config.Config.{Config}
use Rattle.store_machine.specs.declared.journal.Act.TheVariants.{Enter}
use Rattle.store_machine.specs.declared.journal.Entry.{Entry}
use Rattle.store_machine.specs.Answers.{has_room_for}
use Rattle.turn_book.specs.Words.{view}
use Rattle.store_hub.specs.declared.error.EnterError.TheVariants.{JournalFull}
use Rattle.store_hub.specs.Words.{Known}
use Rattle.store_hub.specs.Notes.{Meets}
use Rattle.store_hub.proofs.EnteredLemmas.{kept_entered, sees_more}
use Rattle.store_hub.proofs.turns.enter.Goals as goal

pub returns-in-Ok-clause-new : goal.returns-in-Ok-clause-new
returns-in-Ok-clause-new g c =
    let inside = c.take-inside.result.store in (
      c.let_in.ensures.own,
      kept_entered inside.config _ (view c.args.seat.now) (view c.split-fresh.result) (view c.take-inside.new.seat) (view c.let_in.new.seat) inside.journal c.in-Ok.number
          c.split-fresh.ensures.new c.take-inside.ensures.view c.in-Ok.ensures.ok c.in-Ok.ensures.view,
    )

pub returns-in-Err-clause-lack : goal.returns-in-Err-clause-lack
returns-in-Err-clause-lack g c = λ is.
    let log : List Entry = c.take-inside.result.store.journal in
    let met : Meets (view c.args.seat.now) (view c.let_in.new.seat) (view c.meet.new.seat) = subst (λ (v : Known). Meets v (view c.let_in.new.seat) (view c.meet.new.seat)) c.split-fresh.ensures.view c.meet.ensures.met in (
      log,
      sees_more (view c.args.seat.now) (view c.split-fresh.result) (view c.take-inside.new.seat) (view c.let_in.new.seat) (view c.meet.new.seat) log
          c.split-fresh.ensures.new c.take-inside.ensures.view c.let_in.ensures.before c.in-Err.ensures.err met,
    )

pub returns-in-Err-clause-full : goal.returns-in-Err-clause-full
returns-in-Err-clause-full g c = λ is.
    let same : c.in-Err.error ≡ JournalFull = cc (is) in
    let log : List Entry = c.take-inside.result.store.journal in
    let met : Meets (view c.args.seat.now) (view c.let_in.new.seat) (view c.meet.new.seat) = subst (λ (v : Known). Meets v (view c.let_in.new.seat) (view c.meet.new.seat)) c.split-fresh.ensures.view c.meet.ensures.met in (
      log,
      sees_more (view c.args.seat.now) (view c.split-fresh.result) (view c.take-inside.new.seat) (view c.let_in.new.seat) (view c.meet.new.seat) log
          c.split-fresh.ensures.new c.take-inside.ensures.view c.let_in.ensures.before c.in-Err.ensures.err met,
      subst (λ (config : Config). has_room_for config log Enter ≡ false) c.take-inside.ensures.fixed (c.in-Err.ensures.full (ap Err same)),
    )
