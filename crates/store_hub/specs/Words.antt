-- What the turn's book learns of a store.
use Rattle.std.specs.Prelude.{ℕ, Bool}
use Rattle.server_config.specs.declared.config.Config.{Config}
use Rattle.store_machine.specs.declared.journal.Entry.{Entry}
use Rattle.store_machine.specs.Laws.{is_enter}
use Rattle.turn_book.specs.declared.view.View.{View}

-- what a pass knows
abbrev pub Known : Type 0
Known = View Entry Config

-- whose entry it is
abbrev pub by_of : Entry → ℕ
by_of e = e.by

-- whether the entry lets a session in
abbrev pub enters_of : Entry → Bool
enters_of e = is_enter e.act
