-- How a legal history grows.
use Rattle.std.specs.Prelude.{ℕ, ℤ, List, ◌++◌}
use Rattle.server_config.specs.declared.config.Config.{Config}
use Rattle.store_machine.specs.declared.call.StoreCall.{StoreCall}
use Rattle.store_machine.specs.declared.journal.Entry.{Entry}
use Rattle.store_machine.specs.Answers.{entries_of}
use Rattle.store_machine.specs.Legal.{Legal, MayAsk}

-- with the entry of a call by someone who may make it, a legal history stays legal
abbrev pub CallsKeepLegal : Type 0
CallsKeepLegal = (config : Config) (history : List Entry) (by nth : ℕ) (at : ℤ) (c : StoreCall)
    → Legal config history → MayAsk history by nth c → Legal config (history ++ entries_of config history by nth at c)
