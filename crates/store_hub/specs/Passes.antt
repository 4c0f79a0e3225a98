-- What a clause reads of a hub and of a pass.
use Rattle.std.specs.Prelude.{◌≡◌, [], ◌∷◌}
use Rattle.server_config.specs.declared.config.Config.{Config}
use Rattle.turn_book.specs.Words.{view, fixed_of, IsSeatOf}
use Rattle.store_hub.specs.declared.hub.Hub.{Hub}
use Rattle.store_hub.specs.declared.pass.Pass.{Pass}
use Rattle.store_hub.specs.Words.{Known}

-- what the pass knows
abbrev pub known : Pass → Known
known p = view p.seat

-- the configuration of the hub's store
abbrev pub config_of : Hub → Config
config_of h = fixed_of (λ b. b.store.config) h.book

-- the pass came from this hub
abbrev pub IsPassOf : Hub → Pass → Type 0
IsPassOf h p = IsSeatOf (λ b. b.store.config) h.book p.seat

-- the session was let in, and was answered nothing since
abbrev pub IsFresh : Pass → Type 0
IsFresh p = ((known p).places ≡ p.number ∷ []) × ((known p).heard ≡ [])
