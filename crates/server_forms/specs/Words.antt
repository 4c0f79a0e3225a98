-- The words of the command line.
use Rattle.std.specs.Prelude.{ℕ, List, [], ◌∷◌, Option, None, Some}
use Rattle.command_words.specs.Counts.{count_in}
use Rattle.command_words.specs.Words.{plain_words}

-- what the server is asked to do: to serve with the configuration of a name, at an address, and this many links, if their number is limited
pub record Command : Type 0 where
  pub config : List ℕ
  pub address : List ℕ
  pub sessions : Option ℕ

abbrev pub limited : List ℕ → List ℕ → Option ℕ → Option Command
limited config address None = None
limited config address (Some n) = Some (record { config = config; address = address; sessions = Some n })

-- the command of words without options, if they are well formed
abbrev pub command_of : List (List ℕ) → Option Command
command_of (config ∷ address ∷ []) = Some (record { config = config; address = address; sessions = None })
command_of (config ∷ address ∷ sessions ∷ []) = limited config address (count_in 1 sessions)
command_of words = None

abbrev pub command_in_plain : Option (List (List ℕ)) → Option Command
command_in_plain None = None
command_in_plain (Some words) = command_of words

-- the command of words, if they are well formed
abbrev pub command_in : List (List ℕ) → Option Command
command_in words = command_in_plain (plain_words words)
