-- The words of the command line.
use Rattle.std.specs.Prelude.{ℕ, List, [], ◌∷◌, if◌then◌else◌, Option, None, Some, option_map, codes}
use Rattle.std.specs.Str.{bytes_eq}
use Rattle.command_words.specs.Words.{plain_words}
use Rattle.command_words.specs.Counts.{count_in}

-- what the tool is asked to do: to replay with the configuration of a name, to show, to check, to write the capture of a load of this many
-- messages, or to play it
pub data Command : Type 0 where
  Replay : (name : List ℕ) → Command
  Show : Command
  Check : Command
  Capture : (size : ℕ) → Command
  Generate : (size : ℕ) → Command

-- the command of two words
abbrev pub command_with : List ℕ → List ℕ → Option Command
command_with command word =
    if bytes_eq command (codes "replay") then Some (Replay word)
    else if bytes_eq command (codes "capture") then option_map Capture (count_in 24 word)
    else if bytes_eq command (codes "generate") then option_map Generate (count_in 24 word)
    else None

-- the command of words without options, if they are well formed
abbrev pub command_of : List (List ℕ) → Option Command
command_of (command ∷ []) = if bytes_eq command (codes "show") then Some Show else if bytes_eq command (codes "check") then Some Check else None
command_of (command ∷ word ∷ []) = command_with command word
command_of words = None

abbrev pub command_in_plain : Option (List (List ℕ)) → Option Command
command_in_plain None = None
command_in_plain (Some words) = command_of words

-- the command of words, if they are well formed
abbrev pub command_in : List (List ℕ) → Option Command
command_in words = command_in_plain (plain_words words)
