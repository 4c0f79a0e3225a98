-- The command by which the words are read, as `clap` describes commands.
use Rattle.std.specs.Prelude.{List, [], ◌∷◌, true, Some, codes, unwrap_or}
use Rattle.clap.specs.Lexer.{usize_max}
use Rattle.clap.specs.Simple.{App, new_rule, new_shape}
use Rattle.clap.specs.Walk.{Row, Rule, Text, all_of}

-- the one argument, which takes any number of words
abbrev pub word_rule : Rule
word_rule = record (new_rule (codes "word")) { range = Some (record { start_inclusive = 0; end_inclusive = usize_max }) }

-- the command that has it alone, with no flag and no subcommand
abbrev pub word_app : App
word_app = record {
  top = record (new_shape (codes "words")) { no_binary_name = true; disable_help_flag = true; rules = word_rule ∷ [] };
  subs = [];
}

-- the values that were found for the argument
abbrev pub word_values : List Row → List Text
word_values rows = unwrap_or (all_of (codes "word") rows) []
