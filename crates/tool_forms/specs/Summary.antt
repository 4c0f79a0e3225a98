-- What playing a load comes to.
use Rattle.std.specs.Prelude.{ℕ, List, length}
use Rattle.generator.specs.Channels.{generator_config}
use Rattle.generator.specs.Generator.{frames}
use Rattle.load_forms.specs.Tally.{tally}
use Rattle.load_forms.specs.Summary.{summary_lines}
use Rattle.tool_forms.specs.Play.{play}

-- the five lines of a load of this many messages, played under its configuration
unfoldable pub summary : ℕ → List ℕ
summary size = let p = play generator_config (frames size) in summary_lines size (length p.world.journal) (tally p.answers)
