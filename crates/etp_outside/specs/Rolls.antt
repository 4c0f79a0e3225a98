-- Lists that only proofs can read.
use Rattle.std.specs.Prelude.{List, [], ◌∷◌, ◌++◌}
use Rattle.etp_outside.specs.Line.{Line}
use Rattle.etp_outside.specs.declared.roll.Added.{Added}
use Rattle.etp_outside.specs.declared.roll.Added.TheVariants.{Nothing, Link}

-- the links in the order in which they were added
abbrev pub links_of : Added → List Line
links_of Nothing = []
links_of (Link before last) = before.value ++ last.value ∷ []
