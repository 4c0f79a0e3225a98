use Rattle.entry_index.proofs.WhereLemmas.{places-go-on, first-is-found}
use Rattle.entry_index.proofs.laws.place_laws.Goals as goal

pub returns : goal.returns
returns g c = record { goes_on = places-go-on; found = first-is-found }
