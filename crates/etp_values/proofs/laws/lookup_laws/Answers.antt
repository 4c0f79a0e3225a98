use Rattle.std.proofs.Common.{ap}
use Rattle.std.specs.Str.{bytes_eq}
use Rattle.std.proofs.lemmas.Slice.Eq.{bytes_eq-Decides}
use Rattle.etp_values.proofs.LookupLemmas.{lookup-filter}
use Rattle.etp_values.proofs.NameLemmas.{found_alike}
use Rattle.etp_values.proofs.laws.lookup_laws.Goals as goal

pub returns : goal.returns
returns c = record {
  alike = found_alike;
  removal = λ goes name es. lookup-filter bytes_eq goes (λ x y same. ap goes ((bytes_eq-Decides x y).0 same)) name es;
}
