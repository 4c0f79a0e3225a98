use Rattle.std.proofs.Common.{ap, ◌∙◌, sym}
use Rattle.etp_values.specs.SameUri.{same_uri, same_uri-equiv, same_uri-is}
use Rattle.etp_values.proofs.uri.laws.uri_equality.Goals as goal

pub returns-clause-equivalence : goal.returns-clause-equivalence
returns-clause-equivalence c = same_uri-equiv

pub returns-clause-equal : goal.returns-clause-equal
returns-clause-equal c = λ u v. (same_uri-is u v, λ e. ap (same_uri u) (sym e) ∙ same_uri-equiv.refl u)
