use Rattle.std.proofs.Common.{rules, ap, ◌≡◌, ◌↔◌, IsTrue}
use Rattle.etp_values.specs.Uri.{plain_uri}
use Rattle.etp_values.proofs.UriGrammarLemmas.{plain_uri-once}
use Rattle.etp_values.proofs.uri.StoreUri.same.Goals as goal

pub returns-clause-texts : goal.returns-clause-texts
returns-clause-texts c = λ h k.
    let is : IsTrue c.eq.result ↔ (c.args.self.now ≡ c.args.other.now) = search rules in
    (λ same. ap plain_uri (is.0 same), λ texts. is.1 (plain_uri-once c.args.self.now c.args.other.now h k texts))
