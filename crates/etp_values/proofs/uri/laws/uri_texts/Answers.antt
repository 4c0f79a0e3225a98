use Rattle.etp_values.proofs.UriGrammarLemmas.{uri_of-says, uri_of-text, uri_of-plain_uri, plain_uri-once}
use Rattle.etp_values.proofs.uri.laws.uri_texts.Goals as goal

pub returns-clause-said : goal.returns-clause-said
returns-clause-said c = λ u text. (uri_of-says u text, λ h. uri_of-text u text h.0 h.1)

pub returns-clause-back : goal.returns-clause-back
returns-clause-back c = uri_of-plain_uri

pub returns-clause-once : goal.returns-clause-once
returns-clause-once c = plain_uri-once
