use Rattle.etp_values.proofs.UriGrammarLemmas.{uri_of-long, read_body_gives, read_prefix_gives, read_form}
use Rattle.etp_values.proofs.uri.StoreUri.read.Goals as goal

pub returns-then-text-gt-MAX_URI_LEN-clause-said : goal.returns-then-text-gt-MAX_URI_LEN-clause-said
returns-then-text-gt-MAX_URI_LEN-clause-said c = λ _. uri_of-long c.args.text.now c.if-text-gt-MAX_URI_LEN.true

pub returns-in-Some-clause-said : goal.returns-in-Some-clause-said
returns-in-Some-clause-said c =
    read_body_gives c.args.text.now c.in-Some.body.now c.read_body.result c.if-text-gt-MAX_URI_LEN.false c.in-Some.ensures c.read_body.ensures

pub returns-in-Some-clause-form : goal.returns-in-Some-clause-form
returns-in-Some-clause-form c =
    read_form c.args.text.now c.read_body.result
    (read_body_gives c.args.text.now c.in-Some.body.now c.read_body.result c.if-text-gt-MAX_URI_LEN.false c.in-Some.ensures c.read_body.ensures)

pub returns-in-None-clause-said : goal.returns-in-None-clause-said
returns-in-None-clause-said c = λ _.
    read_prefix_gives c.args.text.now c.as_bytes.result.now c.agreeing.result c.if-text-gt-MAX_URI_LEN.false c.in-None.ensures c.as_bytes.ensures.value c.agreeing.ensures.count
