use Rattle.std.proofs.Common.{arith}
use Rattle.std.proofs.lemmas.Grind.{common_steps}
use Rattle.std.proofs.lemmas.List.{nil_from_length}
use Rattle.avro_bin.specs.Laws.{IsBytes}
use Rattle.capture_text.proofs.FeedingLemmas.{begun, says_all}
use Rattle.capture_text.proofs.feeding.feed_all.Goals as goal

pub loop-answer-init : goal.loop-answer-init
loop-answer-init c = begun c.args.sender c.args.bytes.now c.new-reader.result c.new-reader.ensures

pub loop-answer-preserved : goal.loop-answer-preserved
loop-answer-preserved c = c.in-Ok.ensures.says c.args.sender c.args.bytes.now c.loop-answer.invariant.before

pub returns-in-Err-clause-refuses : goal.returns-in-Err-clause-refuses
returns-in-Err-clause-refuses c =
    let fits : IsBytes c.args.bytes.now = λ i. omega (arith, c.type_inv.bytes i) in
    c.in-Err.ensures.refuses c.args.sender c.args.bytes.now fits c.loop-answer.invariant.before

pub returns-clause-right : goal.returns-clause-right
returns-clause-right c = says_all _ _ _ _ _ c.loop-answer.invariant (nil_from_length c.loop-answer.left.now (grind (arith, common_steps)))
