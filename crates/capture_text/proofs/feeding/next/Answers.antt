use Rattle.std.proofs.Common.{◌≡◌, ◌∙◌, sym, ap}
use Rattle.std.proofs.lemmas.Result.{IfErr-weaker}
use Rattle.etp_frame.specs.Pieces.{Hearing}
use Rattle.etp_frame.specs.Reading.{read_of}
use Rattle.etp_frame.specs.declared.stage.Reading.TheVariants as p
use Rattle.capture_text.specs.Feeding.{IsCause}
use Rattle.capture_text.proofs.FeedingLemmas.{goes_on, says_left, less_left, refuses_whole}
use Rattle.capture_text.proofs.feeding.next.Goals as goal

pub returns-in-Ok-clause-says : goal.returns-in-Ok-clause-says
returns-in-Ok-clause-says c = λ side whole fed.
    let piece = c.cut.result.0.now in
    let left = c.cut.result.1.now in
    let reads = c.in-Ok.ensures.reads fed.front fed.fed in
    let said = goes_on side whole c.args.bytes.now piece left c.args.reader c.feed.new.self c.in-Ok.answer fed c.cut.ensures.whole (ap (λ (r : Hearing). r.sender) c.in-Ok.ensures.leaves) reads.0 reads.1 in
    says_left c.unless_refused.result (λ s. s.now) side whole left c.feed.new.self c.in-Ok.answer said c.unless_refused.ensures.same

pub returns-in-Ok-clause-less : goal.returns-in-Ok-clause-less
returns-in-Ok-clause-less c = less_left c.unless_refused.result (λ s. s.now) c.args.bytes.now c.cut.result.1.now c.feed.new.self c.in-Ok.answer c.cut.ensures.less c.unless_refused.ensures.same

pub returns-in-Ok-clause-refuses : goal.returns-in-Ok-clause-refuses
returns-in-Ok-clause-refuses c = λ side whole fits fed.
    let piece = c.cut.result.0.now in
    let left = c.cut.result.1.now in
    let reads = c.in-Ok.ensures.reads fed.front fed.fed in
    IfErr-weaker c.unless_refused.result (λ e. c.in-Ok.answer ≡ p.Refused e) (λ e. IsCause (read_of side whole) e)
    (λ e is other. refuses_whole side whole c.args.bytes.now piece left c.args.reader e fed fits c.cut.ensures.whole (sym is ∙ reads.0)) c.unless_refused.ensures.refused
