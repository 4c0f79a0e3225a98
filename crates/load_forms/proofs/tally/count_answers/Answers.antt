use Rattle.std.proofs.Common.{◌<◌, ◌^◌, length, drop, arith}
use Rattle.load_forms.proofs.CountingLemmas.{all_counted, one_fits, room_left}
use Rattle.load_forms.proofs.tally.count_answers.Goals as goal

pub count_frame-requires-clause-sent : goal.count_frame-requires-clause-sent
count_frame-requires-clause-sent c =
    let short : length c.args.answers.now < 2 ^ 64 = omega arith in
    (one_fits c.args.before c.loop-answer.counted c.args.answers.now (drop c.loop-answer.answer-index c.args.answers.now) short c.requires c.loop-answer.invariant).0

pub count_frame-requires-clause-changes : goal.count_frame-requires-clause-changes
count_frame-requires-clause-changes c =
    let short : length c.args.answers.now < 2 ^ 64 = omega arith in
    (one_fits c.args.before c.loop-answer.counted c.args.answers.now (drop c.loop-answer.answer-index c.args.answers.now) short c.requires c.loop-answer.invariant).1

pub returns-clause-room : goal.returns-clause-room
returns-clause-room c = λ frames room.
    let short : length c.args.answers.now < 2 ^ 64 = omega arith in
    let all = all_counted c.args.before c.loop-answer.counted c.args.answers.now c.loop-answer.answer-index c.loop-answer-test.false c.loop-answer.invariant in
    room_left c.args.before c.loop-answer.counted c.args.answers.now frames short all room
