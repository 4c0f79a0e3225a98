use Rattle.std.proofs.Common.{◌-◌, length, drop, arith}
use Rattle.std.proofs.lemmas.List.{length-take, take_rest}
use Rattle.etp_frame.proofs.ReadingLemmas.{refused_tree}
use Rattle.etp_frame.proofs.TypedLemmas.{front_kind, typed_whole, typed_refused}
use Rattle.etp_frame.proofs.WireLemmas.{read_is_message}
use Rattle.etp_frame.proofs.reading.read_message.Goals as goal

pub read_typed-requires : goal.read_typed-requires
read_typed-requires c =
    let front = c.in-Ok.front.1 in
    omega (arith, length-take (length c.args.bytes.now - front) (drop front c.args.bytes.now))

pub returns-in-Err-clause-gives : goal.returns-in-Err-clause-gives
returns-in-Err-clause-gives c = λ other. refused_tree c.args.sender c.args.bytes.now c.in-Err.error (c.in-Err.ensures.refused other)

pub returns-in-Ok-read_typed-clause-gives : goal.returns-in-Ok-read_typed-clause-gives
returns-in-Ok-read_typed-clause-gives c =
    let f = c.in-Ok.front in
    let is = c.in-Ok.ensures.front in
    let k = front_kind c.args.sender f.0 f.1 f.2 c.args.bytes.now is in
    typed_whole c.args.sender f.0 f.1 f.2 c.args.bytes.now is k.0 k.1 k.2 (take_rest c.args.bytes.now f.1) c.in-Ok-read_typed.message (c.in-Ok-read_typed.ensures k.0 k.1)

pub returns-in-Ok-read_typed-clause-form : goal.returns-in-Ok-read_typed-clause-form
returns-in-Ok-read_typed-clause-form c =
    let f = c.in-Ok.front in
    let is = c.in-Ok.ensures.front in
    let k = front_kind c.args.sender f.0 f.1 f.2 c.args.bytes.now is in
    read_is_message c.args.sender f.0 c.in-Ok-read_typed.message c.args.bytes.now (λ i. omega (arith, c.type_inv.bytes i))
    (typed_whole c.args.sender f.0 f.1 f.2 c.args.bytes.now is k.0 k.1 k.2 (take_rest c.args.bytes.now f.1) c.in-Ok-read_typed.message (c.in-Ok-read_typed.ensures k.0 k.1))

pub returns-in-Err-read_typed-clause-gives : goal.returns-in-Err-read_typed-clause-gives
returns-in-Err-read_typed-clause-gives c =
    let f = c.in-Ok.front in
    let is = c.in-Ok.ensures.front in
    let k = front_kind c.args.sender f.0 f.1 f.2 c.args.bytes.now is in
    typed_refused c.args.sender f.0 f.1 f.2 c.args.bytes.now is k.0 k.1 k.2 (take_rest c.args.bytes.now f.1) c.in-Err-read_typed.error (c.in-Err-read_typed.ensures k.0 k.1)
