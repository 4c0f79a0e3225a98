use Rattle.std.proofs.Common.{length, arith}
use Rattle.std.proofs.lemmas.Result.{IfOk-weaker}
use Rattle.etp_frame.specs.Chunking.{chunks_of}
use Rattle.etp_frame.proofs.ChunkLemmas.{chunk_first, room_first, chunk_more, room_more, room_one, room_left, chunk_last}
use Rattle.etp_frame.proofs.sending.chunks_of.Goals as goal

pub loop-left-init : goal.loop-left-init
loop-left-init c = record {
  made = chunk_first c.args.size c.args.id c.args.payload.now c.full_chunks-left.result c.len-len.result _ c.new-chunks.ensures.items c.full_chunks-left.ensures c.len-len.ensures.value;
  room = room_first c.args.size c.args.id c.args.payload.now c.full_chunks-left.result c.len-len.result c.full_chunks-left.ensures c.len-len.ensures.value;
}

pub overflow_add-end : goal.overflow_add-end
overflow_add-end c =
    let l = c.loop-left in
    omega (arith, room_one l.left c.args.size l.start (length c.args.payload.now) c.loop-left-test.true l.invariant.room, c.len-len.ensures.value, c.len-len.ensures.small)

pub part-requires-clause-bound : goal.part-requires-clause-bound
part-requires-clause-bound c =
    let l = c.loop-left in
    room_one l.left c.args.size l.start (length c.args.payload.now) c.loop-left-test.true l.invariant.room

pub loop-left-preserved : goal.loop-left-preserved
loop-left-preserved c =
    let l = c.loop-left in
    let p = c.args.payload.now in
    record {
      made = chunk_more c.args.size c.args.id p (chunks_of c.args.size c.args.id p) l.left l.start _ _ c.in_ok-piece.piece c.loop-left-test.true c.in_ok-piece.ensures c.in_ok-push_chunk.ensures l.invariant.made;
      room = room_more l.left c.args.size l.start (length p) c.loop-left-test.true l.invariant.room;
    }

pub part-requires-2-clause-order : goal.part-requires-2-clause-order
part-requires-2-clause-order c =
    let l = c.loop-left in
    omega (arith, room_left l.left c.args.size l.start (length c.args.payload.now) l.invariant.room, c.len-len.ensures.value)

pub returns : goal.returns
returns c =
    let l = c.loop-left in
    let p = c.args.payload.now in
    IfOk-weaker c.with_last.result _ _
    (λ y push. chunk_last c.args.size c.args.id p (chunks_of c.args.size c.args.id p) l.left l.start c.len-len.result _ y c.in_ok-rest.rest c.loop-left-test.false c.len-len.ensures.value c.in_ok-rest.ensures push l.invariant.made) c.with_last.ensures
