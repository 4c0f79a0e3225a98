use Rattle.std.proofs.Common.{◌≡◌, ◌++◌, map}
use Rattle.std.specs.Vec.Iter.{into_iter_items}
use Rattle.msg_store.specs.declared.store_messages.StoreMessage.TheVariants as s
use Rattle.etp_frame.specs.declared.message.Message.TheVariants as m
use Rattle.etp_frame.proofs.sending.push_chunks.Given as goal

abbrev pub invariant-loop-chunk : goal.invariant-loop-chunk
invariant-loop-chunk l = l.into.items ++ map (λ c. m.Store (s.Chunk c)) (into_iter_items l.chunk-iterator) ≡ l.fn.into.items ++ map (λ c. m.Store (s.Chunk c)) l.fn.chunks
