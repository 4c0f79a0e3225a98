use Rattle.std.proofs.lemmas.Bool.{false≢true}
use Rattle.chan_defs.proofs.ReadingLemmas.{defs_long, defs_read, defs_toml}
use Rattle.chan_defs.proofs.reading.read_defs.Goals as goal

pub returns-then-bytes-gt-MAX_DEFS_LEN : goal.returns-then-bytes-gt-MAX_DEFS_LEN
returns-then-bytes-gt-MAX_DEFS_LEN c = λ _. defs_long c.args.bytes.now c.if-bytes-gt-MAX_DEFS_LEN.true

pub returns-in-Ok : goal.returns-in-Ok
returns-in-Ok c =
    defs_read c.args.bytes.now _ c.read_config.result c.if-bytes-gt-MAX_DEFS_LEN.false c.in-Ok.ensures.ok.0 c.in-Ok.ensures.ok.1 c.read_config.ensures

pub returns-else-is_memory : goal.returns-else-is_memory
returns-else-is_memory c = λ _.
    defs_toml c.args.bytes.now c.if-bytes-gt-MAX_DEFS_LEN.false
    (c.in-Err.ensures.refused (λ m. false≢true (rw c.if-is_memory.false at (c.is_memory.ensures.1 m))))
