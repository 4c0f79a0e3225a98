use Rattle.array_store.specs.Shape.{sizes}
use Rattle.array_store.proofs.RegionLemmas.{length-patched}
use Rattle.array_store.proofs.window.patch_blob.Goals as goal

pub returns-in-Ok-clause-len : goal.returns-in-Ok-clause-len
returns-in-Ok-clause-len c = length-patched (sizes c.args.dims.now) (sizes c.args.starts.now) (sizes c.args.counts.now) c.args.held c.args.values

pub returns-in-Err-clause-len : goal.returns-in-Err-clause-len
returns-in-Err-clause-len c = length-patched (sizes c.args.dims.now) (sizes c.args.starts.now) (sizes c.args.counts.now) c.args.held c.args.values
