use Rattle.std.proofs.Common.{ap, ◌∙◌}
use Rattle.array_store.specs.Shape.{sizes}
use Rattle.array_store.proofs.ExchangeLemmas.{number-bytes, size_by}
use Rattle.array_store.proofs.StepLemmas.{region-within}
use Rattle.array_store.proofs.window.region_bytes.Goals as goal

pub returns-in-ArrayOfBoolean : goal.returns-in-ArrayOfBoolean
returns-in-ArrayOfBoolean c =
    let within = region-within c.args.dims.now c.args.starts.now c.args.counts.now c.requires.region in
    c.counted_bytes.ensures ∙ number-bytes (sizes c.args.dims.now) (sizes c.args.starts.now) (sizes c.args.counts.now) c.args.values.now 1 within c.requires.full (ap size_by c.in-ArrayOfBoolean.is)

pub returns-in-ArrayOfInt : goal.returns-in-ArrayOfInt
returns-in-ArrayOfInt c =
    let within = region-within c.args.dims.now c.args.starts.now c.args.counts.now c.requires.region in
    c.counted_bytes-in-ArrayOfInt.ensures ∙ number-bytes (sizes c.args.dims.now) (sizes c.args.starts.now) (sizes c.args.counts.now) c.args.values.now 4 within c.requires.full (ap size_by c.in-ArrayOfInt.is)

pub returns-in-ArrayOfLong : goal.returns-in-ArrayOfLong
returns-in-ArrayOfLong c =
    let within = region-within c.args.dims.now c.args.starts.now c.args.counts.now c.requires.region in
    c.counted_bytes-in-ArrayOfLong.ensures ∙ number-bytes (sizes c.args.dims.now) (sizes c.args.starts.now) (sizes c.args.counts.now) c.args.values.now 8 within c.requires.full (ap size_by c.in-ArrayOfLong.is)

pub returns-in-ArrayOfFloat : goal.returns-in-ArrayOfFloat
returns-in-ArrayOfFloat c =
    let within = region-within c.args.dims.now c.args.starts.now c.args.counts.now c.requires.region in
    c.counted_bytes-in-ArrayOfFloat.ensures ∙ number-bytes (sizes c.args.dims.now) (sizes c.args.starts.now) (sizes c.args.counts.now) c.args.values.now 4 within c.requires.full (ap size_by c.in-ArrayOfFloat.is)

pub returns-in-ArrayOfDouble : goal.returns-in-ArrayOfDouble
returns-in-ArrayOfDouble c =
    let within = region-within c.args.dims.now c.args.starts.now c.args.counts.now c.requires.region in
    c.counted_bytes-in-ArrayOfDouble.ensures ∙ number-bytes (sizes c.args.dims.now) (sizes c.args.starts.now) (sizes c.args.counts.now) c.args.values.now 8 within c.requires.full (ap size_by c.in-ArrayOfDouble.is)

pub returns-in-Bytes : goal.returns-in-Bytes
returns-in-Bytes c =
    let within = region-within c.args.dims.now c.args.starts.now c.args.counts.now c.requires.region in
    c.counted_bytes-in-Bytes.ensures ∙ number-bytes (sizes c.args.dims.now) (sizes c.args.starts.now) (sizes c.args.counts.now) c.args.values.now 1 within c.requires.full (ap size_by c.in-Bytes.is)
