use Rattle.std.proofs.Common.{ap, ◌∙◌, arith}
use Rattle.array_store.specs.Arrays.{slice_of}
use Rattle.array_store.specs.Refusals.{slice_refusal}
use Rattle.array_store.specs.Shape.{sizes}
use Rattle.tx_stage.specs.declared.look.Looked.TheVariants.{Slice}
use Rattle.tx_stage.proofs.LookLemmas.{given-heavy, given-light}
use Rattle.tx_stage.proofs.look.give_region.Goals as goal

pub returns-then-bytes-room : goal.returns-then-bytes-room
returns-then-bytes-room c =
    let array = c.args.array.now in
    let starts = c.args.starts.now in
    let counts = c.args.counts.now in
    given-heavy c.args.room c.args.bytes (slice_refusal array starts counts) (slice_of (sizes array.dims) (sizes starts) (sizes counts) array.values) c.requires.fits c.requires.room c.requires.weighed c.if-bytes-room.true

pub returns-in-Ok : goal.returns-in-Ok
returns-in-Ok c =
    let array = c.args.array.now in
    let starts = c.args.starts.now in
    let counts = c.args.counts.now in
    ap (λ v. Slice v) c.in-Ok.ensures.ok
    ∙ given-light c.args.room c.args.bytes (slice_refusal array starts counts) (slice_of (sizes array.dims) (sizes starts) (sizes counts) array.values) c.requires.fits c.requires.room c.requires.weighed (omega (arith, c.if-bytes-room.false))
