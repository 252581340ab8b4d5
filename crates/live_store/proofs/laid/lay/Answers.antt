use Rattle.std.proofs.Common.{◌≡◌, ◌∙◌, ap, arith}
use Rattle.boxcar.specs.Table.{first}
use Rattle.live_store.specs.Places.{bucket_of, span}
use Rattle.live_store.proofs.Spans.{bucket_few, tag_is}
use Rattle.live_store.proofs.laid.lay.Goals as goal

-- the bucket has as many places as one of its octave has
pub make-requires-clause-bucket : goal.make-requires-clause-bucket
make-requires-clause-bucket g c = λ octave part parts named.
    let at = c.args.at.now in
    let is = c.requires.at.1 in
    let tagged = tag_is c.args.buckets.now (bucket_of at.octave at.part)
    c.index-buckets-at.result c.requires.buckets (bucket_few at.octave at.part is.octaves is.parts)
    c.index-buckets-at.is in
    let same : at.octave ≡ octave = omega (arith, parts, is.parts, named, ap first tagged) in
    ap span same
