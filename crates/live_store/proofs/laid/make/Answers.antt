use Rattle.std.proofs.Common.{◌∙◌}
use Rattle.live_store.proofs.laid.make.Goals as goal

-- the bucket gets as many places as it has to have
pub set_written-requires : goal.set_written-requires
set_written-requires g c = λ octave part parts named.
    c.in_ok-places.ensures ∙ c.width.ensures.places ∙ c.requires.bucket octave part parts named
