-- Each number stands at its place.
use Rattle.std.proofs.Common.{◌∙◌, refl}
use Rattle.cyc_block.proofs.head.counts.Goals as goal

pub returns : goal.returns
returns c =
    rw (
      c.copy_from_slice.ensures.after ∙ c.to_be_bytes-stop.ensures,
      c.copy_from_slice-2.ensures.after ∙ c.to_be_bytes-begun.ensures,
      c.copy_from_slice-3.ensures.after ∙ c.to_be_bytes-stored.ensures,
    ) refl
