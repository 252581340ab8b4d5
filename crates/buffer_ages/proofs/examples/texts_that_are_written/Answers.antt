use Rattle.std.proofs.Common.{refl}
use Rattle.std.specs.Fmt.{digits}
use Rattle.buffer_ages.proofs.examples.texts_that_are_written.Goals as goal

pub returns : goal.returns
unfolding digits
returns c = refl
