use Rattle.std.proofs.Common.{refl}
use Rattle.buffer_group.proofs.LawLemmas.{some_buffers, blocks_of_some}
use Rattle.relay_conf.specs.Places.{mode_view}
use Rattle.buffer_group.proofs.laws.keep_some.Goals as goal

pub returns : goal.returns
returns c = λ mode blocks. (
  record { mode = mode_view mode; buffers = some_buffers blocks },
  (refl, blocks_of_some blocks),
)
