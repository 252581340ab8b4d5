use Rattle.relay_log.proofs.Foldings.{parts_from_whole, whole_from_parts}
use Rattle.relay_log.proofs.laws.parts_are_whole.Goals as goal

pub returns : goal.returns
returns c = λ old mid new first rest setting is. (
  whole_from_parts old mid new first rest setting is,
  parts_from_whole old mid new first rest setting is,
)
