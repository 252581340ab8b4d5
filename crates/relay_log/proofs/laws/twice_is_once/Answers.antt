use Rattle.std.proofs.Common.{subst, sym}
use Rattle.relay_log.specs.Folding.{IsFolded}
use Rattle.relay_log.proofs.Foldings.{one_folded, twice_folded}
use Rattle.relay_log.proofs.laws.twice_is_once.Goals as goal

pub returns : goal.returns
returns c = λ old journal setting new again is. (
  λ more. one_folded new journal setting again new more (twice_folded old journal setting new is),
  λ same. subst (IsFolded new journal setting) (sym same)
      (twice_folded old journal setting new is),
)
