use Rattle.std.proofs.Common.{[], subst, sym}
use Rattle.relay_log.specs.Folding.{IsFoldedWith}
use Rattle.relay_log.proofs.Foldings.{as_it_is, none_with, one_with, other_stop}
use Rattle.relay_log.proofs.laws.none_is_folded.Goals as goal

pub returns : goal.returns
returns c =
    record {
      none = λ old setting new rises. (
        λ is. one_with old [] setting new old is (none_with old setting rises),
        λ same. subst (IsFoldedWith old [] setting) (sym same) (none_with old setting rises),
      );
      other = λ old journal setting new apart.
          (as_it_is old journal setting new apart, other_stop old journal setting new apart);
    }
