use Rattle.std.proofs.Common.{[], leb-false, refl}
use Rattle.std.specs.Fmt.{digits}
use Rattle.news_terms.specs.Places as places
use Rattle.relay_model.specs.Writers.{CannotBegin}
use Rattle.relay_laws.specs.OtherTerms.{in_last_cycle}
use Rattle.relay_laws.specs.WorldRows as rows
use Rattle.relay_laws.specs.Worlds.{one_begun}
use Rattle.relay_laws.proofs.Playing.{are_answered}
use Rattle.relay_laws.proofs.Premises.{five}
use Rattle.relay_laws.proofs.worlds.last_cycle.Goals as goal

pub returns : goal.returns
unfolding digits
returns c = λ failures. are_answered in_last_cycle (one_begun failures) []
    rows.last_cycle rows.last_cycle_replies
    (five (
      refl,
      (
        refl,
        (
          CannotBegin (record {
            place = _;
            waiting = refl;
            next = refl;
            past = leb-false 4_294_967_296 places.last_cycle refl;
          }),
          tt,
        ),
      ),
    )) refl refl
