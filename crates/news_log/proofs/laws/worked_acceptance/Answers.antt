use Rattle.std.proofs.Common.{ap, codes, ℕ, refl, subst, sym}
use Rattle.std.specs.Fmt.{digits}
use Rattle.news_terms.specs.Stamps.{IsStamp}
use Rattle.news_log.specs.Lines.{news_stamp}
use Rattle.news_log.proofs.WorkedMoments.{is_acceptance}
use Rattle.news_log.proofs.laws.worked_acceptance.Goals as goal

pub returns : goal.returns
unfolding digits
returns c = λ moment second millis relay zeroth first second_one. record {
  stamp = codes "Nov  5 01:02:03.004";
  of_moment = record {
    digits = codes "20261105010203";
    of_second = subst (λ (n : ℕ). IsStamp n (codes "20261105010203")) (sym second) is_acceptance;
    written = sym (ap (news_stamp (codes "20261105010203")) millis);
  };
  written = rw (zeroth, first, second_one) refl;
}
