use Rattle.std.proofs.Common.{ap, codes, ℕ, refl, subst, sym}
use Rattle.news_terms.specs.Stamps.{IsStamp}
use Rattle.news_log.specs.Lines.{news_stamp}
use Rattle.news_log.proofs.WorkedMoments.{is_refusal}
use Rattle.news_log.proofs.laws.worked_refusal.Goals as goal

pub returns : goal.returns
returns c = λ moment second millis. record {
  stamp = codes "Nov 29 12:34:56.789";
  of_moment = record {
    digits = codes "20261129123456";
    of_second = subst (λ (n : ℕ). IsStamp n (codes "20261129123456")) (sym second) is_refusal;
    written = sym (ap (news_stamp (codes "20261129123456")) millis);
  };
  written = refl;
}
