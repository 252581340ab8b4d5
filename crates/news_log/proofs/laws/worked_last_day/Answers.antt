use Rattle.std.proofs.Common.{ap, codes, ℕ, subst, sym}
use Rattle.news_terms.specs.Stamps.{IsStamp}
use Rattle.news_log.specs.Lines.{news_stamp}
use Rattle.news_log.proofs.WorkedMoments.{is_last_of_year}
use Rattle.news_log.proofs.laws.worked_last_day.Goals as goal

pub returns : goal.returns
returns c = λ moment second millis. record {
  digits = codes "20261231235959";
  of_second = subst (λ (n : ℕ). IsStamp n (codes "20261231235959")) (sym second) is_last_of_year;
  written = sym (ap (news_stamp (codes "20261231235959")) millis);
}
