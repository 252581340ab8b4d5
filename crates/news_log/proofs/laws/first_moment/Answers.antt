use Rattle.std.proofs.Common.{ap, codes, ℕ, subst, sym}
use Rattle.news_terms.proofs.Moments.{is_first}
use Rattle.news_terms.specs.Stamps.{IsStamp}
use Rattle.news_log.specs.Lines.{news_stamp}
use Rattle.news_log.proofs.laws.first_moment.Goals as goal

pub returns : goal.returns
returns c = λ moment second millis. record {
  digits = codes "19700101000000";
  of_second = subst (λ (n : ℕ). IsStamp n (codes "19700101000000")) (sym second) is_first;
  written = sym (ap (news_stamp (codes "19700101000000")) millis);
}
