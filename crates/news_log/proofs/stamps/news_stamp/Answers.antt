use Rattle.news_log.proofs.StampedOctets.{has_month}
use Rattle.news_log.proofs.stamps.news_stamp.Goals as goal

-- the digits are those of a moment
pub stamp_of-requires : goal.stamp_of-requires
stamp_of-requires c = record {
  month = has_month c.args.moment.now.second c.stamp-digits.result c.stamp-digits.ensures;
  thousandth = c.args.moment.now.thousandth;
}

pub returns : goal.returns
returns c = record {
  digits = c.stamp-digits.result;
  of_second = c.stamp-digits.ensures;
  written = c.stamp_of.ensures;
}
