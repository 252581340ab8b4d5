use Rattle.std.proofs.Common.{rules}
use Rattle.news_log.proofs.StampedOctets.{stamp_is}
use Rattle.news_log.proofs.stamps.stamp_of.Goals as goal

pub returns : goal.returns
returns c =
    stamp_is c.args.digits c.args.millis c.month_name.result c.three_digits.result
    c.with_space-day.result (search rules) (search rules) c.requires.month c.month_name.ensures
    c.three_digits.ensures
    c.with_space-day.ensures
