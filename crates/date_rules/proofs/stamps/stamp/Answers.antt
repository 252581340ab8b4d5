use Rattle.date_rules.specs.Stamps.{civil_time}
use Rattle.date_rules.proofs.CivilTimes.{civil_time_of}
use Rattle.date_rules.proofs.stamps.stamp.Goals as goal

pub returns : goal.returns
returns c = record {
  time = civil_time c.datetime.result;
  shown = civil_time_of c.args.now c.datetime.result c.datetime.ensures;
  written = c.digits.ensures;
}
