use Rattle.relay_explain.proofs.Puts.{failed}
use Rattle.relay_explain.proofs.text.Text.fail.Goals as goal

pub returns : goal.returns
returns c more = failed _ more
