use Rattle.std.proofs.Common.{arith}
use Rattle.relay_log.proofs.Existence.{one_is_there}
use Rattle.relay_log.proofs.laws.one_is_there.Goals as goal

pub returns : goal.returns
returns c = one_is_there c.args.text.now (λ i. omega (arith, c.type_inv.text i))
