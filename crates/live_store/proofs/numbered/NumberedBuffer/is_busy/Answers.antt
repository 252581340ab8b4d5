use Rattle.std.proofs.Common.{◌∙◌}
use Rattle.live_store.proofs.StopLemmas.{busy_is}
use Rattle.live_store.proofs.numbered.NumberedBuffer.is_busy.Goals as goal

pub returns-clause-busy : goal.returns-clause-busy
returns-clause-busy g c = c.is_some.ensures
    ∙ busy_is g.J.StorePremises.register g.J.StorePremises.trusted c.args.self.now.buffer
    c.args.self.now.numbers.items c.args.self.now.open_write c.args.self.now.tied
