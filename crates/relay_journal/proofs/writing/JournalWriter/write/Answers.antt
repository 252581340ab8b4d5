use Rattle.std.proofs.Common.{refl}
use Rattle.relay_journal.proofs.Steps.{writes_none, writes_put}
use Rattle.relay_journal.proofs.writing.JournalWriter.write.Goals as goal

-- they are put behind the journal that is begun
pub returns-then-self : goal.returns-then-self
returns-then-self g c =
    writes_put g.F.JournalFile g.L.JournalLines c.args.octets.now c.args.self.now
    c.make_ready.new.self c.put.new.self c.make_ready.ensures c.if-self.true c.put.ensures

-- or nowhere
pub returns-else-self : goal.returns-else-self
returns-else-self g c =
    writes_none g.F.JournalFile g.L.JournalLines c.args.octets.now c.args.self.now
    c.make_ready.new.self c.make_ready.new.self c.make_ready.ensures c.if-self.false refl
