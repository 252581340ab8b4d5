use Rattle.relay_report.proofs.keeping.StartFaultDisplay.fmt.Goals as goal

pub returns-in-Buffer-clause-writes : goal.returns-in-Buffer-clause-writes
returns-in-Buffer-clause-writes g c plain done =
    rw c.in-Buffer.is (rw c.text-text.ensures at (c.write.ensures.writes plain done))
