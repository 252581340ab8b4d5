use Rattle.std.proofs.Common.{refl, Err}
use Rattle.relay_conf.proofs.RelayReadings.{relay_step}
use Rattle.relay_conf.proofs.relay.RelayDraftLineByLine.add_line.Goals as goal

pub returns-in-Ok : goal.returns-in-Ok
returns-in-Ok c =
    relay_step c.args.number c.args.line.now c.args.self.now c.add.new.self c.add.result
    (rw (← c.in-Ok.ensures) c.add.ensures)

pub returns-in-Err : goal.returns-in-Err
returns-in-Err c = λ said number of. record {
  one = Err c.in-Err.fault;
  says = rw (← c.in-Err.ensures) refl;
  found = refl;
}
