use Rattle.relay_check.proofs.Looks.{unknown_is_told}
use Rattle.relay_check.proofs.looking.stand_on.Goals as goal

-- where it isn't known how it stands, or a start would be refused, that is what is told
pub returns-in-Err : goal.returns-in-Err
returns-in-Err g c =
    unknown_is_told c.args.config.now c.in-Err.error c.tell_failure.result
    (g.W.Write.contents c.args.writer.now) (g.W.Write.contents c.tell_failure.new.writer)
    c.in-Err.ensures c.tell_failure.ensures
