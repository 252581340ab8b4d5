use Rattle.relay_lives.specs.Lives.{anybody}
use Rattle.relay_lives.proofs.Turns.{turn_kept}
use Rattle.relay_lives.proofs.lives.serve_next.Goals as goal

-- no configuration could be had, and the relay goes on as it was
pub returns-in-Err : goal.returns-in-Err
returns-in-Err g c = λ asked.
    turn_kept anybody c.args.folder.now c.args.sessions
    c.args.config.now c.in-Err.error c.goes_on-either.result c.serve_again.result
    (g.W.Write.contents c.args.writer.now) (g.W.Write.contents c.serve_again.new.writer) asked
    c.in-Err.ensures c.goes_on-either.ensures c.serve_again.ensures
