use Rattle.std.proofs.Common.{false}
use Rattle.relay_lives.specs.Lives.{anybody, failed, served}
use Rattle.relay_lives.proofs.Turns.{life}
use Rattle.relay_lives.proofs.lives.serve_again.Goals as goal

-- whatever follows this life is what comes of it,
pub returns-in-Ok : goal.returns-in-Ok
returns-in-Ok g c = λ result after lived.
    served c.args.config.now false result (g.W.Write.contents c.args.writer.now)
    (g.W.Write.contents c.serve.new.writer) after
    (life anybody _ _ _ _ _ _ _ c.in-Ok.ensures.comes
    c.in-Ok.ensures.gives) lived

-- or it failed
pub returns-in-Err : goal.returns-in-Err
returns-in-Err g c =
    failed c.args.config.now false c.in-Err.error (g.W.Write.contents c.args.writer.now)
    (g.W.Write.contents c.serve.new.writer)
    (life anybody _ _ _ _ _ _ _ c.in-Err.ensures.comes
    c.in-Err.ensures.gives)
