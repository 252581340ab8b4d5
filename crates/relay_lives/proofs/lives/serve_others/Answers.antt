use Rattle.std.proofs.Common.{Ok}
use Rattle.relay_lives.specs.Lives.{ended}
use Rattle.relay_lives.proofs.lives.serve_others.Goals as goal

-- nobody wants that another follow
pub returns-then-not-is_asked : goal.returns-then-not-is_asked
returns-then-not-is_asked g c =
    c.lives.invariant (Ok tt) (g.W.Write.contents c.lives.writer)
    (ended _ (g.W.Write.contents c.lives.writer) c.if-not-is_asked.ensures)
