use Rattle.relay_lives.specs.Lives.{anybody, changed}
use Rattle.relay_lives.proofs.Turns.{life, turn_lost, turn_refused}
use Rattle.relay_lives.proofs.lives.serve_changed.Goals as goal

-- the life with the next configuration ended well,
pub returns-in-Ok : goal.returns-in-Ok
returns-in-Ok g c = λ asked is result after lived.
    changed c.args.config.now c.args.next result (g.W.Write.contents c.args.writer.now)
    (g.W.Write.contents c.serve.new.writer) after asked is
    (life anybody _ _ _ _ _ _ _ c.in-Ok.ensures.comes
    c.in-Ok.ensures.gives) lived

-- or it was refused, and the relay goes on as it was,
pub returns-in-Ok-tell_refused : goal.returns-in-Ok-tell_refused
returns-in-Ok-tell_refused g c = λ asked is.
    turn_refused anybody c.args.folder.now c.args.sessions
    c.args.config.now c.args.next c.in-Err.error c.serve_again.result
    (g.W.Write.contents c.args.writer.now) (g.W.Write.contents c.serve.new.writer)
    (g.W.Write.contents c.serve_again.new.writer) asked is
    (life anybody _ _ _ _ _ _ _ c.in-Err.ensures.comes
    c.in-Err.ensures.gives) c.in-Ok-tell_refused.ensures c.serve_again.ensures

-- or it failed, and so do they all
pub returns-in-Err-tell_refused : goal.returns-in-Err-tell_refused
returns-in-Err-tell_refused g c = λ asked is.
    turn_lost anybody c.args.folder.now c.args.sessions
    c.args.config.now c.args.next c.in-Err.error c.in-Err-tell_refused.error
    (g.W.Write.contents c.args.writer.now) (g.W.Write.contents c.serve.new.writer) asked is
    (life anybody _ _ _ _ _ _ _ c.in-Err.ensures.comes
    c.in-Err.ensures.gives) c.in-Err-tell_refused.ensures
