use Rattle.relay_lives.specs.Lives.{anybody, failed, served}
use Rattle.relay_lives.proofs.Turns.{life, lives_give}
use Rattle.relay_lives.proofs.lives.serve_lives.Goals as goal

-- the first life ended well, and others may follow
pub returns-in-Ok : goal.returns-in-Ok
returns-in-Ok g c =
    let lived = served c.args.config.now c.args.fresh c.serve_others.result
    (g.W.Write.contents c.args.writer.now) (g.W.Write.contents c.serve.new.writer)
    (g.W.Write.contents c.serve_others.new.writer)
    (life anybody _ _ _ _ _ _ _ c.in-Ok.ensures.comes
    c.in-Ok.ensures.gives) c.serve_others.ensures in
    record { lived = lived; gives = lives_give _ _ _ _ _ _ _ _ lived }

-- or failed
pub returns-in-Err : goal.returns-in-Err
returns-in-Err g c =
    let lived = failed c.args.config.now c.args.fresh c.in-Err.error
    (g.W.Write.contents c.args.writer.now) (g.W.Write.contents c.serve.new.writer)
    (life anybody _ _ _ _ _ _ _ c.in-Err.ensures.comes
    c.in-Err.ensures.gives) in
    record { lived = lived; gives = lives_give _ _ _ _ _ _ _ _ lived }
