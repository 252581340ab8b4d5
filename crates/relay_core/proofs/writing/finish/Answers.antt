use Rattle.relay_core.proofs.Writings.{finished_one, not_given_back}
use Rattle.relay_core.proofs.writing.finish.Goals as goal

-- the text is whole
pub returns-in-Ok : goal.returns-in-Ok
returns-in-Ok g c = λ group now written full system.
    finished_one group now c.args.job (record system { buffer_set = c.args.buffer_set.now })
    c.args.begun written c.in-Ok.token c.finish.new.self full c.in-Ok.ensures.finished

-- what is all written is not given back
pub returns-in-Err : goal.returns-in-Err
returns-in-Err g c = λ group now written full system.
    not_given_back group now c.args.job (record system { buffer_set = c.args.buffer_set.now })
    c.args.begun c.in-Err.back written c.finish.new.self full c.in-Err.ensures.finished
