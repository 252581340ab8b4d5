use Rattle.std.proofs.Common.{ℕ, None, Some, subst}
use Rattle.block_shelf.specs.Calls.{BeginsOn}
use Rattle.relay_core.proofs.Writings.{begun_one, worn_one}
use Rattle.relay_core.proofs.writing.begin.Goals as goal

-- the job is begun
pub returns-in-Some : goal.returns-in-Some
returns-in-Some g c = λ group now system.
    let P : ℕ → Type 0 = λ k. BeginsOn c.args.job.article.group c.args.job.article.class k
    c.args.buffer_set.now (Some c.in-Some.begun) c.begin.new.self in
    begun_one group now c.args.job
    (record system { buffer_set = c.args.buffer_set.now }) c.in-Some.begun c.begin.new.self
    (subst P c.length-length.ensures c.in-Some.ensures.begun)

-- no token has room for the cycle
pub returns-in-None : goal.returns-in-None
returns-in-None g c = λ group now system.
    let P : ℕ → Type 0 = λ k. BeginsOn c.args.job.article.group c.args.job.article.class k
    c.args.buffer_set.now None c.begin.new.self in
    worn_one group now c.args.job
    (record system { buffer_set = c.args.buffer_set.now }) c.begin.new.self
    (subst P c.length-length.ensures c.in-None.ensures.begun)
