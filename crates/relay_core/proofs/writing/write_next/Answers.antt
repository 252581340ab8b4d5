use Rattle.std.proofs.Common.{ℕ, ◌<◌, ◌≤◌, List, subst, Ok, Err}
use Rattle.block_shelf.specs.Calls.{WritesOn, token_of}
use Rattle.relay_core.proofs.Writings.{block_failed, block_written}
use Rattle.relay_core.proofs.writing.write_next.Goals as goal

-- all blocks are written
pub returns-then-written-blocks : goal.returns-then-written-blocks
returns-then-written-blocks g c = λ group now.
    c.finish.ensures group now c.args.written
    (subst (λ (k : ℕ). k ≤ c.args.written) c.blocks-2.ensures c.if-written-blocks.true)

-- a block is written
pub returns-in-Ok : goal.returns-in-Ok
returns-in-Ok g c = λ group now system.
    let P : List ℕ → Type 0 = λ text. WritesOn (token_of c.args.begun) text
    c.args.buffer_set.now (Ok c.in-Ok._last) c.write_next.new.self in
    block_written group now c.args.job
    (record system { buffer_set = c.args.buffer_set.now }) c.args.begun c.args.written c.in-Ok._last
    c.write_next.new.self
    (subst (λ (k : ℕ). c.args.written < k) c.blocks-2.ensures c.if-written-blocks.false)
    (subst P c.as_slice.ensures c.in-Ok.ensures.written)

-- the write of a block failed
pub returns-in-Err : goal.returns-in-Err
returns-in-Err g c = λ group now system.
    let P : List ℕ → Type 0 = λ text. WritesOn (token_of c.args.begun) text
    c.args.buffer_set.now (Err c.in-Err._fault) c.write_next.new.self in
    block_failed group now c.args.job
    (record system { buffer_set = c.args.buffer_set.now }) c.args.begun c.args.written
    c.in-Err._fault
    c.write_next.new.self
    (subst (λ (k : ℕ). c.args.written < k) c.blocks-2.ensures c.if-written-blocks.false)
    (subst P c.as_slice.ensures c.in-Err.ensures.written)
