use Rattle.std.proofs.Common.{ℕ, subst, ◌≤◌, ◌∙◌}
use Rattle.std.specs.Prelude.{slice_get}
use Rattle.block_shelf.specs.Reading.{IsFrontAt}
use Rattle.relay_core.proofs.Forgetting.{all_read}
use Rattle.relay_core.proofs.expiring.Expirer.next_front.Goals as goal

-- all were read
pub returns-then-read-ge-BUFFER_LIMIT-clause-front :
    goal.returns-then-read-ge-BUFFER_LIMIT-clause-front
returns-then-read-ge-BUFFER_LIMIT-clause-front g c =
    all_read c.args.buffer_set.now c.args.self.now
    (subst (λ (n : ℕ). 256 ≤ n) (c.len-read.ensures ∙ c.args.self.now.fronts.ok.0)
    c.if-read-ge-BUFFER_LIMIT.true)

-- the front of the buffer of the next number
pub returns-clause-front : goal.returns-clause-front
returns-clause-front g c = λ trusted w σ openings failures keeps few.
    subst (λ (n : ℕ). IsFrontAt w σ (slice_get w.buffers n) c.front.result)
    (c.len-read.ensures ∙ c.args.self.now.fronts.ok.0)
    (c.front.ensures trusted w σ openings failures keeps)
