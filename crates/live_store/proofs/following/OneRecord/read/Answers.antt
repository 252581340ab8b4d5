use Rattle.std.proofs.Common.{◌≡◌, ℕ, ◌<◌, Some, subst}
use Rattle.std.specs.Prelude.{IfSome, length}
use Rattle.cyc_token.specs.Token.{token_view}
use Rattle.live_store.proofs.AheadLemmas.{ones_there}
use Rattle.live_store.proofs.following.OneRecord.read.Goals as goal

pub returns-clause-kept : goal.returns-clause-kept
returns-clause-kept g c =
    subst (λ own. IfSome own (λ w. c.read_run.new.self.shown ≡ Some w)) c.give.ensures.shown
    c.read_run.ensures.kept

pub returns-clause-nowhere : goal.returns-clause-nowhere
returns-clause-nowhere g c = c.read_run.ensures.nowhere (length c.args.buffers.now)

pub returns-clause-there : goal.returns-clause-there
returns-clause-there g c = ones_there (length c.args.buffers.now) (token_view c.args.token.now)
    c.read_run.result
    (subst (λ (n : ℕ). n < length c.args.buffers.now) c.from.ensures
    c.in-Some.ensures.lookup.3.0)
