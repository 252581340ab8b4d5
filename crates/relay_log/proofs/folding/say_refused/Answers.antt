use Rattle.std.proofs.Common.{subst}
use Rattle.relay_model.specs.Claims.{Claim, after_refuse}
use Rattle.relay_model.specs.State.{put_id}
use Rattle.relay_log.specs.Folding.{nothing}
use Rattle.id_history.specs.Lasting.{put_all}
use Rattle.id_history.specs.Shards.{KeepsAll}
use Rattle.id_history.proofs.ClaimLemmas.{stands}
use Rattle.relay_log.proofs.Knows.{knows_refused}
use Rattle.relay_log.proofs.folding.say_refused.Goals as goal

pub returns : goal.returns
returns c later keeps =
    knows_refused c.refuse.new.self later c.args.id.now c.args.moment
    (subst (λ (known : Claim). KeepsAll c.refuse.new.self
    (put_id (put_all nothing later) c.args.id.now (after_refuse 0 c.args.moment known)))
    (stands c.args.moment (put_all nothing later c.args.id.now))
    (c.in_ok-refuse.ensures.claims (put_all nothing later) keeps))
