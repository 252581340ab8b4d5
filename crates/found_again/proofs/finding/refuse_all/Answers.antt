use Rattle.std.proofs.Common.{take, subst}
use Rattle.relay_model.specs.Claims.{Claim, after_refuse}
use Rattle.relay_model.specs.State.{put_id}
use Rattle.id_history.specs.Shards.{KeepsAll}
use Rattle.id_history.proofs.ClaimLemmas.{stands}
use Rattle.found_again.specs.Finding.{all_refused}
use Rattle.found_again.proofs.FindLemmas.{keeps_refused}
use Rattle.found_again.proofs.finding.refuse_all.Goals as goal

-- one id more was refused
pub loop-one-preserved : goal.loop-one-preserved
loop-one-preserved c claims keeps =
    let before = all_refused claims (take c.loop-one.one-index c.args.listed.now) in
    keeps_refused c.refuse.new.self claims c.args.listed.now c.loop-one.one-index
    c.one-item.result c.loop-one-test.true c.one-item.is
    (subst (λ (known : Claim). KeepsAll c.refuse.new.self
    (put_id before c.one-item.result.id (after_refuse 0 c.one-item.result.moment known)))
    (stands c.one-item.result.moment (before c.one-item.result.id))
    (c.in_ok-refuse.ensures.claims _ (c.loop-one.invariant claims keeps)))
