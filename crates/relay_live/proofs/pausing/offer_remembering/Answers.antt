use Rattle.post_history.specs.Own.{fronts_used, own_posts}
use Rattle.post_history.proofs.RememberLemmas.{stays_tried}
use Rattle.relay_live.specs.Pausing.{after_while}
use Rattle.relay_model.specs.Claims.{standing}
use Rattle.relay_live.proofs.Pauses.{spares_while}
use Rattle.relay_live.proofs.pausing.offer_remembering.Goals as goal

-- an offer leaves what is stored, whether or not new articles are taken
pub invariant_of-remembering : goal.invariant_of-remembering
invariant_of-remembering g c =
    let old = c.args.remembering.now in
    record {
      remembers = λ found. stays_tried old.shard c.offer.new.shard c.args.id.now
          (λ claim. after_while c.args.paused c.args.session c.args.now
          (standing c.args.lasting c.args.now claim))
          (spares_while c.args.paused c.args.session c.args.now c.args.lasting)
          c.offer.result c.offer.ensures.claims c.offer.ensures.err
          (fronts_used old.posts) (own_posts old.posts) (old.remembers found);
    }
