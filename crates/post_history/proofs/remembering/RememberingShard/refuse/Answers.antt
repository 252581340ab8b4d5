use Rattle.std.proofs.Common.{refl}
use Rattle.relay_model.specs.Claims.{after_refuse, standing}
use Rattle.post_history.specs.Own.{fronts_used, own_posts}
use Rattle.post_history.proofs.RememberLemmas.{stays_tried}
use Rattle.post_history.proofs.remembering.RememberingShard.refuse.Goals as goal

pub invariant_of-self : goal.invariant_of-self
invariant_of-self g c =
    let old = c.args.self.now in
    record {
      remembers = λ found. stays_tried old.shard c.refuse.new.self c.args.id.now
          (λ claim. after_refuse c.args.session c.args.now
          (standing c.args.lasting c.args.now claim))
          (λ t m. refl) c.refuse.result c.refuse.ensures.claims c.refuse.ensures.err
          (fronts_used old.posts) (own_posts old.posts) (old.remembers found);
    }
