use Rattle.std.proofs.Common.{refl}
use Rattle.relay_model.specs.Claims.{after_release}
use Rattle.post_history.specs.Own.{fronts_used, own_posts}
use Rattle.post_history.proofs.RememberLemmas.{stays}
use Rattle.post_history.proofs.remembering.RememberingShard.release.Goals as goal

pub invariant_of-self : goal.invariant_of-self
invariant_of-self g c =
    let old = c.args.self.now in
    record {
      remembers = λ found. stays old.shard c.release.new.self c.args.id.now
          (after_release c.args.session) (λ t m. refl) c.release.ensures (fronts_used old.posts)
          (own_posts old.posts) (old.remembers found);
    }
