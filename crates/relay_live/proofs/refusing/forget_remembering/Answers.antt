use Rattle.std.proofs.Common.{refl}
use Rattle.relay_model.specs.Claims.{after_forget}
use Rattle.post_history.specs.Own.{fronts_used, own_posts}
use Rattle.post_history.proofs.RememberLemmas.{stays}
use Rattle.relay_live.proofs.refusing.forget_remembering.Goals as goal

-- what is given up isn't stored
pub invariant_of-remembering : goal.invariant_of-remembering
invariant_of-remembering g c =
    let old = c.args.remembering.now in
    record {
      remembers = λ found. stays old.shard c.forget.new.shard c.args.id.now
          (after_forget c.args.session) (λ t m. refl) c.forget.ensures.claims
          (fronts_used old.posts) (own_posts old.posts) (old.remembers found);
    }
