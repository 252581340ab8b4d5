use Rattle.post_history.specs.Own.{fronts_used, own_posts}
use Rattle.post_history.proofs.RememberLemmas.{stays_taken}
use Rattle.post_history.proofs.remembering.RememberingShard.take.Goals as goal

pub invariant_of-self : goal.invariant_of-self
invariant_of-self g c =
    let old = c.args.self.now in
    record {
      remembers = λ found. stays_taken old.shard c.take.new.self c.args.id.now c.args.session
          c.take.result c.take.ensures.claims c.take.ensures.err (fronts_used old.posts)
          (own_posts old.posts) (old.remembers found);
    }
