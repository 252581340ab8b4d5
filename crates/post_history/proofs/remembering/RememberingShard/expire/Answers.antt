use Rattle.std.proofs.Common.{List, ℕ, map, subst, sym}
use Rattle.cyc_buffer.specs.declared.answers.Front.{Front}
use Rattle.id_history.specs.Expiry.{passed_view}
use Rattle.post_history.specs.Own.{fronts_used, own_posts}
use Rattle.post_history.specs.Posts.{posts_of}
use Rattle.post_history.specs.Remembering.{Remembers}
use Rattle.post_history.specs.declared.post.Post.{Post}
use Rattle.post_history.proofs.RememberLemmas.{stays_expired}
use Rattle.post_history.proofs.remembering.RememberingShard.expire.Goals as goal

-- by later fronts what was known is known, and what is forgotten is passed by them
pub invariant_of-self : goal.invariant_of-self
invariant_of-self g c =
    let old = c.args.self.now in
    let fronts = c.args.fronts.now in
    let same = c.use_fronts.ensures.same in
    record {
      remembers = λ found.
          let later = c.use_fronts.ensures.later found in
          subst (λ (x : List Front × (ℕ × List Post)). ∥ Remembers c.expire.new.self
          (map passed_view x.0) g.J.Naming.began x.1.0 (posts_of x.1.0 x.1.1) ∥₁)
          (λ i. (
            sym {A = List Front} later.1 i,
            (sym {A = ℕ} same.0 i, sym {A = List Post} same.1 i),
          ))
          (stays_expired old.shard c.expire.new.self c.args.now c.args.remember
          (fronts_used old.posts) (map passed_view fronts) c.expire.ensures later.2
          (own_posts old.posts) (old.remembers later.0));
    }
