use Rattle.std.proofs.Common.{◌≡◌, ◌∙◌, List, ℕ, ap, false, map, refl, subst, sym}
use Rattle.std.specs.Prelude.{is_ok}
use Rattle.cyc_token.specs.Token.{token_view}
use Rattle.id_history.specs.Expiry.{passed_view}
use Rattle.live_jobs.specs.Desks.{desk_of, posts_of as posts_made}
use Rattle.live_jobs.specs.declared.desk.CountedDesk.{CountedDesk}
use Rattle.post_history.specs.Own.{fronts_used, own_posts}
use Rattle.post_history.specs.Posts.{posts_of}
use Rattle.post_history.proofs.RememberLemmas.{settled, stays_same}
use Rattle.relay_live.specs.Gains.{HaveGained}
use Rattle.relay_live.specs.Posting.{IsPostedBy}
use Rattle.relay_live.proofs.Gaining.{gained_more}
use Rattle.relay_live.proofs.Posted.{as_many_more, by_ok, found_before, posted_by}
use Rattle.relay_live.proofs.posting.settle.Goals as goal

-- a settled article is stored, and its post is the last of the shard's ids, or isn't there
pub invariant_of-shard : goal.invariant_of-shard
invariant_of-shard g c =
    let old = c.args.shard.now in
    let article = c.args.article.now in
    let told = c.post-told.ensures in
    let own = c.post-told.new.own in
    record {
      remembers = λ found. settled (is_ok c.post-told.result) old.shard c.settle_both.new.shard
          article.session article.moment old.posts.number own.number article.id.now
          (token_view article.token) (fronts_used old.posts) (fronts_used own)
          old.posts.history own.history c.of-post.result c.of-post.ensures.id_is
          (ap token_view c.of-post.ensures.token_is) told.same.0
          (ap (λ used. map passed_view used.items) told.same.1)
          c.in-Some.ensures.storing c.in-Some.ensures.settled
          (by_ok c.post-told.result _ _ _ told.own told.unchanged (λ both. both.1))
          (old.remembers (sym told.same.2 ∙ found));
    }

-- where nothing is settled no claim changes
pub invariant_of-shard-in-None : goal.invariant_of-shard-in-None
invariant_of-shard-in-None g c =
    let old = c.args.shard.now in
    record {
      remembers = λ found. stays_same old.shard c.settle_both.new.shard
          (c.in-None.ensures.same refl).0 (fronts_used old.posts) (own_posts old.posts)
          (old.remembers found);
    }

-- the desk has one post more in the history, and each feed that may gain it did, or it is lost
pub invariant_of-desk : goal.invariant_of-desk
invariant_of-desk g c =
    let old = c.args.desk.now in
    let told = c.post-told.ensures in
    let was : c.post-told.new.self.lost ≡ false → old.posts.lost ≡ false =
    λ found. found_before (is_ok c.post-told.result) old.posts.lost c.post-told.new.self.lost
    (by_ok c.post-told.result _ _ _ told.found told.lost (λ lost. lost)) found in
    record {
      as_many = λ found. as_many_more _ (is_ok c.post-told.result) old.posts.all.history
          c.post-told.new.self.all.history c.of-post.result old.posts.lost
          c.post-told.new.self.lost (posts_made old.counted)
          (posts_made c.settle_both.new.desk)
          (by_ok c.post-told.result _ _ _ told.all told.unchanged (λ both. both.0))
          (by_ok c.post-told.result _ _ _ told.found told.lost (λ lost. lost))
          c.in-Some.ensures.counted.1 found (old.as_many (was found));
      gained = λ found. gained_more (desk_of old.counted) (desk_of c.settle_both.new.desk)
          g.J.Naming.began g.J.Naming.rings old.posts.all.history
          c.post-told.new.self.all.history c.args.article.now c.in-Some.ensures.gained
          (posted_by _ (is_ok c.post-told.result) c.args.article.now old.posts.all.history
          c.post-told.new.self.all.history c.of-post.result old.posts.lost
          c.post-told.new.self.lost c.of-post.ensures
          (by_ok c.post-told.result _ _ _ told.all told.unchanged (λ both. both.0))
          (by_ok c.post-told.result _ _ _ told.found told.lost (λ lost. lost)) found)
          (old.gained (was found));
    }

-- where nothing is settled the desk is as it was
pub invariant_of-desk-in-None : goal.invariant_of-desk-in-None
invariant_of-desk-in-None g c =
    let old = c.args.desk.now in
    let same = (c.in-None.ensures.same refl).1 in
    record {
      as_many = λ found. old.as_many found ∙ ap posts_made (sym same);
      gained = λ found. subst (λ (counted : CountedDesk _). HaveGained (desk_of counted)
          g.J.Naming.began g.J.Naming.rings old.posts.all.history) (sym same) (old.gained found);
    }

pub returns-in-Some-clause-desk : goal.returns-in-Some-clause-desk
returns-in-Some-clause-desk g c = λ found.
    let told = c.post-told.ensures in
    posted_by _ (is_ok c.post-told.result) c.args.article.now c.args.desk.now.posts.all.history
    c.post-told.new.self.all.history c.of-post.result c.args.desk.now.posts.lost
    c.post-told.new.self.lost c.of-post.ensures
    (by_ok c.post-told.result _ _ _ told.all told.unchanged (λ both. both.0))
    (by_ok c.post-told.result _ _ _ told.found told.lost (λ lost. lost)) found

pub returns-in-Some-clause-shard : goal.returns-in-Some-clause-shard
returns-in-Some-clause-shard g c = λ found.
    let old = c.args.shard.now.posts in
    let own = c.post-told.new.own in
    subst (λ (k : ℕ). IsPostedBy c.args.article.now (own_posts old) (posts_of k own.history))
    (sym c.post-told.ensures.same.0)
    (posted_by _ (is_ok c.post-told.result) c.args.article.now (own_posts old)
    (posts_of old.number own.history) c.of-post.result c.args.desk.now.posts.lost
    c.post-told.new.self.lost c.of-post.ensures
    (by_ok c.post-told.result _ _ _ c.post-told.ensures.own c.post-told.ensures.unchanged
    (λ both. both.1))
    (by_ok c.post-told.result _ _ _ c.post-told.ensures.found c.post-told.ensures.lost
    (λ lost. lost)) found)
