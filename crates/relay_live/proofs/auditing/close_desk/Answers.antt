use Rattle.std.proofs.Common.{◌∙◌, subst, sym}
use Rattle.feed_queue.specs.declared.desk.FeedDesk.{FeedDesk}
use Rattle.relay_live.specs.Gains.{HaveGained}
use Rattle.relay_live.proofs.auditing.close_desk.Goals as goal

-- the desk is as it was, but for its count
pub invariant_of-desk : goal.invariant_of-desk
invariant_of-desk g c =
    let old = c.args.desk.now in
    let told = c.close-totals.ensures in
    record {
      as_many = λ found. old.as_many found ∙ sym told.same;
      gained = λ found. subst (λ (desk : FeedDesk). HaveGained desk g.J.Naming.began
          g.J.Naming.rings old.posts.all.history) (sym told.rings) (old.gained found);
    }

-- so it is where it has lost none
pub invariant_of-desk-else-posts : goal.invariant_of-desk-else-posts
invariant_of-desk-else-posts g c =
    let old = c.args.desk.now in
    let told = c.close-totals.ensures in
    record {
      as_many = λ found. old.as_many found ∙ sym told.same;
      gained = λ found. subst (λ (desk : FeedDesk). HaveGained desk g.J.Naming.began
          g.J.Naming.rings old.posts.all.history) (sym told.rings) (old.gained found);
    }
