use Rattle.std.proofs.Common.{◌≡◌, ℕ, ◌+◌, arith, subst}
use Rattle.cyc_token.specs.Token.{token_view}
use Rattle.id_history.specs.Answers.{token_of}
use Rattle.live_jobs.specs.Posting.{KeepsAtMost}
use Rattle.live_jobs.proofs.PostingLemmas.{has_room, kept_posted}
use Rattle.live_jobs.proofs.desk.CountedDesk.post.Goals as goal

-- each list that the desk keeps is one longer at most
pub invariant_of-self : goal.invariant_of-self
invariant_of-self g c =
    let desk = c.args.self.now.desk in
    let before = c.args.self.now.before in
    let posts = c.args.self.now.posts in
    let room = has_room desk (before + posts) c.args.self.now.kept c.requires.room
    c.has_room.ensures in
    record {
      counted = omega (arith, c.add.ensures.total, c.args.self.now.counted);
      room = omega (arith, c.requires.room);
      kept = subst (λ n. ∥ KeepsAtMost c.post.new.self n ∥₁) (one_more before posts)
          (kept_posted desk c.post.new.self (before + posts) c.args.permitted.now
          (token_view (token_of c.args.settled))
          (λ sizes feeds keeps. c.post.ensures sizes feeds room keeps) c.args.self.now.kept);
    }
  where
    one_more : (a b : ℕ) → a + b + 1 ≡ a + (b + 1)
    one_more a b = omega arith

-- the desk had room to count
pub returns-clause-gained : goal.returns-clause-gained
returns-clause-gained g c sizes feeds keeps =
    c.post.ensures sizes feeds
    (has_room c.args.self.now.desk (c.args.self.now.before + c.args.self.now.posts)
    c.args.self.now.kept c.requires.room c.has_room.ensures)
    keeps
