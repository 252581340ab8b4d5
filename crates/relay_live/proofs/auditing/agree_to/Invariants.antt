use Rattle.std.proofs.Common.{ℕ, ◌<◌, map}
use Rattle.id_history.specs.Expiry.{passed_view}
use Rattle.post_history.specs.Posts.{posts_of}
use Rattle.post_history.specs.Remembering.{AreOwnOnce}
use Rattle.relay_live.proofs.auditing.agree_to.Given as goal

-- the shards so far agree
abbrev pub invariant-loop-k : goal.invariant-loop-k
invariant-loop-k g l =
    (j : ℕ) → j < l.k
    → ∥ AreOwnOnce (map passed_view l.fronts) g.J.Naming.began j (posts_of j l.all.history) ∥₁
