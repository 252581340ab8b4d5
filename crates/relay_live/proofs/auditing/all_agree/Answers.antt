use Rattle.std.proofs.Common.{ℕ, ◌<◌, map, subst, sym}
use Rattle.id_history.specs.Expiry.{passed_view}
use Rattle.post_history.proofs.OnceLaws.{posted_some}
use Rattle.relay_live.proofs.auditing.all_agree.Goals as goal

-- what is so of the posts of each of sixteen shards is so of all
pub returns : goal.returns
returns g c =
    λ agree. posted_some (map passed_view c.args.fronts.now) g.J.Naming.began c.args.all.now.history
    (λ k below. c.agree_to.ensures agree k (subst (λ (n : ℕ). k < n) (sym c.requires) below))
