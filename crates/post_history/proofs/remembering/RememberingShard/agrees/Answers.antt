use Rattle.std.proofs.Common.{List, map, subst}
use Rattle.std.proofs.Math.Logic.{∥∥₁_map}
use Rattle.cyc_buffer.specs.declared.answers.Front.{Front}
use Rattle.id_history.specs.Expiry.{passed_view}
use Rattle.post_history.specs.Own.{fronts_used, own_posts}
use Rattle.post_history.specs.Remembering.{AreLater, AreOwnOnce}
use Rattle.post_history.specs.declared.post.Post.{Post}
use Rattle.post_history.proofs.RememberLemmas.{own_later}
use Rattle.post_history.proofs.remembering.RememberingShard.agrees.Goals as goal

pub returns : goal.returns
returns g c =
    let own = c.args.self.now.posts in
    let fronts = c.args.fronts.now in
    let later : AreLater own.used.items fronts =
    subst (λ (used : List Front). AreLater used fronts) c.deref.ensures.value
    (c.are_later.ensures (search)) in
    subst (λ (posts : List Post). ∥ AreOwnOnce (map passed_view fronts) g.J.Naming.began own.number
    posts ∥₁)
    (c.agree.ensures.known (search))
    (∥∥₁_map (c.args.self.now.remembers (search))
    (λ r. own_later (fronts_used own) (map passed_view fronts) later (own_posts own) r.own))
