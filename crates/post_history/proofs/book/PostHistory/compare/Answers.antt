use Rattle.std.proofs.Common.{List, ap, subst}
use mathlib.Core.List.{IsPrefix}
use Rattle.post_history.specs.declared.post.Post.{Post}
use Rattle.post_history.proofs.Fronts.{comparable}
use Rattle.post_history.proofs.book.PostHistory.compare.Goals as goal

pub returns : goal.returns
returns g c =
    let both = c.learn.new.self.log in
    let this : IsPrefix c.self.inside.seen.log both =
    subst (λ (l : List Post). IsPrefix l both) (ap (λ s. s.log) c.again-both.ensures)
    c.learn.ensures.2 in
    rw (← c.self.view_is, ← c.other.view_is)
    (comparable c.self.inside.seen.log c.other.inside.seen.log both this c.learn.ensures.3)
