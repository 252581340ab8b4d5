-- What an audit says, whichever it is.
use Rattle.std.proofs.Common.{◌≡◌, Bool, false, List, subst, sym}
use Rattle.std.specs.Prelude.{IfSome}
use Rattle.post_history.specs.Remembering.{ArePostedOnce}
use Rattle.post_history.specs.declared.book.Naming.{Ghosts}
use Rattle.post_history.specs.declared.post.Post.{Post}
use Rattle.relay_live.specs.Audits.{fronts_of, history_of}
use Rattle.relay_live.specs.declared.audit.Audit.{Audit}
use Rattle.relay_live.specs.declared.audit.Audit.TheVariants as audits

-- where there is a history, its posts are of one id each, but for those passed by the fronts,
pub once_of : {J : Type 0} {g : Ghosts J} (audit : Audit J g)
    → IfSome (history_of audit) (λ posts. ∥ ArePostedOnce (fronts_of audit) g.began posts ∥₁)
once_of (audits.Once posted) = posted.once
once_of audits.Differs = tt

-- and there are as many as is said
pub both_of : {J : Type 0} {g : Ghosts J} (audit : Audit J g) (P : _ → Type 0)
    → IfSome (history_of audit) P
    → IfSome (history_of audit)
    (λ posts. ∥ ArePostedOnce (fronts_of audit) g.began posts ∥₁ × P posts)
both_of (audits.Once posted) P is = (posted.once, is)
both_of audits.Differs P is = tt

-- and they are the desk's, which has lost none
pub agreed : {J : Type 0} {g : Ghosts J} (audit : Audit J g) (lost : Bool) (all : List Post)
    (P : List Post → Type 0)
    → IfSome (history_of audit) (λ posts. (lost ≡ false) × (posts ≡ all))
    → (lost ≡ false → P all) → IfSome (history_of audit) P
agreed (audits.Once posted) lost all P is has = subst P (sym is.1) (has is.0)
agreed audits.Differs lost all P is has = tt
