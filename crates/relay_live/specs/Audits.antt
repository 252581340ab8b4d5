-- What an audit of the posts says (docs/PROTOCOL.md, Threads).
use Rattle.std.specs.Prelude.{◌≡◌, ℕ, false, List, [], Option, None, Some, IfSome, length, map}
use Rattle.id_history.specs.Expiry.{passed_view}
use Rattle.live_jobs.specs.Desks.{posts_in}
use Rattle.post_history.specs.declared.book.Naming.{Ghosts}
use Rattle.post_history.specs.declared.post.Post.{Post}
use Rattle.relay_live.specs.declared.audit.Audit.{Audit}
use Rattle.relay_live.specs.declared.audit.Audit.TheVariants as audits
use Rattle.relay_model.specs.Claims.{Passed}

-- the history, where the desk and the shards agree on it
abbrev pub history_of : {J : Type 0} {g : Ghosts J} → Audit J g → Option (List Post)
history_of (audits.Once posted) = Some posted.history
history_of audits.Differs = None

-- the fronts by which posts may be gone
abbrev pub fronts_of : {J : Type 0} {g : Ghosts J} → Audit J g → List Passed
fronts_of (audits.Once posted) = map passed_view posted.fronts.items
fronts_of audits.Differs = []

-- where the desk and the shards agree, there is a front of each of so many buffers
abbrev pub HasFrontOfEach : {J : Type 0} {g : Ghosts J} → ℕ → Audit J g → Type 0
HasFrontOfEach buffers audit = IfSome (history_of audit) (λ posts. length (fronts_of audit) ≡ buffers)
