-- What is shared in a Turn, and a Write, leave the sessions.
use Rattle.std.proofs.Common.{◌≡◌, ◌∙◌, ℕ, nat_lt, Bool, true, false, length, Option, ap}
use Rattle.news_terms.specs.Token.{Token}
use Rattle.relay_model.specs.Asks.{Ask, Rests, GoesOn, Says, Leaves, Offers, Looks, Reads}
use Rattle.relay_model.specs.Asks.{TakesQueue, Refuses, Takes, Pushes, LooksInSlot, Releases, Ends}
use Rattle.relay_model.specs.Shares.{Answer, Shares, Reading, IsFound, HasNotRead, Pushing}
use Rattle.relay_model.specs.State.{State, Session, Job}
use Rattle.relay_model.specs.Terms.{Terms, queue_limit}
use Rattle.relay_model.specs.World.{World}
use Rattle.relay_model.specs.Writers.{Writes, NoJob, Pops, HasBegun, FindsWorn, WritesBlock}
use Rattle.relay_model.specs.Writers.{FailsToWrite, HasStored, Settles, Closes, Forgets, TellsKept}
use Rattle.relay_model.specs.Writers.{TellsFailed}

-- the sessions of a world
abbrev pub sessions : World → ℕ → Option Session
sessions x = x.state.session

-- a token that was read
reading_sessions : (w : Terms) (x : World) (token : Token) (answer : Answer) (y : World)
    → Reading w x token answer y → sessions y ≡ sessions x
reading_sessions w x token answer y (IsFound failures rises says e) = ap sessions e
reading_sessions w x token answer y (HasNotRead failures none failed says e) = ap sessions e

-- a push
pushing_sessions : (x : World) (job : Job) (room : Bool) (answer : Answer) (y : World)
    → Pushing x job room answer y → sessions y ≡ sessions x
pushing_sessions x job true answer y pushes = ap sessions pushes.1
pushing_sessions x job false answer y pushes = ap sessions pushes.1

-- what is shared
pub shared_sessions : (w : Terms) (x : World) (s now : ℕ) (ask : Ask) (answer : Answer) (y : World)
    → Shares w x s now ask answer y → sessions y ≡ sessions x
shared_sessions w x s now Rests answer y e = ap sessions e.1
shared_sessions w x s now GoesOn answer y e = ap sessions e.1
shared_sessions w x s now (Says reply) answer y e = ap sessions e.1
shared_sessions w x s now (Leaves reply) answer y e = ap sessions e.1
shared_sessions w x s now (Offers transfer id) answer y e = ap sessions e.1
shared_sessions w x s now (Looks part id) answer y e = ap sessions e.1
shared_sessions w x s now (Reads asked token had) answer y reads =
    reading_sessions w x token answer y reads
shared_sessions w x s now (TakesQueue feed most) answer y e = ap sessions e.1
shared_sessions w x s now (Refuses transfer id reason) answer y e = ap sessions e.1
shared_sessions w x s now (Takes transfer id article) answer y e = ap sessions e.1
shared_sessions w x s now (Pushes job) answer y e =
    pushing_sessions x job (nat_lt (length (x.work.queue job.article.group)) queue_limit) answer y e
shared_sessions w x s now (LooksInSlot transfer id) answer y e = ap sessions e.1
shared_sessions w x s now (Releases id) answer y e = ap sessions e.1
shared_sessions w x s now Ends answer y e = ap sessions e.1

-- a Write
pub write_sessions : (w : Terms) (x : World) (g now : ℕ) (y : World) → Writes w x g now y
    → sessions y ≡ sessions x
write_sessions w x g now y (NoJob idle empty e) = ap sessions e
write_sessions w x g now y (Pops job rest idle queue e) = ap sessions e
write_sessions w x g now y (HasBegun job token τ has begins e) =
    ap sessions e ∙ ap (λ (σ : State). σ.session) begins.after
write_sessions w x g now y (FindsWorn job has worn e) = ap sessions e
write_sessions w x g now y (WritesBlock job token written failures has left rises e) =
    ap sessions e
write_sessions w x g now y (FailsToWrite job token written failures τ has left failed fails e) =
    ap sessions e ∙ ap (λ (σ : State). σ.session) fails.after
write_sessions w x g now y (HasStored job token written τ has all stores e) =
    ap sessions e ∙ ap (λ (σ : State). σ.session) stores.after
write_sessions w x g now y (Settles job token τ has accepts e) =
    ap sessions e ∙ ap (λ (σ : State). σ.session) accepts.after
write_sessions w x g now y (Closes job token has e) = ap sessions e
write_sessions w x g now y (Forgets job τ has abandons e) =
    ap sessions e ∙ ap (λ (σ : State). σ.session) abandons.after
write_sessions w x g now y (TellsKept s has e) = ap sessions e
write_sessions w x g now y (TellsFailed s has e) = ap sessions e
