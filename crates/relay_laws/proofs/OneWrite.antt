-- A Write in which no device fails leads to one world.
use Rattle.std.proofs.Common.{◌≡◌, ◌∙◌, ◌<◌, ◌++◌, ◌∷◌, [], ℕ, ◌+◌, true, false, nat_lt}
use Rattle.std.proofs.Common.{nat_le, slice_get, List, Option, Some, None, refl, sym, ap, subst}
use Rattle.std.proofs.Common.{arith}
use Rattle.std.proofs.Common.{if◌then◌else◌}
use Rattle.std.proofs.lemmas.Bool.{le-leb, lt-ltb, le-ltb, lt-leb}
use Rattle.news_terms.specs.Places.{Place, last_cycle}
use Rattle.relay_model.specs.Claims.{Unknown, Stored, Begun, Whole}
use Rattle.relay_model.specs.State.{State, Job, put_id, put_at}
use Rattle.relay_model.specs.Terms.{Terms}
use Rattle.relay_model.specs.World.{World, Writer, Idle, Popped, Writing, Finished, Settled}
use Rattle.relay_model.specs.World.{Forgotten, IsKept, HasFailed, with_failures}
use Rattle.relay_model.specs.World as world
use Rattle.relay_model.specs.Writers.{Writes, NoJob, Pops, HasBegun, FindsWorn, WritesBlock}
use Rattle.relay_model.specs.Writers.{FailsToWrite, HasStored, Settles, Closes, Forgets, TellsKept}
use Rattle.relay_model.specs.Writers.{TellsFailed, begun_in, job_size, place_for, token_at}
use Rattle.relay_model.specs.Writers.{with_stage}
use Rattle.relay_model.specs.Writers.{gaining, writer_at, popped, answered}

-- the world after a begin, or after it was found worn
abbrev pub after_place : Terms → World → ℕ → Job → Option Place → World
after_place w x g job None = x
after_place w x g job (Some place) =
    if nat_le place.cycle last_cycle
    then writer_at x (record (with_stage x.state job (Begun (token_at job place))) {
      begun = put_at x.state.begun job.article.group
          (begun_in (slice_get w.groups job.article.group) (x.state.begun job.article.group)
          (job_size job));
    }) g (Writing job (token_at job place) 0)
    else writer_at x x.state g (world.Failed job None)

-- the world after a pop
abbrev pub after_pop : World → ℕ → List Job → World
after_pop x g [] = x
after_pop x g (job ∷ rest) = popped x g job rest

-- the world after a Write without a failure
abbrev pub after_write : Terms → World → (g now : ℕ) → Writer → World
after_write w x g now Idle = after_pop x g (x.work.queue g)
after_write w x g now (Popped job) = after_place w x g job (place_for w x.state job)
after_write w x g now (Writing job token written) =
    if nat_lt written (job_size job)
    then writer_at x x.state g (Writing job token (written + 1))
    else writer_at x (record (with_stage x.state job (Whole token)) {
      kept = x.state.kept ++ record { token = token; id = job.id; text = job.article.text } ∷ [];
    }) g (Finished job token)
after_write w x g now (Finished job token) =
    writer_at x (record x.state {
      claim = put_id x.state.claim job.id (Stored token now);
      feed = gaining x.state.feed job.article.permitted token;
      accepted = x.state.accepted ++ (token, job.article.permitted) ∷ [];
    }) g (Settled job.session)
after_write w x g now (world.Failed job (Some token)) =
    writer_at x x.state g (world.Failed job None)
after_write w x g now (world.Failed job None) =
    writer_at x (record x.state { claim = put_id x.state.claim job.id Unknown }) g
    (Forgotten job.session)
after_write w x g now (Settled s) = answered x g s IsKept
after_write w x g now (Forgotten s) = answered x g s HasFailed

-- by the phase that the writer is in
by_phase : (w : Terms) (x y : World) (g now : ℕ) (phase : Writer) → x.work.writer g ≡ phase
    → y ≡ after_write w x g now phase → y ≡ after_write w x g now (x.work.writer g)
by_phase w x y g now phase is e = e ∙ ap (after_write w x g now) (sym is)

-- each Write leads there
pub write_leads : (w : Terms) (x : World) (g now : ℕ) (y : World) → Writes w x g now y
    → y.work.failures ≡ x.work.failures → y ≡ after_write w x g now (x.work.writer g)
write_leads w x g now y (NoJob idle empty e) calm =
    by_phase w x y g now Idle idle (e ∙ ap (after_pop x g) (sym empty))
write_leads w x g now y (Pops job rest idle queue e) calm =
    by_phase w x y g now Idle idle (e ∙ ap (after_pop x g) (sym queue))
write_leads w x g now y (HasBegun job token τ has begins e) calm =
    let in_time : nat_le begins.place.cycle last_cycle ≡ true =
    le-leb begins.place.cycle last_cycle begins.in_time in
    by_phase w x y g now (Popped job) has
    (e ∙ ap (λ (σ : State). writer_at x σ g (Writing job token 0)) begins.after
    ∙ ap (λ one. writer_at x (record (with_stage x.state job (Begun one)) {
      begun = put_at x.state.begun job.article.group
          (begun_in (slice_get w.groups job.article.group) (x.state.begun job.article.group)
          (job_size job));
    }) g (Writing job one 0)) begins.named
    ∙ sym (ap (after_place w x g job) begins.next ∙ rw in_time refl))
write_leads w x g now y (FindsWorn job has worn e) calm =
    let past : nat_le worn.place.cycle last_cycle ≡ false =
    lt-leb worn.place.cycle last_cycle worn.past in
    by_phase w x y g now (Popped job) has
    (e ∙ sym (ap (after_place w x g job) worn.next ∙ rw past refl))
write_leads w x g now y (WritesBlock job token written failures has left rises e) calm =
    let same : failures ≡ x.work.failures =
    sym (ap (λ (one : World). one.work.failures) e) ∙ calm in
    let less : nat_lt written (job_size job) ≡ true = lt-ltb written (job_size job) left in
    by_phase w x y g now (Writing job token written) has
    (e ∙ ap (with_failures (writer_at x x.state g (Writing job token (written + 1)))) same
    ∙ rw less refl)
write_leads w x g now y (FailsToWrite job token written failures τ has left failed fails e) calm =
    let same : failures ≡ x.work.failures =
    sym (ap (λ (one : World). one.work.failures) e) ∙ calm in
    let more : x.work.failures token.buffer < x.work.failures token.buffer =
    subst (λ (f : ℕ → ℕ). x.work.failures token.buffer < f token.buffer) same failed.here in
    absurd (omega (arith, more))
write_leads w x g now y (HasStored job token written τ has all stores e) calm =
    let none : nat_lt written (job_size job) ≡ false =
    le-ltb written (job_size job) (omega (arith, all)) in
    by_phase w x y g now (Writing job token written) has
    (e ∙ ap (λ (σ : State). writer_at x σ g (Finished job token)) stores.after ∙ rw none refl)
write_leads w x g now y (Settles job token τ has accepts e) calm =
    by_phase w x y g now (Finished job token) has
    (e ∙ ap (λ (σ : State). writer_at x σ g (Settled job.session)) accepts.after)
write_leads w x g now y (Closes job token has e) calm =
    by_phase w x y g now (world.Failed job (Some token)) has e
write_leads w x g now y (Forgets job τ has abandons e) calm =
    by_phase w x y g now (world.Failed job None) has
    (e ∙ ap (λ (σ : State). writer_at x σ g (Forgotten job.session)) abandons.after)
write_leads w x g now y (TellsKept s has e) calm = by_phase w x y g now (Settled s) has e
write_leads w x g now y (TellsFailed s has e) calm = by_phase w x y g now (Forgotten s) has e
