-- What the laws of groups and of writers' steps say.
use Rattle.std.proofs.Common.{◌≡◌, ◌∙◌, ℕ, List, [], ◌∷◌, refl, sym, ap, arith}
use Rattle.std.proofs.lemmas.Bool.{cond-true, cond-false, lt-ltb, le-ltb}
use Rattle.buffer_group.specs.Groups.{blocks_in}
use Rattle.buffer_group.specs.Steps.{step_tried}
use Rattle.buffer_group.specs.Writers.{step_of}
use Rattle.news_terms.specs.Places as places
use Rattle.relay_model.specs.Terms.{Terms}
use Rattle.relay_model.specs.World.{World}
use Rattle.relay_model.specs.Writers.{Writes, NoJob, Pops, HasBegun, FindsWorn, WritesBlock}
use Rattle.relay_model.specs.Writers.{FailsToWrite, HasStored, Settles, Closes, Forgets, TellsKept}
use Rattle.relay_model.specs.Writers.{TellsFailed, job_size}

-- buffers with so many blocks
pub some_buffers : List ℕ → List places.Buffer
some_buffers [] = []
some_buffers (n ∷ blocks) =
    record { number = 0; blocks = n; first_cycle = 0 } ∷ some_buffers blocks

-- they have so many
pub blocks_of_some : (blocks : List ℕ) → blocks ≡ blocks_in (some_buffers blocks)
unfolding some_buffers
blocks_of_some [] = refl
blocks_of_some (n ∷ blocks) = ap (λ ns. n ∷ ns) (blocks_of_some blocks)

-- what a Write tries is what its writer's phase is followed by
pub tries_its_step : (w : Terms) (x : World) (g now : ℕ) (x' : World)
    (write : Writes w x g now x') → step_tried write ≡ step_of (x.work.writer g)
tries_its_step w x g now x' (NoJob idle none same) = sym (ap step_of idle)
tries_its_step w x g now x' (Pops job rest idle oldest after) = sym (ap step_of idle)
tries_its_step w x g now x' (HasBegun job token σ' popped begins after) = sym (ap step_of popped)
tries_its_step w x g now x' (FindsWorn job popped worn after) = sym (ap step_of popped)
tries_its_step w x g now x' (WritesBlock job token written failures writing left rises after) =
    sym (ap step_of writing ∙ cond-true _ _ _ (lt-ltb written (job_size job) left))
tries_its_step w x g now x'
    (FailsToWrite job token written failures σ' writing left failed fails after) =
    sym (ap step_of writing ∙ cond-true _ _ _ (lt-ltb written (job_size job) left))
tries_its_step w x g now x' (HasStored job token written σ' writing all stores after) =
    sym (ap step_of writing
    ∙ cond-false _ _ _ (le-ltb written (job_size job) (omega arith)))
tries_its_step w x g now x' (Settles job token σ' finished accepts after) =
    sym (ap step_of finished)
tries_its_step w x g now x' (Closes job token failed after) = sym (ap step_of failed)
tries_its_step w x g now x' (Forgets job σ' failed abandons after) = sym (ap step_of failed)
tries_its_step w x g now x' (TellsKept s settled after) = sym (ap step_of settled)
tries_its_step w x g now x' (TellsFailed s forgotten after) = sym (ap step_of forgotten)
