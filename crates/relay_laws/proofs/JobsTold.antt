-- What a job without a fault comes to: its session is told that the article was kept.
use Rattle.std.proofs.Common.{◌≡◌, ◌∙◌, ℕ, ◌+◌, true, false, List, [], ◌∷◌, Some, None, ◌⊎◌, inl}
use Rattle.std.proofs.Common.{inr, refl, sym, ap, subst, arith, true≢false}
use Rattle.relay_model.specs.Run.{Event, Write, Step}
use Rattle.relay_model.specs.State.{Job}
use Rattle.relay_model.specs.Terms.{Terms}
use Rattle.relay_model.specs.World.{World, Writer, Output, Quiet, Idle, Popped, Writing, Finished}
use Rattle.relay_model.specs.World.{Settled, Forgotten, IsKept}
use Rattle.relay_model.specs.World as world
use Rattle.relay_model.specs.Writers.{Writes, NoJob, Pops, HasBegun, FindsWorn, WritesBlock}
use Rattle.relay_model.specs.Writers.{FailsToWrite, HasStored, Settles, Closes, Forgets, TellsKept}
use Rattle.relay_model.specs.Writers.{TellsFailed}
use Rattle.relay_facts.proofs.Puts.{put_at_here}
use Rattle.relay_laws.specs.Counts.{FindsNoFault, RunOfJob, is_failed}
use Rattle.relay_laws.proofs.RunsOfJobs.{own_done}
use Rattle.relay_laws.proofs.WriterSteps.{Writer_goes, Is_left, Is_write, writer_goes, writers}

-- the writer is at this job, and found no fault of it
abbrev Serves : Job → Writer → Type 0
Serves job Idle = ⊥
Serves job (Popped one) = one ≡ job
Serves job (Writing one token written) = one ≡ job
Serves job (Finished one token) = one ≡ job
Serves job (world.Failed one open_one) = ⊥
Serves job (Settled session) = session ≡ job.session
Serves job (Forgotten session) = ⊥

-- the session is told that its article was kept, and the writer has no job
record IsTold (y : World) (g : ℕ) (job : Job) : Type 0 where
  idle : y.work.writer g ≡ Idle
  told : y.work.slot job.session ≡ Some IsKept

-- the writer of the group goes on to this
goes_to : (x y z : World) (g : ℕ) (job : Job) (next : Writer) → y ≡ z → writers z g ≡ next
    → Serves job next → Serves job (y.work.writer g) ⊎ IsTold y g job
goes_to x y z g job next e is serves =
    inl (subst (Serves job) (sym (ap (λ (v : World). writers v g) e ∙ is)) serves)

-- a fault is found
fault_none : (x y z : World) (g : ℕ) (before after : Writer) → FindsNoFault x y g
    → x.work.writer g ≡ before → y ≡ z → writers z g ≡ after → is_failed before ≡ false
    → is_failed after ≡ true → ⊥
fault_none x y z g before after none was e is had has =
    true≢false
    (sym (none (ap (λ (v : World). is_failed (writers v g)) e ∙ ap is_failed is ∙ has))
    ∙ ap is_failed was ∙ had)

-- each Write that finds no fault goes on with the job, or tells its session
write_serves : (w : Terms) (x : World) (g now : ℕ) (y : World) (job : Job) → Writes w x g now y
    → FindsNoFault x y g → Serves job (x.work.writer g)
    → Serves job (y.work.writer g) ⊎ IsTold y g job
write_serves w x g now y job (NoJob idle empty e) none serves =
    absurd (subst (Serves job) idle serves)
write_serves w x g now y job (Pops one rest idle queue e) none serves =
    absurd (subst (Serves job) idle serves)
write_serves w x g now y job (HasBegun one token τ has begins e) none serves =
    goes_to x y _ g job (Writing one token 0) e (put_at_here x.work.writer g _ g refl)
    (subst (Serves job) has serves)
write_serves w x g now y job (FindsWorn one has worn e) none serves =
    absurd (fault_none x y _ g (Popped one) (world.Failed one None) none has e
    (put_at_here x.work.writer g _ g refl) refl refl)
write_serves w x g now y job (WritesBlock one token written failures has left rises e) none serves =
    goes_to x y _ g job (Writing one token (written + 1)) e
    (put_at_here x.work.writer g _ g refl) (subst (Serves job) has serves)
write_serves w x g now y job (FailsToWrite one token written failures τ has left failed fails e)
    none serves =
    absurd (fault_none x y _ g (Writing one token written) (world.Failed one (Some token)) none has
    e (put_at_here x.work.writer g _ g refl) refl refl)
write_serves w x g now y job (HasStored one token written τ has all stores e) none serves =
    goes_to x y _ g job (Finished one token) e (put_at_here x.work.writer g _ g refl)
    (subst (Serves job) has serves)
write_serves w x g now y job (Settles one token τ has accepts e) none serves =
    goes_to x y _ g job (Settled one.session) e (put_at_here x.work.writer g _ g refl)
    (ap (λ (j : Job). j.session) (subst (Serves job) has serves))
write_serves w x g now y job (Closes one token has e) none serves =
    absurd (subst (Serves job) has serves)
write_serves w x g now y job (Forgets one τ has abandons e) none serves =
    absurd (subst (Serves job) has serves)
write_serves w x g now y job (TellsKept s has e) none serves =
    inr (record {
      idle =
          ap (λ (v : World). writers v g) e ∙ put_at_here x.work.writer g Idle g refl;
      told =
          ap (λ (v : World). v.work.slot job.session) e
          ∙ put_at_here x.work.slot s (Some IsKept) job.session
          (sym (subst (Serves job) has serves));
    })
write_serves w x g now y job (TellsFailed s has e) none serves =
    absurd (subst (Serves job) has serves)

-- once its session is told, the run of a job is at its end
told_last : (w : Terms) (y x' : World) (g : ℕ) (job : Job) (events : List Event)
    (outputs : List Output) → IsTold y g job → RunOfJob w g y events outputs x'
    → x'.work.slot job.session ≡ Some IsKept
told_last w y x' g job [] [] is run =
    ap (λ (v : World). v.work.slot job.session) run ∙ is.told
told_last w y x' g job [] (output ∷ outputs) is run = absurd run
told_last w y x' g job (event ∷ events) [] is run = absurd run
told_last w y x' g job (event ∷ events) (output ∷ outputs) is run = absurd (run.3 is.idle)

-- so the run of a job that ends with its answer ends with that
run_tells : (w : Terms) (x x' : World) (g : ℕ) (job : Job) (events : List Event)
    (outputs : List Output) → RunOfJob w g x events outputs x' → Serves job (x.work.writer g)
    → x'.work.writer g ≡ Idle → x'.work.slot job.session ≡ Some IsKept
run_tells w x x' g job [] [] run serves idle =
    absurd (subst (Serves job) (sym (ap (λ (v : World). writers v g) run) ∙ idle) serves)
run_tells w x x' g job [] (output ∷ outputs) run serves idle = absurd run
run_tells w x x' g job (event ∷ events) [] run serves idle = absurd run
run_tells w x x' g job (event ∷ events) (output ∷ outputs) run serves idle =
    by (writer_goes w x run.0 g event output run.2 run.1)
    (λ later. run_tells w run.0 x' g job events outputs run.5 later idle)
  where
    by : Writer_goes w x run.0 g event output
        → (Serves job (run.0.work.writer g) → x'.work.slot job.session ≡ Some IsKept)
        → x'.work.slot job.session ≡ Some IsKept
    by (Is_left same none) later = later (subst (Serves job) (sym same) serves)
    by (Is_write now writes done) later =
        on (write_serves w x g now run.0 job writes run.4 serves)
      where
        on : Serves job (run.0.work.writer g) ⊎ IsTold run.0 g job
            → x'.work.slot job.session ≡ Some IsKept
        on (inl serving) = later serving
        on (inr told) = told_last w run.0 x' g job events outputs told run.5

-- the Write that pops a job has it
pop_serves : (w : Terms) (x y : World) (g now : ℕ) (job : Job) (rest : List Job)
    → x.work.writer g ≡ Idle → x.work.queue g ≡ job ∷ rest → Writes w x g now y
    → y.work.writer g ≡ Popped job
pop_serves w x y g now job rest idle queue writes = grind arith

-- from the pop on
pub job_told : (w : Terms) (x y x' : World) (g now : ℕ) (job : Job) (rest : List Job)
    (events : List Event) (outputs : List Output) → x.work.writer g ≡ Idle
    → x.work.queue g ≡ job ∷ rest → Step w x (Write g now) Quiet y
    → RunOfJob w g y events outputs x' → x'.work.writer g ≡ Idle
    → x'.work.slot job.session ≡ Some IsKept
job_told w x y x' g now job rest events outputs idle queue step run answered =
    by (writer_goes w x y g (Write g now) Quiet (λ e quiet. absurd (cc)) step)
  where
    by : Writer_goes w x y g (Write g now) Quiet → x'.work.slot job.session ≡ Some IsKept
    by (Is_left same none) = absurd (true≢false (sym (own_done g now) ∙ none))
    by (Is_write at writes done) =
        run_tells w y x' g job events outputs run
        (subst (Serves job) (sym (pop_serves w x y g at job rest idle queue writes)) refl) answered
